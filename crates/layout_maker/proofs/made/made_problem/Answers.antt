use Rattle.std.proofs.Common.{◌≡◌, ℕ, List, take, drop, refl, ap, ap₂, ◌∙◌, arith}
use Rattle.std.proofs.lemmas.List.{take-take, drop-take}
use Rattle.layout_maker.specs.Generator.{Shuffle, shuffled, orders}
use Rattle.layout_maker.specs.MadeProblem.{dealt, set_of, south_hand, north_hand, deal_file, layout_file, made_deal, made_layouts}
use Rattle.layout_maker.proofs.made.made_problem.Goals as goal

pub returns : goal.returns
unfolding made_deal made_layouts
returns c =
    let number = c.args.number in
    let start : Shuffle = record { items = c.short_pack-cards.result; state = c.new-generator.result } in
    let whole : shuffled start ≡ dealt number = ap₂ (λ (i : List ℕ) (s : ℕ). shuffled (record { items = i; state = s })) c.short_pack-cards.ensures c.new-generator.ensures in
    let cards : c.shuffle.new.cards ≡ (dealt number).items = c.shuffle.ensures.cards ∙ ap (λ (s : Shuffle). s.items) whole in
    let state : c.shuffle.new.self ≡ (dealt number).state = c.shuffle.ensures.state ∙ ap (λ (s : Shuffle). s.state) whole in
    let north : c.set_of-north.result ≡ north_hand number =
    c.set_of-north.ensures.value
    ∙ ap set_of (c.split_at.ensures.back ∙ ap (drop 5) c.split_at_mut-own.ensures.front ∙ drop-take 5 5 c.shuffle.new.cards ∙ ap (λ (i : List ℕ). take 5 (drop 5 i)) cards) in
    let south : c.set_of-south.result ≡ south_hand number =
    c.set_of-south.ensures.value
    ∙ ap set_of (c.split_at.ensures.front ∙ ap (take 5) c.split_at_mut-own.ensures.front ∙ take-take 5 10 c.shuffle.new.cards (omega arith) ∙ ap (take 5) cards) in
    let others : c.split_at_mut-own.result.1.now ≡ drop 10 (dealt number).items = c.split_at_mut-own.ensures.back ∙ ap (drop 10) cards in (
      c.in_ok-deal_file.ensures ∙ ap₂ deal_file north south,
      c.in_ok-layout_file.ensures
          ∙ ap₂ (λ (n s : List ℕ). layout_file n s (orders 40 (record { items = c.split_at_mut-own.result.1.now; state = c.shuffle.new.self }))) north south
          ∙ ap₂ (λ (i : List ℕ) (s : ℕ). layout_file (north_hand number) (south_hand number) (orders 40 (record { items = i; state = s }))) others state,
      refl,
    )
