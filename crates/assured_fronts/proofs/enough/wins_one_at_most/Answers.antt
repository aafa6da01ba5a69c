use Rattle.std.proofs.Common.{◌≡◌, ◌<◌, ◌+◌, ◌++◌, ◌∷◌, ◌∙◌, All, List, Contains, length, take, take_all, [], sym, ap, subst, ⊎_elim, rules, arith}
use Rattle.std.proofs.lemmas.List.{take_more}
use Rattle.std.proofs.lemmas.List.Elements.{Contains-get_or}
use Rattle.win_vectors.specs.Vectors.{ones_of, meet_of, restrict_of}
use Rattle.win_vectors.specs.Fronts.{Vector}
use Rattle.strategy_games.proofs.Lists.{All-from, All-at, Contains-append, Contains-single}
use Rattle.assured_fronts.proofs.OneAtATime.{ones_kept}
use Rattle.assured_fronts.proofs.enough.wins_one_at_most.Goals as goal

pub meet-requires : goal.meet-requires
meet-requires c =
    let items : List Vector = c.as_slice-vector-items.result.now in
    let among : Contains items c.vector-item.result = subst (λ (v : Vector). Contains items v) (sym c.vector-item.is) (Contains-get_or items c.loop-vector.vector-index c.vector-item.result c.loop-vector-test.true) in
    let among_front = subst (λ (vs : List Vector). Contains vs c.vector-item.result) c.as_slice-vector-items.ensures.value among in
    All-at (λ v. length v ≡ c.args.front.now.width) c.args.front.now.vectors c.as_slice-vector-items.ensures.front.one_width c.vector-item.result among_front ∙ sym c.requires

pub loop-vector-preserved : goal.loop-vector-preserved
loop-vector-preserved c =
    let items : List Vector = c.as_slice-vector-items.result.now in
    let mask : Vector = c.args.mask in
    let done = c.loop-vector.vector-index in
    let item : Vector = c.vector-item.result in
    let met : ones_of (meet_of item mask) < 2 = search rules in
    let few : ones_of (restrict_of item mask) < 2 = (let less = ones_kept item mask in omega arith) in
    let more : take done items ++ item ∷ [] ≡ take (done + 1) items =
    sym (take_more items done item c.loop-vector-test.true ∙ ap (λ (v : Vector). take done items ++ v ∷ []) (sym c.vector-item.is)) in
    subst (λ (vs : List Vector). All (λ v. ones_of (restrict_of v mask) < 2) vs) more
    (All-from (λ v. ones_of (restrict_of v mask) < 2) (take done items ++ item ∷ [])
    (λ v k. ⊎_elim
    (λ (l : Contains (take done items) v). All-at (λ v. ones_of (restrict_of v mask) < 2) (take done items) c.loop-vector.invariant v l)
    (λ (l : Contains (item ∷ []) v). subst (λ (v : Vector). ones_of (restrict_of v mask) < 2) (Contains-single item v l) few)
    (Contains-append (take done items) (item ∷ []) v k)))

pub returns : goal.returns
returns c is =
    let items = c.as_slice-vector-items.result.now in
    let whole : take c.loop-vector.vector-index items ≡ items = take_all c.loop-vector.vector-index items c.loop-vector-test.false in
    subst (λ (vs : List Vector). All (λ v. ones_of (restrict_of v c.args.mask) < 2) vs) (whole ∙ c.as_slice-vector-items.ensures.value) c.loop-vector.invariant
