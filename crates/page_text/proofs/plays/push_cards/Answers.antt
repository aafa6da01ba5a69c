use Rattle.std.proofs.Common.{◌≡◌, ◌∙◌, ◌++◌, get_or, sym, ap, append_assoc}
use Rattle.std.proofs.lemmas.Option.{get_or_from_slice_get}
use Rattle.html_text.specs.Pages.{own}
use Rattle.page_text.specs.Plays.{before_card, bare_card, played_card}
use Rattle.page_text.proofs.Grown.{place_more}
use Rattle.page_text.proofs.plays.push_cards.Goals as goal

pub loop-place-preserved : goal.loop-place-preserved
loop-place-preserved c =
    let begun = c.args.begun in
    let cards = c.args.cards.now in
    let place = c.loop-place.place in
    let card : c.get.result ≡ get_or cards place 0 = sym (get_or_from_slice_get cards place c.get.result 0 c.get.ensures) in
    place_more (played_card begun cards) c.args.page.now c.loop-place.page c.push_bare_card.new.page place c.loop-place.invariant
    (c.in_ok-push_bare_card.ensures ∙ ap (λ t. t ++ bare_card c.get.result) (c.in_ok-own.ensures ∙ ap (λ t. c.loop-place.page ++ own t) c.before_card.ensures)
    ∙ append_assoc c.loop-place.page (own (before_card begun place)) (bare_card c.get.result)
    ∙ ap (λ x. c.loop-place.page ++ (own (before_card begun place) ++ bare_card x)) card)
