use Rattle.std.proofs.Common.{◌≡◌, ℕ, Bool, ◌++◌, [], ◌∷◌, not, filter, map, ap₂, sym, ◌∙◌, arith}
use Rattle.std.specs.List.{range_with_len}
use Rattle.card_sets.specs.SetWords.{has_card}
use Rattle.pbn_deal.specs.BoardRead.{together}
use Rattle.suit_problem.specs.Endings.{side_card, north_hand, south_hand}
use Rattle.suit_problem.proofs.Lists.{passing_more}
use Rattle.suit_problem.proofs.sides.side_cards.Goals as goal

pub loop-place-preserved : goal.loop-place-preserved
loop-place-preserved c =
    let p : ℕ → Bool = λ card. not (has_card c.either-ours.result card) in
    c.in_ok-push_unless.ensures
    ∙ ap₂ (λ items card. items ++ filter p (card ∷ [])) c.loop-place.invariant c.side_card.ensures
    ∙ sym (passing_more p side_card c.loop-place.place)

pub returns : goal.returns
returns c =
    let ending = c.args.ending.now in
    let all : c.loop-place.place ≡ 39 = omega arith in
    let ours : c.either-ours.result ≡ together (north_hand ending) (south_hand ending) = c.either-ours.ensures.value ∙ ap₂ together c.north_hand.ensures c.south_hand.ensures in
    c.loop-place.invariant ∙ ap₂ (λ held n. filter (λ card. not (has_card held card)) (map side_card (range_with_len 0 n))) ours all
