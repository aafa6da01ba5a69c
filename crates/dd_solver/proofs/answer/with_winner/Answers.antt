use Rattle.std.proofs.Common.{◌≡◌, ◌≢◌, ◌<◌, ℕ, true, List, [], ◌∷◌, ◌++◌, length, get_or, sym, ap, subst, ◌∙◌, inl, inr, arith}
use Rattle.std.proofs.lemmas.List.{length_push}
use Rattle.std.proofs.lemmas.Grind.{get_or_default_zero}
use Rattle.card_sets.specs.Cards.{suit_of}
use Rattle.card_sets.specs.SetWords.{has_card}
use Rattle.dd_solver.proofs.Winner.{settled_by, card_fits, up_here}
use Rattle.dd_solver.proofs.answer.with_winner.Goals as goal

pub returns-then-is_alone-clause-settles : goal.returns-then-is_alone-clause-settles
returns-then-is_alone-clause-settles c left third =
    let t = c.args.position.now in
    let place = c.args.place in
    settled_by t c.args.card c.requires.sound c.requires.held third c.args.part place c.requires.within c.requires.wins
    (inr (λ other low differs. subst (λ (xs : List ℕ). suit_of (get_or xs other 0) ≢ suit_of (get_or xs place 0)) c.cards_with-cards.ensures
    (c.is_alone.ensures c.if-is_alone.true other low differs)))

pub returns-else-is_alone-clause-settles : goal.returns-else-is_alone-clause-settles
returns-else-is_alone-clause-settles c left third =
    let t = c.args.position.now in
    let place = c.args.place in
    let xs = c.cards_with-cards.result in
    let d = get_or xs place c.index-cards-place.result in
    let here : get_or (t.trick.cards ++ c.args.card ∷ []) place 0 ≡ d
    = ap (λ (l : List ℕ). get_or l place 0) (sym c.cards_with-cards.ensures) ∙ sym (get_or_default_zero xs place c.index-cards-place.result (omega (arith, c.requires.within, ap (length {A = ℕ}) c.cards_with-cards.ensures, length_push t.trick.cards c.args.card, third))) in
    let fits : d < 52 = subst (λ x. x < 52) here (card_fits t c.args.card c.requires.sound c.requires.held third place c.requires.within) in
    settled_by t c.args.card c.requires.sound c.requires.held third c.with_up.result place c.requires.within c.requires.wins
    (inl (subst (λ x. has_card c.with_up.result x ≡ true) (sym here) (up_here c.with_up.result c.args.part d fits c.with_up.ensures.value)))
