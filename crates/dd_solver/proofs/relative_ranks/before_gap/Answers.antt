use Rattle.std.proofs.Common.{◌≡◌, ◌<◌, ◌≤◌, ◌-◌, ◌||◌, Some, None, eqb, filter, sym, ap, ◌∙◌, arith}
use Rattle.card_sets.specs.Cards.{suit_of, same_suit, rank_of}
use Rattle.card_sets.specs.SetWords.{has_card, cards_where, first_card}
use Rattle.dd_solver.proofs.Gaps.{gap_out, gap_in}
use Rattle.dd_solver.proofs.NextLower.{no_card_of_suit, at_the_end, more_within, more_closed, more_next}
use Rattle.dd_solver.proofs.relative_ranks.before_gap.Goals as goal

pub returns-then-not-has-clause-back : goal.returns-then-not-has-clause-back
returns-then-not-has-clause-back c s t made ok g answer =
    gap_out c.args.counting c.args.counting made c.requires c.args.gap s t ok g (sym c.has.ensures.value ∙ c.if-not-has.true) answer

pub returns-in-Some-clause-closed : goal.returns-in-Some-clause-closed
returns-in-Some-clause-closed c =
    let first : first_card (filter (λ d. same_suit (suit_of d) (suit_of c.args.gap)) c.args.counting) ≡ Some c.in-Some.lowest =
    ap (λ u. first_card (filter (λ d. same_suit (suit_of d) u) c.args.counting)) (sym c.suit.ensures.value) ∙ sym (ap first_card c.of_suit.ensures.value) ∙ sym c.first.ensures.value ∙ c.in-Some.is in
    let below : 2 < rank_of c.in-Some.lowest = omega (arith, c.rank.ensures.value, c.number.ensures.value, c.if-number-gt2.true) in
    let is : c.with.result ≡ cards_where (λ d. has_card c.args.counting d || eqb d (c.in-Some.lowest - 1)) =
    c.with.ensures.value ∙ ap (λ p. cards_where (λ d. has_card c.args.counting d || eqb d p)) (c.from_number.ensures ∙ ap (λ n. n - 1) c.number-in-Some.ensures.value) in
    more_closed c.args.counting c.args.gap c.in-Some.lowest c.suit.ensures.below c.requires c.has.ensures.a_set first below c.with.result is

pub returns-in-Some-clause-back : goal.returns-in-Some-clause-back
returns-in-Some-clause-back c s t made ok g answer =
    let first : first_card (filter (λ d. same_suit (suit_of d) (suit_of c.args.gap)) c.args.counting) ≡ Some c.in-Some.lowest =
    ap (λ u. first_card (filter (λ d. same_suit (suit_of d) u) c.args.counting)) (sym c.suit.ensures.value) ∙ sym (ap first_card c.of_suit.ensures.value) ∙ sym c.first.ensures.value ∙ c.in-Some.is in
    let below : 2 < rank_of c.in-Some.lowest = omega (arith, c.rank.ensures.value, c.number.ensures.value, c.if-number-gt2.true) in
    let is : c.with.result ≡ cards_where (λ d. has_card c.args.counting d || eqb d (c.in-Some.lowest - 1)) =
    c.with.ensures.value ∙ ap (λ p. cards_where (λ d. has_card c.args.counting d || eqb d p)) (c.from_number.ensures ∙ ap (λ n. n - 1) c.number-in-Some.ensures.value) in
    gap_in c.args.counting c.with.result made c.requires
    (more_closed c.args.counting c.args.gap c.in-Some.lowest c.suit.ensures.below c.requires c.has.ensures.a_set first below c.with.result is)
    (more_within c.args.counting c.args.gap c.in-Some.lowest c.suit.ensures.below c.requires c.has.ensures.a_set first below c.with.result is)
    c.args.gap s t ok g
    (more_next c.args.counting c.args.gap c.in-Some.lowest c.suit.ensures.below c.requires c.has.ensures.a_set first below c.with.result is)
    answer

pub returns-in_default-clause-back : goal.returns-in_default-clause-back
returns-in_default-clause-back c s t made ok g answer =
    let first : first_card (filter (λ d. same_suit (suit_of d) (suit_of c.args.gap)) c.args.counting) ≡ Some c.in-Some.lowest =
    ap (λ u. first_card (filter (λ d. same_suit (suit_of d) u) c.args.counting)) (sym c.suit.ensures.value) ∙ sym (ap first_card c.of_suit.ensures.value) ∙ sym c.first.ensures.value ∙ c.in-Some.is in
    let end : rank_of c.in-Some.lowest ≤ 2 = omega (arith, c.rank.ensures.value, c.number.ensures.value, c.if-number-gt2.false) in
    gap_in c.args.counting c.args.counting made c.requires c.requires (λ d h. h) c.args.gap s t ok g
    (at_the_end c.args.counting c.args.gap c.in-Some.lowest c.suit.ensures.below c.requires c.has.ensures.a_set first end) answer

pub returns-in_default-2-clause-back : goal.returns-in_default-2-clause-back
returns-in_default-2-clause-back c s t made ok g answer =
    let none : first_card (filter (λ d. same_suit (suit_of d) (suit_of c.args.gap)) c.args.counting) ≡ None =
    ap (λ u. first_card (filter (λ d. same_suit (suit_of d) u) c.args.counting)) (sym c.suit.ensures.value) ∙ sym (ap first_card c.of_suit.ensures.value) ∙ sym c.first.ensures.value ∙ c.in_default.is in
    absurd (no_card_of_suit c.args.counting c.args.gap (sym c.has.ensures.value ∙ c.if-not-has.false) none)
