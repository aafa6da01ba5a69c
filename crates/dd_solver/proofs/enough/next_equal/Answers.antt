use Rattle.std.proofs.Common.{rules, ◌≡◌, Some, nat_lt, ap, sym, ◌∙◌, arith}
use Rattle.std.proofs.lemmas.Bool.{false≢true, ltb-true, lt-ltb, false_from_ne_true}
use denote.Enum.Bare.{same_true, same_false}
use Rattle.card_sets.specs.contracts.card.Suit.{the_type}
use Rattle.card_sets.specs.Cards.{suit_of}
use Rattle.card_sets.specs.SetWords.{has_card, next_card}
use Rattle.card_sets.proofs.Sets.{find-holds, find-first}
use Rattle.dd_solver.proofs.EqualsDown.{none_next, next_only}
use Rattle.dd_solver.proofs.enough.next_equal.Goals as goal
use Rattle.dd_solver.proofs.enough.next_equal.Goals.{else-has-via-then-has+else-eq, else-has-via-else-has}

pub returns-in_err-next-clause-each : goal.returns-in_err-next-clause-each
returns-in_err-next-clause-each c within next h = absurd (none_next c.args.legal c.args.playing c.args.card next within (sym c.in_err-next.ensures.value) h)

pub returns-then-eq-clause-is : goal.returns-then-eq-clause-is
returns-then-eq-clause-is c =
    let next = c.in_ok-next.next in
    let card = c.args.card in
    let playing = c.args.playing in
    let found : next_card playing card ≡ Some next = sym c.in_ok-next.ensures.value in
    let suits : c.suit.result ≡ c.suit-then-has.result = same_true the_type (search rules) _ _ (sym c.if-eq.ensures) in
    record {
      legal_too = sym c.if-has.ensures.value;
      suit = sym c.suit-then-has.ensures.value ∙ sym suits ∙ c.suit.ensures.value;
      order = ltb-true card next (find-holds (nat_lt card) playing next found).1;
      between = λ other above below. false_from_ne_true (has_card playing other) (λ h.
          let late = find-first (nat_lt card) playing next other c.after.ensures.a_set found h (lt-ltb card other above) in absurd (omega arith));
    }

pub returns-then-eq-clause-each : goal.returns-then-eq-clause-each
returns-then-eq-clause-each c within next h =
    ap Some (next_only c.args.legal c.args.playing c.args.card c.in_ok-next.next next within c.after.ensures.a_set (sym c.in_ok-next.ensures.value) h)

pub returns-else-has-clause-each : goal.returns-else-has-clause-each
returns-else-has-clause-each c within next h =
    let same : c.in_ok-next.next ≡ next = next_only c.args.legal c.args.playing c.args.card c.in_ok-next.next next within c.after.ensures.a_set (sym c.in_ok-next.ensures.value) h in
    absurd (elim c.else-has.branch [
      | else-has-via-then-has+else-eq w ↦
          same_false the_type _ _ (sym w.eq.ensures ∙ w.if-eq.false) (w.suit.ensures.value ∙ ap suit_of same ∙ sym h.suit ∙ sym w.suit-then-has.ensures.value)
      | else-has-via-else-has w ↦ false≢true (sym w.if-has.false ∙ c.has.ensures.value ∙ ap (λ x. has_card c.args.legal x) same ∙ h.legal_too)
    ])
