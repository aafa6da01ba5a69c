use Rattle.std.proofs.Common.{refl, ap, ◌∙◌}
use Rattle.std.proofs.lemmas.Bool.{false≢true}
use Rattle.std.specs.Prelude.{not}
use Rattle.card_sets.specs.SetWords.{has_card}
use Rattle.card_sets.proofs.Sets.{has_card-filter}
use Rattle.dd_solver.specs.Turns.{turn_state}
use Rattle.dd_solver.proofs.EqualsDown.{legal_plays, equal_is_next}
use Rattle.dd_solver.proofs.Winner.{either-first}
use Rattle.dd_solver.proofs.JustBelow.{down-end, others-more, closed-more, fewer-left}
use Rattle.dd_solver.proofs.enough.with_lower_equals.Goals as goal

pub closed_down-requires-clause-playing : goal.closed_down-requires-clause-playing
closed_down-requires-clause-playing c =
    legal_plays (turn_state c.args.turn.now) c.args.legal c.args.turn.now.playing c.requires.turn.state c.requires.legal c.requires.turn.playing

pub returns-then-not-is_empty-clause-down : goal.returns-then-not-is_empty-clause-down
returns-then-not-is_empty-clause-down c low high eq =
    c.closed_down.ensures.down low high (ap (λ x. has_card x low) c.requires.legal ∙ eq.low_legal)
    (equal_is_next (turn_state c.args.turn.now) c.args.legal c.args.turn.now.playing low high c.requires.turn.state c.requires.legal c.requires.turn.playing eq)

pub loop-legal-init : goal.loop-legal-init
loop-legal-init c = record {
  a_set = c.is_empty-2.ensures.a_set;
  closed = c.requires.closed;
  within = λ card h. h;
  others = λ card h out. ap (λ x. has_card x card) c.minus-rest.ensures.value ∙ has_card-filter (λ d. not (has_card c.args.counting d)) c.args.legal card ∙ rw (h, out) refl;
  part = c.just_below-lower.ensures.within;
  counts = c.just_below-lower.ensures.counts;
  all = c.just_below-lower.ensures.all;
}

pub loop-legal-preserved : goal.loop-legal-preserved
loop-legal-preserved c =
    let inv = c.loop-legal.invariant in
    let closed = c.loop-legal.closed in
    let rest = c.loop-legal.rest in
    let lower = c.loop-legal.lower in
    let turn = c.requires.turn in
    record {
      a_set = c.either-closed.ensures.a_set;
      closed = closed-more closed lower c.either-closed.result inv.closed inv.counts c.either-closed.ensures.value;
      within = λ card h. either-first closed lower c.either-closed.result c.either-closed.ensures.value inv.a_set card (inv.within card h);
      others = others-more (turn_state c.args.turn.now) turn.state c.args.legal c.args.turn.now.playing c.requires.legal turn.playing closed rest lower c.either-closed.result c.minus-rest-in-loop-legal.result
          c.either-closed.ensures.value c.minus-rest-in-loop-legal.ensures.value inv.others;
      part = c.just_below-lower-in-loop-legal.ensures.within;
      counts = c.just_below-lower-in-loop-legal.ensures.counts;
      all = c.just_below-lower-in-loop-legal.ensures.all;
    }

pub loop-legal-smaller : goal.loop-legal-smaller
loop-legal-smaller c =
    fewer-left c.loop-legal.rest c.loop-legal.lower c.minus-rest-in-loop-legal.result c.loop-legal.invariant.part
    (λ none. false≢true (c.loop-legal-test.ensures.value.1 none)) c.minus-rest-in-loop-legal.ensures.value

pub returns-clause-down : goal.returns-clause-down
returns-clause-down c =
    let inv = c.loop-legal.invariant in
    let turn = c.requires.turn in
    down-end (turn_state c.args.turn.now) turn.state c.args.legal c.args.turn.now.playing c.requires.legal turn.playing c.loop-legal.closed c.loop-legal.rest c.loop-legal.lower
    (λ card h. c.below_gaps.ensures.none card h (ap (λ x. has_card x card) (c.if-not-is_empty.ensures.value.0 refl)))
    inv.others inv.all (c.loop-legal-test.ensures.value.0 refl)
