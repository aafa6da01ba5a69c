use Rattle.std.proofs.Common.{sym, subst, ◌∙◌}
use Rattle.trick_rules.specs.Positions.{State, IsState}
use Rattle.sure_tricks.specs.Stoppers.{AreStoppers}
use Rattle.dd_solver.specs.NeedsAll.{DoOutlast}
use Rattle.dd_solver.proofs.NeedsAll.{are_stoppers, failure_answers}
use Rattle.dd_solver.proofs.needs_all.needs_all_answer.Goals as goal

pub returns : goal.returns
returns c =
    let s : State = record { position = c.args.position.now; left = c.args.left } in
    let ok : IsState s = record { sound = c.tricks_left-tricks.ensures.sound; fits = c.requires.fits } in
    let hands = c.of-hands.ensures in
    let all = c.stoppers_of-stoppers in
    let kept = c.fewest in
    let are : AreStoppers s c.to_play.result kept.result = are_stoppers s ok c.to_play.result c.of-hands.result hands.own hands.next hands.partner hands.last
    c.either-ours.result c.either.result all.result kept.result c.either-ours.ensures.value c.either.ensures.value all.ensures.held all.ensures.ours all.ensures.theirs kept.ensures.within
    (subst (λ n. DoOutlast c.of-hands.result kept.result n) c.tricks_left-tricks.ensures.value kept.ensures.outlast) in
    record {
      closed = c.with_higher.ensures.closed;
      answers = failure_answers c.with_higher.result s kept.result c.with_higher.ensures.closed c.with_higher.ensures.within ok c.requires.between (c.needs_all.ensures.no_trump c.if-not-needs_all.false)
          (subst (λ x. AreStoppers s x kept.result) c.to_play.ensures.value are) c.is_ours.result (sym c.is_ours.ensures)
          (λ e. c.needs_all.ensures.ours c.if-not-needs_all.false (sym c.is_ours.ensures ∙ e)) (λ e. c.needs_all.ensures.theirs c.if-not-needs_all.false (sym c.is_ours.ensures ∙ e));
    }
