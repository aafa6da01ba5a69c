use Rattle.std.proofs.Common.{sym, ap, ◌∙◌}
use Rattle.card_sets.specs.SetWords.{has_card}
use Rattle.trick_rules.proofs.CardLists.{take_out-low}
use Rattle.dd_solver.proofs.needs_all.fewest.Goals as goal

pub loop-card-init : goal.loop-card-init
loop-card-init c = record { outlast = c.requires; within = λ card h. h }

pub loop-card-preserved-then-do_outlast : goal.loop-card-preserved-then-do_outlast
loop-card-preserved-then-do_outlast c = record {
  outlast = c.do_outlast.ensures c.if-do_outlast.true;
  within = λ card h. c.loop-card.invariant.within card (take_out-low c.in-Some.card c.loop-card.kept card (sym (ap (λ x. has_card x card) c.without-fewer.ensures.value) ∙ h));
}

pub loop-card-preserved : goal.loop-card-preserved
loop-card-preserved c = record { outlast = c.loop-card.invariant.outlast; within = c.loop-card.invariant.within }

pub returns-clause-outlast : goal.returns-clause-outlast
returns-clause-outlast c = c.loop-card.invariant.outlast

pub returns-clause-within : goal.returns-clause-within
returns-clause-within c = c.loop-card.invariant.within
