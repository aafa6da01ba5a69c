use Rattle.std.proofs.Common.{◌≡◌, Err, subst}
use Rattle.strategy_tree.specs.declared.root_fault.RootFault.{RootFault}
use Rattle.board_batch.specs.declared.fault.BatchFault.TheVariants.{Spent}
use Rattle.board_batch.specs.Batches.{IsOutcome}
use Rattle.board_batch.proofs.batch_work.BatchWork.answer_at.Goals as goal

pub returns-in-Err-clause-spent : goal.returns-in-Err-clause-spent
returns-in-Err-clause-spent g c = λ number card e.
    let is : c.fault_of.result ≡ Spent number card = cc in
    let at = c.fault_of.ensures.spent number card is in
    (at.0, subst (λ (f : RootFault). IsOutcome c.args.self.now.batch.now c.args.problem.now (Err f)) at.1 c.in-Err.ensures.outcome)
