use Rattle.std.proofs.Common.{◌≡◌, Err, length, ap, arith, rules}
use Rattle.strategy_tree.specs.declared.root_fault.RootFault.TheVariants.{Spent}
use Rattle.root_workers.proofs.Seen.{seen_more}
use Rattle.root_workers.proofs.Stops.{passed_on}
use Rattle.root_answers.proofs.ReportedFronts.{targets}
use Rattle.root_answers.proofs.WrittenEntries.{written_answer}
use Rattle.root_answers.proofs.written.written_root.Goals as goal

pub returns-in_err-found-clause-spent : goal.returns-in_err-found-clause-spent
returns-in_err-found-clause-spent g c = λ card e.
    c.in_err-found.ensures.spent card (ap Err (passed_on c.from_residual-in_err-found.result c.in_err-found.field-0.0 (Spent card) c.from_residual-in_err-found.ensures.1 e))

pub written_over-requires-clause-targets : goal.written_over-requires-clause-targets
written_over-requires-clause-targets g c =
    targets c.args.question.now.node.now c.args.question.now.weights.now c.args.question.now.moves c.in_ok-vectors.vectors.items _ c.deref.ensures.value c.in_ok-vectors.ensures

pub returns-in_err-lines-clause-spent : goal.returns-in_err-lines-clause-spent
returns-in_err-lines-clause-spent g c = λ card e.
    c.in_err-lines.ensures.spent card (ap Err (passed_on c.from_residual-in_err-lines.result c.in_err-lines.field-0.0 (Spent card) c.from_residual-in_err-lines.ensures.1 e))

pub returns-in_err-lines-clause-first_spent : goal.returns-in_err-lines-clause-first_spent
returns-in_err-lines-clause-first_spent g c = λ plain card e.
    let spent = c.in_err-lines.ensures.spent card (ap Err (passed_on c.from_residual-in_err-lines.result c.in_err-lines.field-0.0 (Spent card) c.from_residual-in_err-lines.ensures.1 e)) in
    absurd (omega (arith, c.in_ok-found.ensures.fits plain card spent.0, spent.1))

pub returns-in_err-lines-clause-grown : goal.returns-in_err-lines-clause-grown
returns-in_err-lines-clause-grown g c = seen_more c.args.pass.now c.front_by.new.pass c.written_over.new.pass c.front_by.ensures.grown c.written_over.ensures.grown

pub returns-clause-written : goal.returns-clause-written
returns-clause-written g c =
    let counted : c.len.result ≡ length c.in_ok-vectors.vectors.items = search rules in
    written_answer c.args.question.now.node.now c.args.question.now.weights.now c.args.question.now.moves c.in_ok-vectors.vectors.items _ _ c.deref.ensures.value c.in_ok-vectors.ensures c.in_ok-lines.ensures.lines counted c.in_ok-found.ensures.card c.in_ok-found.ensures.weight

pub returns-clause-grown : goal.returns-clause-grown
returns-clause-grown g c = seen_more c.args.pass.now c.front_by.new.pass c.written_over.new.pass c.front_by.ensures.grown c.written_over.ensures.grown
