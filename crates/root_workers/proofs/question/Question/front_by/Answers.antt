use Rattle.root_workers.proofs.Seen.{seen_more}
use Rattle.root_workers.proofs.Causes.{reports_earlier}
use Rattle.root_workers.proofs.question.Question.front_by.Goals as goal

pub returns-in_err-cards-clause-grown : goal.returns-in_err-cards-clause-grown
returns-in_err-cards-clause-grown g c = seen_more c.args.pass.now c.last.new.pass c.reports.new.pass c.last.ensures.grown c.reports.ensures.grown

pub returns-clause-grown : goal.returns-clause-grown
returns-clause-grown g c = seen_more c.args.pass.now c.last.new.pass c.reports.new.pass c.last.ensures.grown c.reports.ensures.grown

pub returns-clause-cards : goal.returns-clause-cards
returns-clause-cards g c =
    reports_earlier c.args.self.now.node.now c.args.self.now.moves c.args.self.now.options.now c.args.self.now.table.now c.args.pass.now c.last.new.pass c.reports.new.pass _ c.last.ensures.grown c.in_ok-cards.ensures.reports
