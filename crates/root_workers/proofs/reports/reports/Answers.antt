use Rattle.std.proofs.Common.{◌≡◌, Some, length, slice_get, take, subst, arith}
use Rattle.trick_rules.specs.Nodes.{choices}
use Rattle.root_workers.specs.Reports.{HasCause, course_of}
use Rattle.root_workers.proofs.Seen.{seen_none, seen_more}
use Rattle.root_workers.proofs.Causes.{no_report, card_next, report_more, reports_done}
use Rattle.root_workers.proofs.reports.reports.Goals as goal

pub cards-init : goal.cards-init
cards-init c =
    let r = c.args.question.now in record {
      pass = c.requires.pass;
      grown = seen_none c.args.pass.now;
      so = no_report r.node.now r.moves r.options.now r.table.now c.args.pass.now c.choices-cards.result c.new-reports.result.items c.choices-cards.ensures c.new-reports.ensures.items;
    }

pub outcome_of-outcome-requires-clause-card : goal.outcome_of-outcome-requires-clause-card
outcome_of-outcome-requires-clause-card c =
    let r = c.args.question.now in
    let at : length c.cards.reports.items ≡ c.len.result = omega arith in
    subst (λ k. slice_get (choices r.node.now) k ≡ Some c.in-Some.card) at
    (card_next r.node.now r.moves r.options.now r.table.now c.args.pass.now c.cards.pass c.cards.cards c.pop_first.new.self c.cards.reports.items c.in-Some.card c.cards.invariant.so c.in-Some.ensures.value)

pub cards-preserved : goal.cards-preserved
cards-preserved c =
    let r = c.args.question.now in
    let at : c.len.result ≡ length c.cards.reports.items = omega arith in
    let cause = subst (λ k. HasCause (course_of r.node.now r.moves r.options.now r.table.now c.cards.pass c.outcome_of-outcome.new.pass) (take k (choices r.node.now)) c.in-Some.card c.outcome_of-outcome.result) at c.outcome_of-outcome.ensures.cause in record {
      pass = c.outcome_of-outcome.ensures.pass;
      grown = seen_more c.args.pass.now c.cards.pass c.outcome_of-outcome.new.pass c.cards.invariant.grown c.outcome_of-outcome.ensures.grown;
      so = report_more r.node.now r.moves r.options.now r.table.now c.args.pass.now c.cards.pass c.outcome_of-outcome.new.pass c.cards.cards c.pop_first.new.self c.cards.reports.items c.push.new.self.items
          (record { card = c.in-Some.card; outcome = c.outcome_of-outcome.result }) c.cards.invariant.so c.in-Some.ensures.value c.cards.invariant.grown c.outcome_of-outcome.ensures.grown cause c.in_ok-push.ensures.items;
    }

pub returns-in_err-push-clause-grown : goal.returns-in_err-push-clause-grown
returns-in_err-push-clause-grown c = seen_more c.args.pass.now c.cards.pass c.outcome_of-outcome.new.pass c.cards.invariant.grown c.outcome_of-outcome.ensures.grown

pub returns-clause-reports : goal.returns-clause-reports
returns-clause-reports c =
    let r = c.args.question.now in
    reports_done r.node.now r.moves r.options.now r.table.now c.args.pass.now c.cards.pass c.cards.cards c.cards.reports.items c.in_default.ensures.value.0 c.cards.invariant.so
