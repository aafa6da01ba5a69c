use Rattle.std.proofs.Common.{◌-◌, sym, subst}
use Rattle.trick_rules.specs.Nodes.{child}
use Rattle.shared_table.specs.Passes.{view_of}
use Rattle.shared_table.proofs.Growing.{put_grown}
use Rattle.root_workers.specs.declared.reports.Stored.{Stored}
use Rattle.root_workers.specs.Reports.{IsStoredAs}
use Rattle.root_workers.proofs.Causes.{stored_at}
use Rattle.root_workers.proofs.reports.put_front.Goals as goal

pub returns-clause-stored : goal.returns-clause-stored
returns-clause-stored c =
    let r = c.args.question.now in
    subst (λ (s : Stored). IsStoredAs r.table.now.plan (child r.node.now c.args.card) (r.moves - 1) (view_of c.args.pass.now) (view_of c.put.new.pass) s) (sym c.stand_of.ensures)
    (stored_at r.table.now.plan c.in-Ok.entry (child r.node.now c.args.card) (r.moves - 1) (view_of c.args.pass.now) (view_of c.put.new.pass) c.put.result c.in-Ok.ensures.node c.in-Ok.ensures.moves c.in-Ok.ensures.front c.put.ensures.answer)

pub returns-clause-grown : goal.returns-clause-grown
returns-clause-grown c = put_grown c.args.question.now.table.now.plan c.in-Ok.entry (view_of c.args.pass.now) (view_of c.put.new.pass) c.put.result c.put.ensures.answer
