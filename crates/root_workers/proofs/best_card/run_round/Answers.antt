use Rattle.root_workers.proofs.Seen.{seen_more}
use Rattle.root_workers.proofs.RootEnds.{root_end}
use Rattle.root_workers.proofs.best_card.run_round.Goals as goal

pub returns-clause-grown : goal.returns-clause-grown
returns-clause-grown g c = seen_more c.args.pass.now c.shared_out.new.pass c.best_over.new.pass c.shared_out.ensures.grown c.best_over.ensures.grown

pub returns-clause-end : goal.returns-clause-end
returns-clause-end g c =
    let r = c.args.round.now in
    let b = c.best_over.ensures in
    root_end r.node.now r.moves r.nodes r.weights.now _ _ _ c.best_over.result b.front b.founds b.card b.weight b.within b.fits b.spent b.first_spent
