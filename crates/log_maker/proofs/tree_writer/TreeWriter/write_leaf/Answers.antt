use Rattle.std.proofs.Common.{Err, ap, arith}
use Rattle.alphamu_core.specs.declared.answers.SearchFault.TheVariants.{Spent}
use Rattle.strategy_tree.proofs.BridgeLaws.{sizes}
use Rattle.strategy_tree.proofs.BridgeNodes.{stopped}
use Rattle.log_maker.proofs.Faults.{passed_on}
use Rattle.log_maker.proofs.Growing.{grown_leaf}
use Rattle.log_maker.proofs.tree_writer.TreeWriter.write_leaf.Goals as goal

pub returns-in_err-push-clause-spent : goal.returns-in_err-push-clause-spent
returns-in_err-push-clause-spent c = λ e.
    let fault = passed_on c.from_residual-in_err-push.result c.in_err-push.field-0.0 Spent c.from_residual-in_err-push.ensures.1 e in
    let full = c.in_err-push.ensures.spent (ap Err fault) in
    let one = sizes.at_stop c.args.node.now c.args.moves (stopped c.args.node.now c.args.moves c.requires.stops) in
    omega arith

pub returns-clause-written : goal.returns-clause-written
returns-clause-written c = record {
  front = c.in_ok-line.ensures.front;
  grown = grown_leaf c.args.node.now c.args.moves c.args.path c.args.self.now.log.now c.push.new.self.log.now c.in_ok-line.front.vectors c.in_ok-line.line
      c.requires.stops c.in_ok-line.ensures.front.front c.in_ok-line.ensures.line c.in_ok-push.ensures.pushed;
  fits = c.in_ok-push.ensures.fits;
}
