use Rattle.strategy_tree.proofs.BridgeLaws.{cuts}
use Rattle.strategy_tree.proofs.laws.cuts.Goals as goal

pub returns : goal.returns
returns c = record { covered = cuts.covered; wider = cuts.wider; deeper = cuts.deeper; deeper_by = cuts.deeper_by; below_deeper = cuts.below_deeper; never = cuts.never }
