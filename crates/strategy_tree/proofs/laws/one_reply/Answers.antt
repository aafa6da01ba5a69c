use Rattle.strategy_tree.proofs.BridgeNodes.{live, one_reply}
use Rattle.strategy_tree.proofs.laws.one_reply.Goals as goal

pub returns : goal.returns
returns c = λ n moves card beta alpha sound none. one_reply n moves card beta alpha sound (live n none)
