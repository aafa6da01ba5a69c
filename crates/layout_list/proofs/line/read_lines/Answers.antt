use Rattle.layout_list.proofs.Fits.{one_deal}
use Rattle.layout_list.proofs.line.read_lines.Goals as goal

pub returns-clause-one_deal : goal.returns-clause-one_deal
returns-clause-one_deal c = one_deal c.args.board.now c.lines.unseen c.lines.layouts.items c.lines.invariant.over
