use Rattle.std.proofs.Common.{arith}
use Rattle.dd_solver.proofs.HeadingHand.{further_few}
use Rattle.dd_solver.proofs.headed.further.Goals as goal

pub returns-clause-few : goal.returns-clause-few
returns-clause-few c = omega (arith, c.further_of.ensures, c.further_of-2.ensures, c.further_of-3.ensures, c.further_of-4.ensures, further_few c.args.trump c.args.own c.args.others c.requires)
