use Rattle.std.proofs.Common.{Err, ap}
use Rattle.bit_answers.proofs.Asked.{named_fault}
use Rattle.bit_answers.proofs.searches.front_over.Goals as goal

pub returns-in-Err-clause-refused : goal.returns-in-Err-clause-refused
returns-in-Err-clause-refused c = named_fault c.args.asked.now c.in-Err.fault (λ card same. c.in-Err.ensures.spent card (ap Err same))
