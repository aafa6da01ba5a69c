use Rattle.std.proofs.Common.{inr, refl}
use Rattle.am_answer.specs.declared.status.Status.TheVariants.{Memory}
use Rattle.library_text.proofs.deliver.put_refusal.Goals as goal

pub returns-in-Err : goal.returns-in-Err
returns-in-Err c = (Memory, inr refl, c.put_line-in-Err.ensures.number, c.put_line-in-Err.ensures.line)
