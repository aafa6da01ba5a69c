use Rattle.am_top.proofs.BitsMade.{bit-made}
use Rattle.am_top.proofs.laws.a_bit_of_1_is_made.Goals as goal

pub returns : goal.returns
returns c = bit-made
