use Rattle.std.proofs.Common.{◌≡◌, drop}
use Rattle.suit_problem.specs.Written.{bytes_read, hand_read}
use Rattle.suit_problem.proofs.reading.read_hand.Given as goal

abbrev pub invariant-loop-byte : goal.invariant-loop-byte
invariant-loop-byte l = bytes_read l.others (drop l.byte-index l.text) l.hand ≡ hand_read l.fn.others l.fn.text
