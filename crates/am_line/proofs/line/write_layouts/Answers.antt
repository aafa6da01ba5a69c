use Rattle.am_line.proofs.line.write_layouts.Goals as goal

pub returns-in-BadLine-clause-written : goal.returns-in-BadLine-clause-written
returns-in-BadLine-clause-written g c =
    rw (c.in-BadLine.is, ← c.format.ensures.text, ← c.as_bytes.ensures.value, ← c.deal_name.ensures) c.write_pieces.ensures.written

pub returns-in-OtherHands-clause-written : goal.returns-in-OtherHands-clause-written
returns-in-OtherHands-clause-written g c = rw (c.in-OtherHands.is) c.write_number.ensures.written

pub returns-in-TooMany-clause-written : goal.returns-in-TooMany-clause-written
returns-in-TooMany-clause-written g c = rw (c.in-TooMany.is) c.write_number-in-TooMany.ensures.written

pub returns-in-BadWeight-clause-written : goal.returns-in-BadWeight-clause-written
returns-in-BadWeight-clause-written g c = rw (c.in-BadWeight.is) c.write_number-in-BadWeight.ensures.written

pub returns-in-NoneLeft-clause-written : goal.returns-in-NoneLeft-clause-written
returns-in-NoneLeft-clause-written g c = rw (c.in-NoneLeft.is) c.write_pieces-in-NoneLeft.ensures.written

pub returns-in-Memory-clause-written : goal.returns-in-Memory-clause-written
returns-in-Memory-clause-written g c = rw (c.in-Memory.is) c.write_pieces-in-Memory.ensures.written
