use Rattle.am_line.proofs.line.write_refuted.Goals as goal

pub returns-in-Head-clause-written : goal.returns-in-Head-clause-written
returns-in-Head-clause-written g c =
    rw (c.in-Head.is, ← c.format.ensures.text, ← c.as_bytes-number.ensures.value) c.write_pieces.ensures.written

pub returns-in-Width-clause-written : goal.returns-in-Width-clause-written
returns-in-Width-clause-written g c =
    rw (c.in-Width.is, ← c.format.ensures.text, ← c.as_bytes-number.ensures.value) c.write_pieces-in-Width.ensures.written

pub returns-in-Weight-clause-written : goal.returns-in-Weight-clause-written
returns-in-Weight-clause-written g c =
    rw (c.in-Weight.is, ← c.format.ensures.text, ← c.as_bytes-number.ensures.value) c.write_pieces-in-Weight.ensures.written

pub returns-in-Node-clause-written : goal.returns-in-Node-clause-written
returns-in-Node-clause-written g c =
    rw (c.in-Node.is, ← c.format.ensures.text, ← c.as_bytes-number.ensures.value, ← c.format-in-Node.ensures.text, ← c.as_bytes.ensures.value) c.write_pieces-in-Node.ensures.written

pub returns-in-Layout-clause-written : goal.returns-in-Layout-clause-written
returns-in-Layout-clause-written g c =
    rw (c.in-Layout.is, ← c.format.ensures.text, ← c.as_bytes-number.ensures.value, ← c.format-in-Layout.ensures.text, ← c.as_bytes-in-Layout.ensures.value, ← c.bit_end.ensures) c.write_pieces-in-Layout.ensures.written
