use Rattle.am_answer.specs.Lines.{status_line}
use Rattle.am_line.proofs.line.write_line.Goals as goal

pub returns-in-Unread-clause-written : goal.returns-in-Unread-clause-written
unfolding status_line
returns-in-Unread-clause-written g c =
    rw (c.in-Unread.is, ← c.file_name.ensures) c.write_pieces-in-Unread.ensures.written

pub returns-in-BadPbn-clause-written : goal.returns-in-BadPbn-clause-written
unfolding status_line
returns-in-BadPbn-clause-written g c =
    rw (c.in-BadPbn.is, ← c.kind_name.ensures) c.write_named.ensures.written

pub returns-in-NoTurn-clause-written : goal.returns-in-NoTurn-clause-written
unfolding status_line
returns-in-NoTurn-clause-written g c = rw (c.in-NoTurn.is) c.write_pieces-in-NoTurn.ensures.written

pub returns-in-Spent-clause-written : goal.returns-in-Spent-clause-written
unfolding status_line
returns-in-Spent-clause-written g c = rw (c.in-Spent.is) c.write_spent.ensures.written

pub returns-in-Unwritten-clause-written : goal.returns-in-Unwritten-clause-written
unfolding status_line
returns-in-Unwritten-clause-written g c = rw (c.in-Unwritten.is) c.write_pieces-in-Unwritten.ensures.written

pub returns-in-Memory-clause-written : goal.returns-in-Memory-clause-written
unfolding status_line
returns-in-Memory-clause-written g c = rw (c.in-Memory.is) c.write_pieces-in-Memory.ensures.written

pub returns-in-TooLong-clause-written : goal.returns-in-TooLong-clause-written
unfolding status_line
returns-in-TooLong-clause-written g c =
    rw (c.in-TooLong.is, ← c.file_name-in-TooLong.ensures) c.write_pieces-in-TooLong.ensures.written

pub returns-in-BadReport-clause-written : goal.returns-in-BadReport-clause-written
unfolding status_line
returns-in-BadReport-clause-written g c =
    rw (c.in-BadReport.is, ← c.report_name.ensures) c.write_named-in-BadReport.ensures.written

pub returns-in-NoLayout-clause-written : goal.returns-in-NoLayout-clause-written
unfolding status_line
returns-in-NoLayout-clause-written g c =
    rw (c.in-NoLayout.is, ← c.from.ensures) c.write_number.ensures.written

pub returns-in-BadLog-clause-written : goal.returns-in-BadLog-clause-written
unfolding status_line
returns-in-BadLog-clause-written g c =
    rw (c.in-BadLog.is) c.write_number-in-BadLog.ensures.written

pub returns-in-Unproved-clause-written : goal.returns-in-Unproved-clause-written
unfolding status_line
returns-in-Unproved-clause-written g c =
    rw (c.in-Unproved.is) c.write_number-in-Unproved.ensures.written

pub returns-in-GameSpent-clause-written : goal.returns-in-GameSpent-clause-written
unfolding status_line
returns-in-GameSpent-clause-written g c = rw (c.in-GameSpent.is) c.write_game_spent.ensures.written

pub returns-in-TooManyGames-clause-written : goal.returns-in-TooManyGames-clause-written
unfolding status_line
returns-in-TooManyGames-clause-written g c =
    rw (c.in-TooManyGames.is) c.write_number-in-TooManyGames.ensures.written
