-- What is to be done once the words and the files are understood.
use Rattle.std.specs.Prelude.{ℕ, List as Listed, Option, Result}
use Rattle.job_words.specs.declared.asks.Search.{Search}
use Rattle.pbn_deal.specs.Boards.{BoardValue}
use Rattle.layout_list.specs.declared.line.Layout.{Layout}
use Rattle.am_answer.specs.declared.root.Root.{Root}
use Rattle.am_answer.specs.declared.status.Status.{Status}
use Rattle.am_answer.specs.Auditing.{AuditValue}

-- a layout that is to be played out, by its number and its place among the kept ones, counted from 0; and the number of the
-- card before which another defender comes in
pub record Playing : Type 0 where
  pub layout : ℕ
  pub place : ℕ
  pub switch : Option ℕ

-- a job that the words and the files lead to, by the name that the words give it
pub data TaskValue : Type 0 where
  -- the report of a root, by this many moves and a search
  Solve : Root → ℕ → Search → TaskValue
  -- the card to play at a root, by this many moves and a search
  Card : Root → ℕ → Search → TaskValue
  -- the first strategy that is printed for a root, by this many moves and a search, played out in a layout
  Match : Root → ℕ → Search → Playing → TaskValue
  -- what plain sampling believes at a root
  Fusion : Root → TaskValue
  -- the log that proves a root's front complete, by this many moves and nodes
  Prove : Root → ℕ → ℕ → TaskValue
  -- what is asked of a log at a root
  Audit : Root → AuditValue → TaskValue
  -- a report with this many plans, all of which are good
  Check : ℕ → TaskValue
  -- all layouts of a board
  List : BoardValue → Listed Layout → TaskValue
  -- the root of the problem made from a number, and a search
  Made : ℕ → Root → Search → TaskValue
  -- the reports of all games, each at its root where it has one, by this many moves and a search
  Boards : Listed (Result Root Status) → ℕ → Search → TaskValue
