-- The text of a front's vectors.
use Rattle.std.specs.Prelude.{◌≡◌, ℕ, List, ◌++◌, flat_map}
use Rattle.win_vectors.specs.Fronts.{Vector}
use Rattle.trick_rules.specs.Nodes.{NodeValue}
use Rattle.am_report.specs.Answers.{EntryValue}
use Rattle.am_report.specs.Solve.{entry_text}
use Rattle.root_answers.specs.Planned.{ArePlanned}

-- a text has grown by these vectors, each with the plan that is chosen for it
pub record AreEntriesWritten (n : NodeValue) (weights : List ℕ) (moves : ℕ) (vectors : List Vector) (before after : List ℕ) : Type 0 where
  pub entries : List EntryValue
  pub planned : ArePlanned n moves vectors entries
  pub lines : after ≡ before ++ flat_map (entry_text weights) entries
