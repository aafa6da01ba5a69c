-- The strategies of a report in words.
use Rattle.std.specs.Prelude.{◌≡◌, ℕ, ⊤, List, [], ◌∷◌, ◌++◌}
use Rattle.card_sets.specs.declared.seat.Compass.{Compass}
use Rattle.trick_rules.specs.Nodes.{NodeValue}
use Rattle.am_report.specs.Answers.{ReadEntryValue}
use Rattle.am_report.specs.Solve.{vector_line}
use Rattle.told_plans.specs.Told.{Told, IsTold}
use Rattle.told_plans.specs.Cuts.{cut}
use Rattle.told_layouts.specs.Looking.{step_layouts}
use Rattle.told_words.specs.Words.{told_text}

-- the vector with how many layouts it wins, or their weight, and the told plan from the node on, with the layouts behind its steps
abbrev pub strategy_text : Compass → List ℕ → NodeValue → ReadEntryValue → Told → List ℕ
strategy_text declarer weights node read told = vector_line weights read.entry.vector ++ told_text declarer (step_layouts read.entry.plan node) told node

-- each strategy with its told plan
abbrev pub strategies_text : Compass → List ℕ → NodeValue → List ReadEntryValue → List Told → List ℕ
strategies_text declarer weights node (read ∷ entries) (told ∷ tolds) = strategy_text declarer weights node read told ++ strategies_text declarer weights node entries tolds
strategies_text declarer weights node (read ∷ entries) [] = []
strategies_text declarer weights node [] tolds = []

-- the told plan of a strategy, which is that strategy again if it is cut down at its node
pub record IsToldOf (node : NodeValue) (read : ReadEntryValue) (told : Told) : Type 0 where
  pub is_told : IsTold told read.entry.plan
  pub lossless : cut told node ≡ read.entry.plan

abbrev pub AreToldOf : NodeValue → List ReadEntryValue → List Told → Type 0
AreToldOf node (read ∷ entries) (told ∷ tolds) = IsToldOf node read told × AreToldOf node entries tolds
AreToldOf node (read ∷ entries) [] = ⊥
AreToldOf node [] (told ∷ tolds) = ⊥
AreToldOf node [] [] = ⊤

-- the words of these strategies
pub record AreWords (declarer : Compass) (weights : List ℕ) (node : NodeValue) (entries : List ReadEntryValue) (text : List ℕ) : Type 0 where
  pub tolds : List Told
  pub are_told : AreToldOf node entries tolds
  pub is_text : text ≡ strategies_text declarer weights node entries tolds
