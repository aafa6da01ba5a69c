-- The later lines of a report, compared with the first.
use Rattle.std.specs.Prelude.{◌≡◌, ℕ, ◌+◌, ⊤, List, [], ◌∷◌, take, All}
use Rattle.trick_rules.specs.Nodes.{NodeValue}
use Rattle.strategy_games.specs.Plans.{Plan, Fits}
use Rattle.strategy_tree.specs.Bridge.{bridge}
use Rattle.am_report.specs.Answers.{ReadEntryValue}
use Rattle.line_partings.specs.Partings.{IsWhereTheyPart}
use Rattle.page_text.specs.declared.partings.Beside.{Beside}

-- each strategy of a report fits a node, with as many moves as it may have
abbrev pub FitNode : NodeValue → List ReadEntryValue → Type 0
FitNode node entries = All (λ read. (moves : ℕ) × Fits bridge read.entry.plan node moves) entries

-- the strategies of a report fit one node, with as many moves
pub record FitTogether (entries : List ReadEntryValue) : Type 0 where
  pub node : NodeValue
  pub moves : ℕ
  pub fit : All (λ read. Fits bridge read.entry.plan node moves) entries

-- each strategy by its number, onwards from the first one's, with where it and the plan part
abbrev pub BesideFrom : Plan ℕ → ℕ → List ReadEntryValue → List Beside → Type 0
BesideFrom plan number [] [] = ⊤
BesideFrom plan number [] (beside ∷ besides) = ⊥
BesideFrom plan number (read ∷ entries) [] = ⊥
BesideFrom plan number (read ∷ entries) (beside ∷ besides) =
    (beside.number ≡ number) × IsWhereTheyPart plan read.entry.plan beside.parting × BesideFrom plan (number + 1) entries besides

-- where the first strategy and each of the next five part
abbrev pub AreBeside : List ReadEntryValue → List Beside → Type 0
AreBeside [] besides = besides ≡ []
AreBeside (first ∷ entries) besides = BesideFrom first.entry.plan 2 (take 5 entries) besides
