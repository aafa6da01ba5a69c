-- Which reports are read back, and as what.
use Rattle.std.specs.Prelude.{◌≡◌, ℕ, ◌≤◌, ◌<◌, ◌^◌, List, length, map, sum, All}
use Rattle.strategy_games.specs.Plans.{Plan}
use Rattle.strategy_tree.specs.PlanText.{levels_of, HasReplies, HasCards}
use Rattle.pbn_deal.specs.Boards.{BoardValue}
use Rattle.layout_list.specs.Kept.{KeptValue}
use Rattle.layout_list.specs.Lines.{most_listed}
use Rattle.win_vectors.specs.Weights.{weight_of, IsWeight}
use Rattle.am_report.specs.Answers.{EntryValue, ReadEntryValue, SolveAnswerValue}
use Rattle.am_report.specs.Head.{head_text}
use Rattle.am_report.specs.Reading.{ReadReportValue}
use Rattle.am_report.specs.Versions.{version_of}
use Rattle.trick_rules.specs.Nodes.{most_moves}
use Rattle.strategy_tree.specs.PlanRead.{most_levels}

-- at most 64 levels, 1 to 52 replies at each defender's node, and cards of the pack
pub record IsPrintablePlan (plan : Plan ℕ) : Type 0 where
  pub levels : levels_of plan ≤ most_levels
  pub replies : HasReplies plan
  pub cards : HasCards plan

-- 1 to 256 layouts, each with a weight
pub record ArePrintableWeights (weights : List ℕ) : Type 0 where
  pub some_layouts : 1 ≤ length weights
  pub few_layouts : length weights ≤ most_listed
  pub each : All IsWeight weights

-- a vector with a bit for each layout, and such a plan
pub record IsPrintableEntry (layouts : ℕ) (entry : EntryValue) : Type 0 where
  pub width : length entry.vector ≡ layouts
  pub plan : IsPrintablePlan entry.plan

-- such layouts; 1 to 26 moves; a front of at least one vector and fewer than 2^32; a card of the pack, and no more
-- than all layouts weigh
pub record IsPrintable (weights : List ℕ) (moves : ℕ) (answer : SolveAnswerValue) : Type 0 where
  pub layouts : ArePrintableWeights weights
  pub some_moves : 1 ≤ moves
  pub few_moves : moves ≤ most_moves
  pub some_vectors : 1 ≤ length answer.entries
  pub few_vectors : length answer.entries < 2 ^ 32
  pub entries : All (IsPrintableEntry (length weights)) answer.entries
  pub card : answer.card < 52
  pub weight : answer.weight ≤ sum weights

-- an entry with its weight
abbrev pub printed_entry : List ℕ → EntryValue → ReadEntryValue
printed_entry weights entry = record { entry = entry; weight = weight_of weights entry.vector }

-- what the report of an answer says
abbrev pub printed_report : BoardValue → KeptValue → ℕ → SolveAnswerValue → ReadReportValue
printed_report board kept moves answer = record {
  version = version_of kept.weights;
  head = head_text board kept moves;
  moves = moves;
  entries = map (printed_entry kept.weights) answer.entries;
  card = answer.card;
  weight = answer.weight;
}
