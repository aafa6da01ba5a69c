-- A match: the first strategy that is printed, played out in one layout against the defenders of a table.
use Rattle.std.specs.Prelude.{◌≡◌, ◌==◌, ◌∷◌, ℕ, Bool, List, Option, None, Some, length, take, option_map, slice_get}
use Rattle.win_vectors.specs.Fronts.{Vector}
use Rattle.card_sets.specs.declared.seat.Seat.TheVariants.{Left}
use Rattle.trick_rules.specs.Positions.{State}
use Rattle.trick_rules.specs.Nodes.{NodeValue, states}
use Rattle.strategy_games.specs.Plans.{Plan}
use Rattle.strategy_games.specs.Choosing.{IsChosenPlan}
use Rattle.strategy_tree.specs.Bridge.{bridge}
use Rattle.am_match.specs.Defences.{Sitter, Change, change_at, table_at, tell_table}
use Rattle.am_match.specs.PlayOuts.{Follows, state_after}
use Rattle.am_report.specs.Match.{match_text}
use Rattle.am_answer.specs.declared.root.Root.{Root}
use Rattle.am_answer.specs.Tasks.{Playing}
use Rattle.am_answer.specs.ReportOrder.{IsReportedFront}

-- the defenders at the start: where one is to come in later, the first two
abbrev pub seated : Option ℕ → List Sitter → List Sitter
seated None table = table
seated (Some at) table = take 2 table

-- the third defender comes to Left's seat before the card of the switch's number
abbrev pub third_at : Option ℕ → List Sitter → Option Change
third_at None table = None
third_at (Some at) table = option_map (change_at at Left) (slice_get table 2)

-- the table as the card of a number is played
abbrev pub seated_at : Option ℕ → List Sitter → ℕ → List Sitter
seated_at switch table = table_at (seated switch table) (third_at switch table)

-- the first vector that is reported, and the plan that is chosen for it
pub record IsFirstStrategy (n : NodeValue) (weights : List ℕ) (moves : ℕ) (vector : Vector) (plan : Plan ℕ) : Type 0 where
  pub others : List Vector
  pub reported : IsReportedFront n weights moves (vector ∷ others)
  pub chosen : IsChosenPlan bridge plan n moves vector

-- the vector's bit at a layout, the cards that follow the first strategy from the layout's state to the end,
-- whether they make, and the table afterwards, at which the two who sit were told them
pub record IsPlayed (n : NodeValue) (weights : List ℕ) (moves : ℕ) (playing : Playing) (table later : List Sitter) (bit : Bool) (cards : List ℕ) (made : Bool) : Type 0 where
  pub vector : Vector
  pub plan : Plan ℕ
  pub state : State
  pub first : IsFirstStrategy n weights moves vector plan
  pub at_layout : slice_get (states n) playing.place ≡ Some state
  pub bit_there : slice_get vector playing.place ≡ Some bit
  pub follows : Follows plan state (seated_at playing.switch table) cards
  pub outcome : made ≡ ((state_after state cards).position.need == 0)
  pub told : later ≡ tell_table cards (seated_at playing.switch table (length cards))

-- the text of a match, and the table after it
abbrev pub IsMatchText : Root → ℕ → Playing → List Sitter → List Sitter → List ℕ → Type 0
IsMatchText root moves playing table later text = (bit made : Bool) × (cards : List ℕ)
    × IsPlayed root.kept.node root.kept.weights moves playing table later bit cards made
    × (text ≡ match_text playing.layout bit cards made)
