-- What is reported of the root cards, and why.
use Rattle.std.specs.Prelude.{◌≡◌, ◌↔◌, ◌-◌, ◌<◌, ◌≤◌, ℕ, Bool, true, false, List, Some, ⊤, map, take, slice_get, length}
use Rattle.win_vectors.specs.Fronts.{Vector}
use Rattle.trick_rules.specs.Nodes.{NodeValue, choices, child}
use Rattle.strategy_games.specs.Plans.{IsFront}
use Rattle.strategy_tree.specs.Bridge.{bridge}
use Rattle.front_table.specs.Entries.{HasKey, most_entry_vectors}
use Rattle.front_table.specs.declared.store.Put.{Put}
use Rattle.front_table.specs.declared.store.Put.TheVariants as put
use Rattle.front_table.specs.declared.store.Put.TheVariants.{Kept, Present}
use Rattle.shared_table.specs.declared.SharedTable.{SharedTable}
use Rattle.shared_table.specs.declared.Pass.{Pass}
use Rattle.shared_table.specs.declared.rule.TablePlan.{TablePlan}
use Rattle.shared_table.specs.declared.rule.TableView.{TableView}
use Rattle.shared_table.specs.Keys.{shard_of}
use Rattle.shared_table.specs.Passes.{table_plan, view_of, list_at, busy_at}
use Rattle.root_workers.specs.Roots.{IsCoveredBefore, AreEnough}
use Rattle.root_workers.specs.declared.root.Options.{Options}
use Rattle.root_workers.specs.declared.reports.Stored.{Stored}
use Rattle.root_workers.specs.declared.reports.Stored.TheVariants.{Table, Full, TooWide, Busy, Memory, Off}
use Rattle.root_workers.specs.declared.reports.Outcome.{Outcome}
use Rattle.root_workers.specs.declared.reports.Outcome.TheVariants.{Exact, Below, Skipped}
use Rattle.root_workers.specs.declared.reports.CardReport.{CardReport}

-- the number of the shard of a node with this many moves
abbrev pub shard_at : TablePlan → NodeValue → ℕ → ℕ
shard_at plan n moves = shard_of plan.shards n moves

-- where the front of a node with this many moves is, by what a pass knew before and knows now
abbrev pub IsStoredAs : TablePlan → NodeValue → ℕ → TableView → TableView → Stored → Type 0
IsStoredAs plan n moves v w Table = HasKey (list_at (shard_at plan n moves) w) n moves
IsStoredAs plan n moves v w Full = plan.room ≤ length (list_at (shard_at plan n moves) w)
IsStoredAs plan n moves v w TooWide = (front : List Vector) × IsFront bridge n moves front × (most_entry_vectors < length front)
IsStoredAs plan n moves v w Busy = busy_at (shard_at plan n moves) v < busy_at (shard_at plan n moves) w
IsStoredAs plan n moves v w Memory = ⊤
IsStoredAs plan n moves v w Off = ⊤

-- where a front stands after a put
abbrev pub stored_of : Put → Stored
stored_of Kept = Table
stored_of (Present back) = Table
stored_of (put.Full back) = Full
stored_of (put.TooWide back) = TooWide
stored_of (put.Busy back) = Busy
stored_of (put.Memory back) = Memory

-- how a root is searched, and what the pass of its table knew before and knows now
pub record Course : Type 0 where
  pub node : NodeValue
  pub moves : ℕ
  pub table : Bool
  pub cuts : Bool
  pub plan : TablePlan
  pub before : TableView
  pub now : TableView

-- why a report says what it says of a root card, by the cards before it
abbrev pub HasCause : Course → List ℕ → ℕ → Outcome → Type 0
HasCause c earlier card (Exact stored) = IsStoredAs c.plan (child c.node card) (c.moves - 1) c.before c.now stored
    × ((stored ≡ Off) ↔ (c.table ≡ false))
HasCause c earlier card Below = (c.cuts ≡ true) × IsCoveredBefore c.node c.moves earlier card
HasCause c earlier card Skipped = (c.cuts ≡ true) × AreEnough c.node c.moves earlier

-- one report a root card, in card order, each with its cause
pub record AreReports (c : Course) (reports : List CardReport) : Type 0 where
  pub cards : map (λ report. report.card) reports ≡ choices c.node
  pub causes : (place : ℕ) (report : CardReport) → slice_get reports place ≡ Some report
      → HasCause c (take place (choices c.node)) report.card report.outcome

-- the search of a root by these options, over a table with this pass
abbrev pub course_of : NodeValue → ℕ → Options → SharedTable → Pass → Pass → Course
course_of n moves o table early late = record {
  node = n;
  moves = moves;
  table = o.table;
  cuts = o.cuts;
  plan = table_plan table;
  before = view_of early;
  now = view_of late;
}
