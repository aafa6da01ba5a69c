-- A log that is being written.
use Rattle.std.specs.Prelude.{◌≡◌, ◌≤◌, ◌<◌, ◌+◌, ◌-◌, ℕ, List}
use Rattle.trick_rules.specs.Nodes.{NodeValue}
use Rattle.strategy_games.specs.Plans.{tree_size}
use Rattle.strategy_tree.specs.Bridge.{bridge}
use Rattle.pareto_fronts.specs.FrontValue.{FrontValue}
use Rattle.front_table.specs.Proven.{IsFrontAt}
use Rattle.log_check.specs.declared.lines.LogLine.{LogLine}
use Rattle.log_texts.specs.Written.{WrittenLog, IsLongerBy}
use Rattle.log_maker.specs.declared.tree_writer.TreeWriter.{TreeWriter}
use Rattle.log_check.specs.LogsFor.{IsLogFrom}

-- it has grown by the lines of a node
pub record HasGrown (n : NodeValue) (moves : ℕ) (path : List ℕ) (before after : WrittenLog)
    : Type 0 where
  pub lines : List LogLine
  pub longer : IsLongerBy lines before after
  pub are : IsLogFrom n moves path before.count lines

-- the writer goes on with the same log, which may have grown, and with the same limit
pub record IsSameWriter (before after : TreeWriter) : Type 0 where
  pub log : after.log.ghost_name ≡ before.log.ghost_name
  pub limit : after.limit ≡ before.limit

-- the node's front was found, and the log has grown by the node's lines and keeps to the limit
pub record IsWritten (n : NodeValue) (moves : ℕ) (path : List ℕ) (before after : TreeWriter)
    (found : FrontValue) : Type 0 where
  pub front : IsFrontAt n moves found
  pub grown : HasGrown n moves path before.log.now after.log.now
  pub fits : after.log.now.count ≤ before.limit

-- a line for each of the node's tree would be more than the limit allows
abbrev pub IsTooLong : NodeValue → ℕ → TreeWriter → Type 0
IsTooLong n moves writer = writer.limit < writer.log.now.count + tree_size bridge n moves
