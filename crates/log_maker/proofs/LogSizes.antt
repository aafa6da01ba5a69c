-- The log of a node has a line for each node of its tree.
use Rattle.std.proofs.Common.{◌≡◌, ◌+◌, ◌-◌, ◌∙◌, ℕ, List, [], ◌∷◌, ◌++◌, length, sum_by, Contains, sym, arith}
use Rattle.std.proofs.lemmas.List.{length-append, length_push}
use Rattle.std.proofs.lemmas.List.Sums.{sum_by-cons}
use Rattle.trick_rules.specs.Nodes.{NodeValue, IsNode, choices, child}
use Rattle.strategy_games.specs.Plans.{tree_size}
use Rattle.strategy_games.proofs.Lists.{Contains-here, Contains-there}
use Rattle.strategy_tree.specs.Bridge.{bridge}
use Rattle.strategy_tree.proofs.Rules.{lawful}
use Rattle.strategy_tree.proofs.BridgeLaws.{sizes}
use Rattle.strategy_tree.proofs.BridgeNodes.{stopped, stops-bridge}
use Rattle.alphamu_core.proofs.Paid.{size_after}
use Rattle.alphamu_core.proofs.OpenNodes.{size_ours, size_theirs}
use Rattle.log_check.specs.declared.lines.Rule.TheVariants.{Union, Join}
use Rattle.log_check.specs.declared.lines.LogLine.{LogLine}
use Rattle.log_check.specs.LogsFor.{line_of, IsLogFrom, AreLogsFrom}
use Rattle.log_check.specs.LogsFor.IsLogFrom.{at_stop, at_declarer, at_defender}
use Rattle.log_check.specs.LogsFor.AreLogsFrom.{no_child, child_first}

mutual
  pub lines-counted : (n : NodeValue) (moves : ℕ) (path : List ℕ) (earlier : ℕ) (lines : List LogLine) → IsLogFrom n moves path earlier lines → IsNode n
      → length lines ≡ tree_size bridge n moves
  lines-counted _ _ _ _ _ (at_stop n moves path earlier front stop is) sound = sym (sizes.at_stop n moves (stopped n moves stop))
  lines-counted _ _ _ _ _ (at_declarer n moves path earlier numbers lines front on ours is below) sound =
      let count = children-counted n (moves - 1) path earlier (choices n) numbers lines below sound (λ c mem. mem) in
      let whole = size_ours n moves sound (stops-bridge n moves ∙ on) ours in
      let long = length_push lines (line_of Union path moves numbers front) in
      omega arith
  lines-counted _ _ _ _ _ (at_defender n moves path earlier numbers lines front on theirs is below) sound =
      let count = children-counted n moves path earlier (choices n) numbers lines below sound (λ c mem. mem) in
      let whole = size_theirs n moves sound (stops-bridge n moves ∙ on) theirs in
      let long = length_push lines (line_of Join path moves numbers front) in
      omega arith

  pub children-counted : (n : NodeValue) (moves : ℕ) (path : List ℕ) (earlier : ℕ) (cards numbers : List ℕ) (lines : List LogLine)
      → AreLogsFrom n moves path earlier cards numbers lines → IsNode n → ((c : ℕ) → Contains cards c → Contains (choices n) c)
      → length lines ≡ sum_by (size_after n moves) cards
  children-counted _ _ _ _ _ _ _ (no_child n moves path earlier) sound among = omega arith
  children-counted _ _ _ _ _ _ _ (child_first n moves path earlier card cards numbers first others log rest) sound among =
      let mem = among card (Contains-here card cards) in
      let one = lines-counted (child n card) moves (path ++ card ∷ []) earlier first log (lawful.holds n card sound mem) in
      let more = children-counted n moves path (earlier + length first) cards numbers others rest sound (λ c m. among c (Contains-there card cards c m)) in
      let long = length-append first others in
      let sums = sum_by-cons (size_after n moves) card cards in
      omega arith
