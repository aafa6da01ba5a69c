-- What a search in a race has paid where memory is wanted, or where it is late.
use Rattle.std.proofs.Common.{◌≡◌, ◌+◌, ◌≤◌, ℕ, List, Result, Err, IsErrAnd, sum_by, refl, arith}
use Rattle.trick_rules.specs.Nodes.{NodeValue, choices}
use Rattle.strategy_games.specs.Plans.{tree_size}
use Rattle.strategy_tree.specs.Bridge.{bridge}
use Rattle.strategy_tree.proofs.BridgeNodes.{tree_size-positive}
use Rattle.alphamu_core.specs.declared.answers.RaceFault.{RaceFault}
use Rattle.alphamu_core.specs.declared.answers.RaceFault.TheVariants.{Spent, Memory, Late}
use Rattle.alphamu_core.specs.Costs.{CostsBy}
use Rattle.alphamu_core.proofs.Paid.{HasPaid, size_after, costs_unspent, paid_unspent}

-- a search of this size that wants memory after so much was paid
pub costs_memory : {T : Type 0} (Each : Type 0) (whole before after : ℕ) (result : Result T RaceFault) → IsErrAnd result (λ e. e ≡ Memory) → after ≤ before → before ≤ after + whole → CostsBy Spent Each whole before after result
costs_memory Each whole before after result is low within = costs_unspent Each whole before after result Memory (λ same. absurd cc) is low within

-- one that is late
pub costs_late : {T : Type 0} (Each : Type 0) (whole before after : ℕ) → after ≤ before → before ≤ after + whole → CostsBy {T = T} Spent Each whole before after (Err Late)
costs_late Each whole before after low within = costs_unspent Each whole before after (Err Late) Late (λ same. absurd cc) refl low within

-- one that wants memory when the node itself was paid for, and nothing else
pub costs_memory_first : {T : Type 0} (Each : Type 0) (n : NodeValue) (moves left now : ℕ) (result : Result T RaceFault) → IsErrAnd result (λ e. e ≡ Memory) → now ≡ left → CostsBy Spent Each (tree_size bridge n moves) (left + 1) now result
costs_memory_first Each n moves left now result is same =
    let some = tree_size-positive n moves in costs_memory Each (tree_size bridge n moves) (left + 1) now result is (omega arith) (omega arith)

-- one that wants memory while it goes through a node's cards
pub paid_memory : (Each : Type 0) (n : NodeValue) (below : ℕ) {cards : List ℕ} {before mid : ℕ} → HasPaid Each n below cards before mid → (moves : ℕ) → tree_size bridge n moves ≡ 1 + sum_by (size_after n below) (choices n) → {T : Type 0} (result : Result T RaceFault) → IsErrAnd result (λ e. e ≡ Memory) → CostsBy Spent Each (tree_size bridge n moves) (before + 1) mid result
paid_memory Each n below so moves size result is = paid_unspent Each n below so moves size result Memory (λ same. absurd cc) is
