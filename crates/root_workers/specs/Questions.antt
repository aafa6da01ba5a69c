-- What a root is asked, and how its search may end.
use Rattle.std.specs.Prelude.{◌≡◌, ◌≢◌, ⊤, ℕ, true, List, Result, Ok, Err, IfOk, IsErrOf}
use Rattle.trick_rules.specs.Nodes.{NodeValue}
use Rattle.strategy_games.specs.Choosing.{IsBestWeight, IsNamedByWeight}
use Rattle.strategy_tree.specs.Bridge.{bridge}
use Rattle.cut_rules.specs.declared.Stop.TheVariants.{SameWeight}
use Rattle.cut_rules.specs.Rules.{no_cuts}
use Rattle.front_table.specs.Proven.{IsFrontAt}
use Rattle.alphamu_core.specs.Costs.{IsWithin}
use Rattle.strategy_tree.specs.declared.root_fault.RootFault.{RootFault}
use Rattle.strategy_tree.specs.declared.root_fault.RootFault.TheVariants.{Spent, Memory}
use Rattle.strategy_tree.specs.RootTrees.{IsSpentAt, IsFirstSpentAt, AllFit}
use Rattle.root_workers.specs.Founds.{AreFound}
use Rattle.root_workers.specs.Plain.{IsPlain}
use Rattle.root_workers.specs.Roots.{MayBeAsked}
use Rattle.root_workers.specs.Rounds.{IsPlainRound}
use Rattle.root_workers.specs.declared.question.Question.{Question}
use Rattle.root_workers.specs.declared.rounds.Round.{Round}
use Rattle.root_workers.specs.declared.rounds.RoundFront.{RoundFront}

-- the question may be asked
abbrev pub IsQuestion : Question → Type 0
IsQuestion q = MayBeAsked q.node.now q.moves q.weights.now

-- what is found at a root within this many nodes: the card and the best weight, and the front if it is to be whole
pub record IsFoundRoot (n : NodeValue) (moves nodes : ℕ) (weights : List ℕ) (whole cuts plain : Type 0) (root : RoundFront) : Type 0 where
  pub front : whole → IsFrontAt n moves root.front
  pub founds : whole → AreFound n moves cuts root.founds.items
  pub card : IsNamedByWeight bridge weights n moves root.card
  pub weight : IsBestWeight bridge weights n moves root.weight
  pub within : IsWithin nodes root.most
  pub fits : plain → AllFit n moves nodes

-- or a root card whose tree is too large, in a plain search the first one
abbrev pub IsRootEnd : NodeValue → ℕ → ℕ → List ℕ → Type 0 → Type 0 → Type 0 → Result RoundFront RootFault → Type 0
IsRootEnd n moves nodes weights whole cuts plain (Ok root) = IsFoundRoot n moves nodes weights whole cuts plain root
IsRootEnd n moves nodes weights whole cuts plain (Err (Spent card)) = IsSpentAt n moves nodes card × (plain → IsFirstSpentAt n moves nodes card)
IsRootEnd n moves nodes weights whole cuts plain (Err Memory) = ⊤

-- how a round may end
abbrev pub IsRoundEnd : Round → Result RoundFront RootFault → Type 0
IsRoundEnd r result = IsRootEnd r.node.now r.moves r.nodes r.weights.now (r.rules.stop ≢ SameWeight) (r.rules ≢ no_cuts) (IsPlainRound r) result

-- how the search of a root may end
abbrev pub IsAnswer : Question → Type 0 → Result RoundFront RootFault → Type 0
IsAnswer q whole result = IsRootEnd q.node.now q.moves q.options.now.nodes q.weights.now whole (q.options.now.cuts ≡ true) (IsPlain q.options.now) result

-- the root card that a search names as spent has too large a tree
abbrev pub NamesSpent : {A : Type 0} → Question → Result A RootFault → Type 0
NamesSpent q result = (card : ℕ) → IsErrOf result (Spent card) → IsSpentAt q.node.now q.moves q.options.now.nodes card

-- in a plain search it is the first such card
abbrev pub NamesFirstSpent : {A : Type 0} → Question → Result A RootFault → Type 0
NamesFirstSpent q result = IsPlain q.options.now → (card : ℕ) → IsErrOf result (Spent card) → IsFirstSpentAt q.node.now q.moves q.options.now.nodes card

-- a plain search that finds something has met no tree that is too large
abbrev pub FitsIfPlain : {A : Type 0} → Question → Result A RootFault → Type 0
FitsIfPlain q result = IsPlain q.options.now → IfOk result (λ _. AllFit q.node.now q.moves q.options.now.nodes)
