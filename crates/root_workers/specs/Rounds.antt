-- What a round asks, and what a worker may know of a root card.
use Rattle.std.specs.Prelude.{◌≡◌, ◌≢◌, ◌<◌, ◌≤◌, ◌-◌, ⊤, ℕ, false, List, Result, Ok, Err, Some, take, slice_get, length, Contains}
use Rattle.win_vectors.specs.Fronts.{Vector}
use Rattle.trick_rules.specs.Nodes.{choices, child}
use Rattle.strategy_games.specs.Plans.{IsFront, tree_size}
use Rattle.strategy_games.specs.Joins.{WinsByCard}
use Rattle.strategy_tree.specs.Bridge.{bridge}
use Rattle.cut_rules.specs.declared.Stop.TheVariants.{Never}
use Rattle.cut_rules.specs.Rules.{no_cuts}
use Rattle.front_table.specs.Proven.{IsFrontAt}
use Rattle.alphamu_core.specs.Costs.{IsWithin}
use Rattle.alphamu_core.specs.Findings.{IsFound, IsExact}
use Rattle.alphamu_core.specs.declared.answers.Found.{Found}
use Rattle.alphamu_core.specs.declared.answers.Found.TheVariants as found
use Rattle.strategy_tree.specs.declared.root_fault.RootFault.{RootFault}
use Rattle.strategy_tree.specs.declared.root_fault.RootFault.TheVariants as fault
use Rattle.alphamu_core.specs.declared.budget.Entered.{Entered}
use Rattle.shared_table.specs.declared.Pass.{Pass}
use Rattle.shared_table.specs.Passes.{view_of}
use Rattle.shared_table.specs.Stores.{HasGrownAt}
use Rattle.root_workers.specs.Roots.{MayBeAsked, IsCoveredBefore}
use Rattle.root_workers.specs.declared.rounds.Round.{Round}
use Rattle.root_workers.specs.declared.searches.SearchResult.{SearchResult}
use Rattle.root_workers.specs.declared.worker_results.Known.{Known}
use Rattle.root_workers.specs.declared.worker_results.Known.TheVariants.{Exact, Below, Spent}

-- the round may be asked, and it has the front with a move less if it may stop by that
pub record IsRound (r : Round) : Type 0 where
  pub asked : MayBeAsked r.node.now r.moves r.weights.now
  pub width : r.previous.now.width ≡ length r.node.now.lefts
  pub previous : r.rules.stop ≢ Never → IsFront bridge r.node.now (r.moves - 1) r.previous.now.vectors

-- the search has neither cuts nor a table
pub record IsPlainRound (r : Round) : Type 0 where
  pub cuts : r.rules ≡ no_cuts
  pub table : r.uses_table ≡ false

-- how many nodes the tree after a root card has
abbrev pub size_after : Round → ℕ → ℕ
size_after r card = tree_size bridge (child r.node.now card) (r.moves - 1)

-- what a search says after a root card is so, by what is won already; without cuts it is a front
pub record IsSearchedAfter (r : Round) (card : ℕ) (alpha : List Vector) (s : SearchResult) : Type 0 where
  pub found : IsFound (child r.node.now card) (r.moves - 1) alpha s.found
  pub exact : r.rules ≡ no_cuts → IsExact s.found
  pub within : IsWithin r.nodes s.entered

-- how a search after a root card may end: with what it found, or with too large a tree
abbrev pub IsCardEnd : Round → ℕ → List Vector → Result SearchResult RootFault → Type 0
IsCardEnd r card alpha (Ok s) = IsSearchedAfter r card alpha s × (IsPlainRound r → size_after r card ≤ r.nodes)
IsCardEnd r card alpha (Err (fault.Spent other)) = (other ≡ card) × (r.nodes < size_after r card)
IsCardEnd r card alpha (Err fault.Memory) = ⊤

-- each of the vectors is won after one of the cards
abbrev pub AreWonAfter : Round → List ℕ → List Vector → Type 0
AreWonAfter r cards vectors = (v : Vector) → Contains vectors v → WinsByCard bridge r.node.now (r.moves - 1) cards v

-- what a search tells of a card
abbrev pub known_as : Found → Entered → Known
known_as (found.Exact front) entered = Exact front entered
known_as found.Below entered = Below entered

-- what is known of a card by itself and the cards before it
abbrev pub IsKnownAfter : Round → List ℕ → ℕ → Known → Type 0
IsKnownAfter r earlier card (Exact front entered) = IsFrontAt (child r.node.now card) (r.moves - 1) front × (IsPlainRound r → size_after r card ≤ r.nodes) × IsWithin r.nodes entered
IsKnownAfter r earlier card (Below entered) = IsCoveredBefore r.node.now r.moves earlier card × (r.rules ≢ no_cuts) × IsWithin r.nodes entered
IsKnownAfter r earlier card Spent = r.nodes < size_after r card

-- what is known of the root card at a place, counted from 0
pub record IsKnownAt (r : Round) (place : ℕ) (known : Known) : Type 0 where
  pub card : ℕ
  pub here : slice_get (choices r.node.now) place ≡ Some card
  pub known_is : IsKnownAfter r (take place (choices r.node.now)) card known

-- a pass has seen no less, and counted no less
abbrev pub HasSeenMore : Pass → Pass → Type 0
HasSeenMore early late = (i : ℕ) → HasGrownAt i (view_of early) (view_of late)
