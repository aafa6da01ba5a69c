-- How the search of a root may end.
use Rattle.std.proofs.Common.{◌≡◌, ℕ, List, Result, Ok, Err, refl, sym, subst}
use Rattle.std.specs.Prelude.{IfOk, IsErrOf, IsErrAnd}
use Rattle.trick_rules.specs.Nodes.{NodeValue}
use Rattle.strategy_games.specs.Choosing.{IsBestWeight, IsNamedByWeight}
use Rattle.strategy_tree.specs.Bridge.{bridge}
use Rattle.front_table.specs.Proven.{IsFrontAt}
use Rattle.alphamu_core.specs.Costs.{IsWithin}
use Rattle.strategy_tree.specs.declared.root_fault.RootFault.{RootFault}
use Rattle.strategy_tree.specs.declared.root_fault.RootFault.TheVariants.{Spent, Memory}
use Rattle.strategy_tree.specs.RootTrees.{IsSpentAt, IsFirstSpentAt, AllFit}
use Rattle.root_workers.specs.Founds.{AreFound}
use Rattle.root_workers.specs.Questions.{IsRootEnd}
use Rattle.root_workers.specs.declared.rounds.RoundFront.{RoundFront}
use Rattle.root_workers.proofs.Founds.{found_by}

module _ (n : NodeValue) (moves nodes : ℕ) (weights : List ℕ) (whole cuts plain : Type 0) where
  -- the end by what is said of it clause by clause
  pub root_end : (result : Result RoundFront RootFault)
      → (whole → IfOk result (λ (root : RoundFront). IsFrontAt n moves root.front))
      → (whole → IfOk result (λ (root : RoundFront). AreFound n moves cuts root.founds.items))
      → IfOk result (λ (root : RoundFront). IsNamedByWeight bridge weights n moves root.card)
      → IfOk result (λ (root : RoundFront). IsBestWeight bridge weights n moves root.weight)
      → IfOk result (λ (root : RoundFront). IsWithin nodes root.most)
      → (plain → IfOk result (λ (_ : RoundFront). AllFit n moves nodes))
      → ((card : ℕ) → IsErrOf result (Spent card) → IsSpentAt n moves nodes card)
      → (plain → (card : ℕ) → IsErrOf result (Spent card) → IsFirstSpentAt n moves nodes card)
      → IsRootEnd n moves nodes weights whole cuts plain result
  root_end (Ok root) front founds card weight within fits spent first = record { front = front; founds = founds; card = card; weight = weight; within = within; fits = fits }
  root_end (Err (Spent card)) front founds named weight within fits spent first = (spent card refl, λ is_plain. first is_plain card refl)
  root_end (Err Memory) front founds card weight within fits spent first = tt

  -- the end that `?` passes on
  pub end_passed : (result : Result RoundFront RootFault) (fault : RootFault) → IsErrAnd result (λ e. e ≡ fault) → IsRootEnd n moves nodes weights whole cuts plain (Err fault)
      → IsRootEnd n moves nodes weights whole cuts plain result
  end_passed (Ok root) fault is end = absurd is
  end_passed (Err e) fault is end = subst (λ (f : RootFault). IsRootEnd n moves nodes weights whole cuts plain (Err f)) (sym is) end

  -- a card that is named as too large
  pub spent_end : (fault : RootFault) (card : ℕ) → fault ≡ Spent card → IsRootEnd n moves nodes weights whole cuts plain (Err fault)
      → IsSpentAt n moves nodes card × (plain → IsFirstSpentAt n moves nodes card)
  spent_end fault card is end = subst (λ (f : RootFault). IsRootEnd n moves nodes weights whole cuts plain (Err f)) is end

  -- a fault, by what is said of a card that it names
  pub fault_end : (fault : RootFault) → ((card : ℕ) → fault ≡ Spent card → IsSpentAt n moves nodes card) → (plain → (card : ℕ) → fault ≡ Spent card → IsFirstSpentAt n moves nodes card)
      → IsRootEnd n moves nodes weights whole cuts plain (Err fault)
  fault_end (Spent card) spent first = (spent card refl, λ is_plain. first is_plain card refl)
  fault_end Memory spent first = tt

  -- the same where less is asked for
  pub end_by : (result : Result RoundFront RootFault) → IsRootEnd n moves nodes weights whole cuts plain result → (less reason simple : Type 0) → (less → whole) → (cuts → reason) → (simple → plain)
      → IsRootEnd n moves nodes weights less reason simple result
  end_by (Ok root) end less reason simple at why is = record {
    front = λ l. end.front (at l);
    founds = λ l. found_by n moves cuts reason root.founds.items why (end.founds (at l));
    card = end.card;
    weight = end.weight;
    within = end.within;
    fits = λ s. end.fits (is s);
  }
  end_by (Err (Spent card)) end less reason simple at why is = (end.0, λ s. end.1 (is s))
  end_by (Err Memory) end less reason simple at why is = tt
