-- What a search has paid while it goes through a node's cards.
use Rattle.std.proofs.Common.{◌≡◌, ◌+◌, ◌≤◌, ℕ, List, [], Result, Ok, Err, IsErrAnd, sum_by, sym, ap, subst, arith}
use Rattle.trick_rules.specs.Nodes.{NodeValue, choices, child}
use Rattle.strategy_games.specs.Plans.{tree_size}
use Rattle.strategy_tree.specs.Bridge.{bridge}
use Rattle.strategy_tree.proofs.BridgeNodes.{tree_size-positive}
use Rattle.alphamu_core.specs.declared.answers.SearchFault.{SearchFault}
use Rattle.alphamu_core.specs.declared.answers.SearchFault.TheVariants.{Spent, Memory}
use Rattle.alphamu_core.specs.Costs.{Costs, CostsBy}
use Rattle.alphamu_core.specs.Kept.{AreEnough, IsTaken}

-- the size of the tree below a card
abbrev pub size_after : NodeValue → ℕ → ℕ → ℕ
size_after n moves card = tree_size bridge (child n card) moves

-- an error that `?` passes on
pub passed_on : {T E : Type 0} {spent : E} (Each : Type 0) (whole before after : ℕ) (result : Result T E) (fault : E) → IsErrAnd result (λ e. e ≡ fault) → CostsBy {T = T} spent Each whole before after (Err fault) → CostsBy spent Each whole before after result
passed_on Each whole before after (Ok found) fault is costs = absurd is
passed_on {T} {E} {spent} Each whole before after (Err e) fault is costs = subst (λ e. CostsBy {T = T} spent Each whole before after (Err e)) (sym is) costs

-- a search of this size that ends after so much was paid, and not since it is spent
pub costs_unspent : {T E : Type 0} {spent : E} (Each : Type 0) (whole before after : ℕ) (result : Result T E) (fault : E) → (fault ≡ spent → ⊥) → IsErrAnd result (λ e. e ≡ fault) → after ≤ before → before ≤ after + whole → CostsBy spent Each whole before after result
costs_unspent {T} {E} {spent} Each whole before after result fault unspent is low within = passed_on Each whole before after result fault is (record {
  counts = λ each. tt;
  spent = λ e. absurd (unspent cc);
  entered = tt;
  never_rises = low;
  falls = within;
})

-- one that wants memory
pub costs_memory : {T : Type 0} (Each : Type 0) (whole before after : ℕ) (result : Result T SearchFault) → IsErrAnd result (λ e. e ≡ Memory) → after ≤ before → before ≤ after + whole → Costs Each whole before after result
costs_memory Each whole before after result is low within = costs_unspent {spent = Spent} Each whole before after result Memory (λ same. absurd cc) is low within

-- a search that has its answer once the node itself was paid for
pub costs_one : {T E : Type 0} {spent : E} (Each : Type 0) (whole before after : ℕ) (found : T) → (Each → whole ≡ 1) → 1 ≤ whole → after + 1 ≡ before → CostsBy spent Each whole before after (Ok found)
costs_one Each whole before after found one some paid = record {
  counts = λ each. (let same = one each in omega arith);
  spent = λ e. absurd cc;
  entered = omega arith;
  never_rises = omega arith;
  falls = omega arith;
}

-- a search that can't pay for the node
pub costs_none : {T E : Type 0} {spent : E} (Each : Type 0) (whole before after : ℕ) (result : Result T E) (fault : E) → IsErrAnd result (λ e. e ≡ fault) → 1 ≤ whole → before ≡ 0 → after ≡ 0 → CostsBy spent Each whole before after result
costs_none Each whole before after result fault is some was now = passed_on Each whole before after result fault is (record {
  counts = λ each. tt;
  spent = λ e. omega arith;
  entered = tt;
  never_rises = omega arith;
  falls = omega arith;
})

-- a search that is paid for by one of a tree that is no larger
module _ {E : Type 0} {spent_fault : E} (Each : Type 0) (not_each : Each → ⊥) (part whole : ℕ) (smaller : part ≤ whole) (before after : ℕ) where
  -- has its answer by that of the other,
  pub costs_by_part : {T U : Type 0} (found : T) (other : U) → CostsBy {T = T} spent_fault Each part before after (Ok found) → CostsBy {T = U} spent_fault Each whole before after (Ok other)
  costs_by_part found other costs = record {
    counts = λ each. absurd (not_each each);
    spent = λ e. absurd cc;
    entered = costs.entered;
    never_rises = costs.never_rises;
    falls = omega (arith, costs.falls);
  }

  -- or none, as the other
  pub costs_of_part : {T U : Type 0} (result : Result T E) (fault : E) → CostsBy {T = U} spent_fault Each part before after (Err fault) → IsErrAnd result (λ e. e ≡ fault) → CostsBy spent_fault Each whole before after result
  costs_of_part {T} {U} result fault costs is = passed_on Each whole before after result fault is (record {
    counts = λ each. tt;
    spent = λ e. let of_fault : fault ≡ spent_fault = cc in let short = costs.spent (ap Err of_fault) in omega arith;
    entered = tt;
    never_rises = costs.never_rises;
    falls = omega (arith, costs.falls);
  })

-- once the node itself was paid for: of the cards, each with this many moves after it, these are left, and the others were paid for at most
pub record HasPaid (Each : Type 0) (n : NodeValue) (moves : ℕ) (cards : List ℕ) (before after : ℕ) : Type 0 where
  pub counts : Each → before + sum_by (size_after n moves) cards ≡ after + sum_by (size_after n moves) (choices n)
  pub within : before + sum_by (size_after n moves) cards ≤ after + sum_by (size_after n moves) (choices n)
  pub never_rises : after ≤ before

module _ (Each : Type 0) (n : NodeValue) (below : ℕ) where
  pub paid_none : (cards : List ℕ) (before : ℕ) → AreEnough n cards → (Each → cards ≡ choices n) → HasPaid Each n below cards before before
  paid_none cards before enough all = record {
    counts = λ each. (let same : sum_by (size_after n below) cards ≡ sum_by (size_after n below) (choices n) = ap (sum_by (size_after n below)) (all each) in omega arith);
    within = omega (arith, enough.sums (size_after n below));
    never_rises = omega arith;
  }

  module _ {cards : List ℕ} {before mid : ℕ} (so : HasPaid Each n below cards before mid) where
    module _ {card : ℕ} {rest : List ℕ} {m : NodeValue} (taken : IsTaken cards card rest) (is_child : m ≡ child n card) where
      parts : sum_by (size_after n below) cards ≡ tree_size bridge m below + sum_by (size_after n below) rest
      parts =
          let same : tree_size bridge m below ≡ size_after n below card = ap (λ m. tree_size bridge m below) is_child in
          omega (arith, taken.sums (size_after n below))

      pub paid_more : {U E : Type 0} {spent : E} {after : ℕ} (found : U) → CostsBy {T = U} spent Each (tree_size bridge m below) mid after (Ok found) → HasPaid Each n below rest before after
      paid_more {U} {E} {spent} {after} found costs = record {
        counts = λ each. (let whole = so.counts each in let here : after + tree_size bridge m below ≡ mid = costs.counts each in omega (arith, parts));
        within = omega (arith, parts, so.within, costs.falls);
        never_rises = omega (arith, so.never_rises, costs.never_rises);
      }

    -- What a search of the node costs
    module _ (moves : ℕ) (size : tree_size bridge n moves ≡ 1 + sum_by (size_after n below) (choices n)) where
      -- where it ends, and not since it is spent,
      pub paid_unspent : {T E : Type 0} {spent : E} (result : Result T E) (fault : E) → (fault ≡ spent → ⊥) → IsErrAnd result (λ e. e ≡ fault) → CostsBy spent Each (tree_size bridge n moves) (before + 1) mid result
      paid_unspent result fault unspent is = costs_unspent Each (tree_size bridge n moves) (before + 1) mid result fault unspent is (omega (arith, so.never_rises)) (omega (arith, so.within, size))

      -- where memory is wanted,
      pub paid_memory : {T : Type 0} (result : Result T SearchFault) → IsErrAnd result (λ e. e ≡ Memory) → Costs Each (tree_size bridge n moves) (before + 1) mid result
      paid_memory result is = paid_unspent {spent = Spent} result Memory (λ same. absurd cc) is

      -- where it has its answer, by every card or by a cut,
      pub paid_all : {T E : Type 0} {spent : E} (found : T) → (Each → cards ≡ []) → CostsBy spent Each (tree_size bridge n moves) (before + 1) mid (Ok found)
      paid_all found all = record {
        counts = λ each. (let none : sum_by (size_after n below) cards ≡ 0 = ap (sum_by (size_after n below)) (all each) in let whole = so.counts each in omega (arith, size));
        spent = λ e. absurd cc;
        entered = omega (arith, so.never_rises);
        never_rises = omega (arith, so.never_rises);
        falls = omega (arith, so.within, size);
      }

      -- and where the search below a card has none
      pub paid_below : {card : ℕ} {rest : List ℕ} {m : NodeValue} {after : ℕ} (taken : IsTaken cards card rest) (is_child : m ≡ child n card) → {T U E : Type 0} {spent : E} (result : Result T E) (fault : E)
          → CostsBy {T = U} spent Each (tree_size bridge m below) mid after (Err fault) → IsErrAnd result (λ e. e ≡ fault) → CostsBy spent Each (tree_size bridge n moves) (before + 1) after result
      paid_below {card} {rest} {m} {after} taken is_child {T} {U} {E} {spent} result fault costs is =
          let whole = parts {card = card} {rest = rest} {m = m} taken is_child in
          passed_on Each (tree_size bridge n moves) (before + 1) after result fault is (record {
            counts = λ each. tt;
            spent = λ e. let of_fault : fault ≡ spent = cc in let short = costs.spent (ap Err of_fault) in omega (arith, whole, so.within, size);
            entered = tt;
            never_rises = omega (arith, so.never_rises, costs.never_rises);
            falls = omega (arith, whole, so.within, size, costs.falls);
          })
