-- The node at which a plan is at fault: nodes are numbered from 1, each before those below it.
use Rattle.std.specs.Prelude.{ℕ, ◌+◌, zero, suc, Bool, true, false, not, ◌&&◌, List, [], ◌∷◌, Option, Some, None, if◌then◌else◌}
use Rattle.std.specs.List.{list_any}
use Rattle.strategy_games.specs.Games.{Game}
use Rattle.strategy_games.specs.Plans.{Plan, Replies, Stop, Play, Hear, NoReply, Reply, cards_of, stops}

abbrev mutual
  -- how many nodes a plan has
  pub node_count : {C : Type 0} → Plan C → ℕ
  node_count Stop = 1
  node_count (Play c q) = 1 + node_count q
  node_count (Hear rs) = 1 + node_counts rs

  pub node_counts : {C : Type 0} → Replies C → ℕ
  node_counts NoReply = 0
  node_counts (Reply c q rs) = node_count q + node_counts rs

-- the number after k other nodes
abbrev pub further : ℕ → Option ℕ → Option ℕ
further k None = None
further k (Some i) = Some (k + i)

-- the first number, or else the second
abbrev pub or_else : Option ℕ → Option ℕ → Option ℕ
or_else None j = j
or_else (Some i) j = Some i

-- are these the same cards in the same order?
abbrev pub same_cards : {C : Type 0} → (C → C → Bool) → List C → List C → Bool
same_cards same [] [] = true
same_cards same [] (d ∷ ds) = false
same_cards same (c ∷ cs) [] = false
same_cards same (c ∷ cs) (d ∷ ds) = same c d && same_cards same cs ds

module _ {N S C : Type 0} (g : Game N S C) (same : C → C → Bool) where
  -- does the first node of the plan fit?
  abbrev pub belongs : Plan C → N → ℕ → Bool
  belongs Stop n m = stops g n m
  belongs (Play c q) n m = not (stops g n m) && g.is_ours n && list_any (λ d. same d c) (g.choices n)
  belongs (Hear rs) n m = not (stops g n m) && not (g.is_ours n) && same_cards same (cards_of rs) (g.choices n)

  abbrev mutual
    -- the number of the first node of the plan that doesn't fit
    pub first_misfit : Plan C → N → ℕ → Option ℕ
    first_misfit Stop n m = if belongs Stop n m then None else Some 1
    first_misfit (Play c q) n zero = Some 1
    first_misfit (Play c q) n (suc m) = if belongs (Play c q) n (suc m) then further 1 (first_misfit q (g.child n c) m) else Some 1
    first_misfit (Hear rs) n m = if belongs (Hear rs) n m then further 1 (first_misfit_each rs n m) else Some 1

    pub first_misfit_each : Replies C → N → ℕ → Option ℕ
    first_misfit_each NoReply n m = None
    first_misfit_each (Reply c q rs) n m = or_else (first_misfit q (g.child n c) m) (further (node_count q) (first_misfit_each rs n m))
