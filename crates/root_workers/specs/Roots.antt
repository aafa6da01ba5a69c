-- What is asked at a root, and what is to be found there.
use Rattle.std.specs.Prelude.{◌≡◌, ◌≤◌, ◌-◌, ℕ, true, false, List, length}
use Rattle.win_vectors.specs.Fronts.{Vector, Dominates}
use Rattle.trick_rules.specs.Nodes.{NodeValue, child, most_moves}
use Rattle.strategy_games.specs.Plans.{Fits, wins_vector}
use Rattle.strategy_games.specs.Joins.{WinsByCard}
use Rattle.strategy_tree.specs.Bridge.{bridge}

-- a node where declarer's side is to play may be asked, with 1 to 26 moves and a weight for each layout
pub record MayBeAsked (n : NodeValue) (moves : ℕ) (ws : List ℕ) : Type 0 where
  pub ours : bridge.is_ours n ≡ true
  pub goes_on : bridge.is_over n ≡ false
  pub some_moves : 1 ≤ moves
  pub few_moves : moves ≤ most_moves
  pub weights : length ws ≡ length n.lefts

-- whatever a strategy wins after the card, something is won after one of the earlier cards that dominates it
abbrev pub IsCoveredBefore : NodeValue → ℕ → List ℕ → ℕ → Type 0
IsCoveredBefore n moves earlier card = (p : _) → Fits bridge p (child n card) (moves - 1)
    → (w : Vector) × WinsByCard bridge n (moves - 1) earlier w × Dominates w (wins_vector bridge p (child n card))

-- whatever a strategy wins with a move less, something is won after one of these cards that dominates it
abbrev pub AreEnough : NodeValue → ℕ → List ℕ → Type 0
AreEnough n moves cards = (p : _) → Fits bridge p n (moves - 1)
    → (w : Vector) × WinsByCard bridge n (moves - 1) cards w × Dominates w (wins_vector bridge p n)
