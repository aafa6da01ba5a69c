-- The front of the cards so far, with a card more.
use Rattle.std.proofs.Common.{◌≡◌, ◌∙◌, ℕ, List, [], ◌∷◌, ◌++◌, sym, subst, append_assoc}
use Rattle.win_vectors.specs.Fronts.{Vector, IsFrontOf, IsReduced}
use Rattle.trick_rules.specs.Nodes.{NodeValue, child}
use Rattle.strategy_games.specs.Plans.{IsFront}
use Rattle.strategy_games.specs.Joins.{WinsByCard}
use Rattle.strategy_tree.specs.Bridge.{bridge}
use Rattle.strategy_tree.proofs.BridgeLaws.{steps}

pub cards_more : (all earlier rest : List ℕ) (card : ℕ) → all ≡ earlier ++ card ∷ rest → all ≡ (earlier ++ card ∷ []) ++ rest
cards_more all earlier rest card are = are ∙ sym (append_assoc earlier (card ∷ []) rest)

pub more_ours : (n kept : NodeValue) (m : ℕ) (earlier : List ℕ) (card : ℕ) (front won union : List Vector) → IsFrontOf (WinsByCard bridge n m earlier) front
    → kept ≡ child n card → IsFront bridge kept m won → IsReduced (front ++ won) union → IsFrontOf (WinsByCard bridge n m (earlier ++ card ∷ [])) union
more_ours n kept m earlier card front won union so_far is child_front best =
    steps.more_cards n m earlier card front won union so_far (subst (λ k. IsFront bridge k m won) is child_front) best
