-- How long a path may become, and the trees after a decided result.
use Rattle.std.proofs.Common.{◌≡◌, ◌≤◌, ◌<◌, ◌+◌, ◌-◌, ◌∙◌, ℕ, zero, suc, true, List, [], ◌∷◌, ◌++◌, length, Contains, refl, ap, arith}
use Rattle.std.proofs.lemmas.List.{length_push}
use Rattle.trick_rules.specs.Play.{cards_left}
use Rattle.trick_rules.specs.Nodes.{NodeValue, IsNode, stops, choices, child}
use Rattle.strategy_games.specs.Plans.{tree_size}
use Rattle.strategy_tree.specs.Bridge.{bridge}
use Rattle.strategy_tree.proofs.Rules.{settled}
use Rattle.strategy_tree.proofs.BridgeLaws.{sizes}
use Rattle.strategy_tree.proofs.BridgeNodes.{stopped}
use Rattle.plain_fronts.proofs.CardByCard.{falls}

pub path_room : (n kept : NodeValue) (path earlier rest : List ℕ) (card : ℕ) → IsNode n → choices n ≡ earlier ++ card ∷ rest → kept ≡ child n card
    → length path + cards_left n.position ≤ 52 → length path < 52
path_room n kept path earlier rest card sound are is few = omega (arith, falls n kept earlier rest card sound are is)

pub path_deeper : (n kept : NodeValue) (path behind earlier rest : List ℕ) (card : ℕ) → IsNode n → choices n ≡ earlier ++ card ∷ rest → kept ≡ child n card
    → behind ≡ path ++ card ∷ [] → length path + cards_left n.position ≤ 52 → length behind + cards_left kept.position ≤ 52
path_deeper n kept path behind earlier rest card sound are is behind_is few =
    let long : length behind ≡ length path + 1 = ap (λ (p : List ℕ). length p) behind_is ∙ length_push path card in
    omega (arith, falls n kept earlier rest card sound are is)

-- where the result is decided, the tree after each card has one node
pub decided_child : (n : NodeValue) (moves card : ℕ) → IsNode n → 1 ≤ moves → stops n moves ≡ true → Contains (choices n) card
    → tree_size bridge (child n card) (moves - 1) ≡ 1
decided_child n zero card sound some stop mem = absurd (omega arith)
decided_child n (suc zero) card sound some stop mem = sizes.at_stop (child n card) 0 refl
decided_child n (suc (suc m)) card sound some stop mem =
    let less : suc (suc m) - 1 ≡ suc m = omega arith in
    ap (λ k. tree_size bridge (child n card) k) less
    ∙ sizes.at_stop (child n card) (suc m) (settled.stays n card sound (stopped n (suc (suc m)) stop) mem).0
