-- The greatest weight of what is assured.
use Rattle.std.proofs.Common.{◌≡◌, ◌≤◌, ℕ, Bool, true, false, List, [], map, Contains, sym, subst, true≢false, arith}
use Rattle.win_vectors.specs.Fronts.{Vector}
use Rattle.win_vectors.specs.Weights.{weight_of}
use Rattle.win_vectors.proofs.WeightLemmas.{weight_of-monotone}
use Rattle.trick_rules.specs.Positions.{State}
use Rattle.trick_rules.specs.Nodes.{NodeValue, IsNode, states}
use Rattle.strategy_games.proofs.Lists.{Contains-nil}
use Rattle.strategy_tree.specs.Bridge.{bridge}
use Rattle.strategy_tree.proofs.Rules.{lawful}
use Rattle.cut_rules.specs.Stops.{IsGreatestWeight}
use Rattle.assured_games.specs.Assured.{Secures, IsAssured, IsAssuredFront, IsLeastBy}
use Rattle.assured_games.proofs.Lines.{line_for, marked}
use Rattle.sure_nodes.specs.SureNodes.{is_sure_node}
use Rattle.sure_nodes.proofs.PlayedOut.{played_out}
use Rattle.sure_nodes.proofs.Cashed.{some_state}

-- some line can be played, so a vector without a 1 is assured
some_assured : (n : NodeValue) (m : ℕ) → IsNode n → (v : Vector) × IsAssured bridge is_sure_node n m v
some_assured n m sound =
    let t = some_state n sound in
    let line = line_for bridge is_sure_node IsNode lawful played_out t.0 n m sound in
    (map (λ (s : State). false) (states n), (line.0, line.1.0, marked (λ (s : State). false) (λ (s : State). Secures bridge line.0 s) (states n) (λ s k e. absurd (true≢false (sym e)))))

pub assured_filled : (n : NodeValue) (m : ℕ) (front : List Vector) → IsNode n → IsAssuredFront bridge is_sure_node n m front → front ≡ [] → ⊥
assured_filled n m front sound is none =
    let v = some_assured n m sound in
    let u = is.covered v.0 v.1 in
    Contains-nil u.0 (subst (λ (f : List Vector). Contains f u.0) none u.1)

pub least_weight : (n : NodeValue) (m : ℕ) (ws : List ℕ) (front : List Vector) (weight : ℕ) → IsAssuredFront bridge is_sure_node n m front → IsGreatestWeight ws front weight → IsLeastBy bridge is_sure_node (weight_of ws) n m weight
least_weight n m ws front weight is greatest = record {
  vector = greatest.reached.0;
  assured = is.reached greatest.reached.0 greatest.reached.1;
  measured = greatest.reached.2;
  greatest = λ v a.
      let u = is.covered v a in
      let less = weight_of-monotone ws u.0 v u.2 in
      let most = greatest.most u.0 u.1 in
      omega arith;
}
