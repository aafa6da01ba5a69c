-- A plan that is printed below a vector wins it.
use Rattle.std.proofs.Common.{◌≡◌, ℕ, List, map, Contains}
use Rattle.std.proofs.lemmas.List.Elements.{All-contains}
use Rattle.std.proofs.lemmas.List.Sorted.{Contains-permutation, IsPermutation-sym}
use Rattle.win_vectors.specs.Fronts.{Vector}
use Rattle.win_vectors.proofs.Orders.{Dominates-refl}
use Rattle.trick_rules.specs.Nodes.{NodeValue, IsNode}
use Rattle.strategy_games.specs.Plans.{Fits, wins_vector}
use Rattle.strategy_games.specs.Choosing.{IsChosenPlan}
use Rattle.strategy_games.proofs.Lists.{Contains-map}
use Rattle.strategy_tree.specs.Bridge.{bridge}
use Rattle.strategy_tree.proofs.BridgeLaws as laws
use Rattle.am_report.specs.Answers.{SolveAnswerValue, EntryValue}
use Rattle.am_answer.specs.Reports.{IsSolveAnswer}

-- a vector that is printed is of the front
of_front : (n : NodeValue) (weights : List ℕ) (moves : ℕ) (found : SolveAnswerValue) (is : IsSolveAnswer n weights moves found) (vector : Vector)
    → Contains (map (λ e. e.vector) found.entries) vector → Contains is.vectors.front vector
of_front n weights moves found is vector member =
    let vectors = map (λ e. e.vector) found.entries in
    Contains-permutation vectors is.vectors.front vector (IsPermutation-sym is.vectors.front vectors is.vectors.same) member

pub plan-wins : (n : NodeValue) (weights : List ℕ) (moves : ℕ) (found : SolveAnswerValue) (entry : EntryValue) → IsNode n → IsSolveAnswer n weights moves found → Contains found.entries entry
    → Fits bridge entry.plan n moves × (wins_vector bridge entry.plan n ≡ entry.vector)
plan-wins n weights moves found entry node is member =
    let front = is.vectors.front in
    let inside : Contains front entry.vector = of_front n weights moves found is entry.vector (Contains-map (λ e. e.vector) found.entries entry member) in
    let chosen = All-contains (λ e. IsChosenPlan bridge e.plan n moves e.vector) found.entries entry is.plans member in
    let wins = laws.chosen_plan.wins entry.plan n moves entry.vector front node is.vectors.is_front (entry.vector, inside, Dominates-refl entry.vector) chosen in
    (wins.0, is.vectors.is_front.apart (wins_vector bridge entry.plan n) entry.vector wins.1.member inside wins.1.above)
