-- A layout at which the vector has a 1 is made.
use Rattle.std.proofs.Common.{◌≡◌, ◌∙◌, ℕ, zero, suc, Bool, true, Some, List, [], ◌∷◌, map, Contains, refl, sym, ap, subst, slice_get, rules}
use Rattle.std.proofs.lemmas.List.Sorted.{Contains-permutation, IsPermutation-sym}
use Rattle.win_vectors.proofs.Orders.{Dominates-refl}
use Rattle.trick_rules.specs.Nodes.{NodeValue, IsNode, states}
use Rattle.strategy_games.specs.Plans.{wins, wins_vector}
use Rattle.strategy_games.proofs.Lists.{Contains-here, Contains-there}
use Rattle.strategy_tree.specs.Bridge.{bridge}
use Rattle.strategy_tree.proofs.BridgeLaws as laws
use Rattle.am_match.specs.Defences.{Sitter}
use Rattle.am_match.proofs.WonLines.{what_is_won_is_made}
use Rattle.am_answer.specs.Tasks.{Playing}
use Rattle.am_answer.specs.Matches.{IsPlayed, seated_at}

mapped_at : {X Y : Type 0} (f : X → Y) (xs : List X) (k : ℕ) (x : X) → slice_get xs k ≡ Some x → slice_get (map f xs) k ≡ Some (f x)
mapped_at f [] k x here = absurd (search (rules, here))
mapped_at f (y ∷ xs) zero x here = search (rules, here)
mapped_at f (y ∷ xs) (suc k) x here = mapped_at f xs k x here

contains_at : {X : Type 0} (xs : List X) (k : ℕ) (x : X) → slice_get xs k ≡ Some x → Contains xs x
contains_at [] k x here = absurd (search (rules, here))
contains_at (y ∷ xs) zero x here = subst (λ z. Contains (y ∷ xs) z) (search (rules, here)) (Contains-here y xs)
contains_at (y ∷ xs) (suc k) x here = Contains-there y xs x (contains_at xs k x here)

some-same : {X : Type 0} (x y : X) → Some x ≡ Some y → x ≡ y
some-same x y same = cc

pub bit-made : (n : NodeValue) (weights : List ℕ) (moves : ℕ) (playing : Playing) (table later : List Sitter) (cards : List ℕ) (made : Bool) → IsNode n
    → IsPlayed n weights moves playing table later true cards made → made ≡ true
bit-made n weights moves playing table later cards made node is =
    let first = is.first in
    let front = first.reported.front in
    let whole = first.reported.is_front in
    let inside = Contains-permutation (is.vector ∷ first.others) front is.vector (IsPermutation-sym front (is.vector ∷ first.others) first.reported.same) (Contains-here is.vector first.others) in
    let won = laws.chosen_plan.wins is.plan n moves is.vector front node whole (is.vector, inside, Dominates-refl is.vector) first.chosen in
    let exact : wins_vector bridge is.plan n ≡ is.vector = whole.apart (wins_vector bridge is.plan n) is.vector won.1.member inside won.1.above in
    let there = mapped_at (λ s. wins bridge is.plan s) (states n) playing.place is.state is.at_layout in
    let bit : wins bridge is.plan is.state ≡ true = some-same (wins bridge is.plan is.state) true (sym there ∙ ap (λ v. slice_get v playing.place) exact ∙ is.bit_there) in
    let made_there = what_is_won_is_made is.plan n moves is.state (seated_at playing.switch table) cards node won.0 (contains_at (states n) playing.place is.state is.at_layout) bit is.follows in
    is.outcome ∙ rw (made_there) refl
