-- A shuffle keeps the items.
use Rattle.std.proofs.Common.{◌≡◌, ℕ, zero, suc, ◌+◌, ◌-◌, ◌%◌, ◌<◌, length, refl, ap, arith}
use Rattle.std.specs.Prelude.{All}
use Rattle.std.specs.List.{swap}
use Rattle.std.specs.List.Sorted.{IsPermutation}
use Rattle.std.proofs.lemmas.List.Elements.{All-nil, All-cons, All-weaker}
use Rattle.std.proofs.lemmas.List.Sorted.{IsPermutation-refl, IsPermutation-swap, IsPermutation-trans, length_permutation}
use Rattle.layout_maker.specs.Generator.{Shuffle, next_state, exchanged, exchanged_from, shuffled, orders}

drawn_inside : (state place n : ℕ) → place < n → state % (place + 1) < n
drawn_inside state place n inside = omega arith

exchanged-permutation : (place : ℕ) (shuffle : Shuffle) → place < length shuffle.items → IsPermutation shuffle.items (exchanged place shuffle).items
exchanged-permutation place shuffle inside =
    let drawn = next_state shuffle.state % (place + 1) in
    IsPermutation-swap shuffle.items (swap shuffle.items place drawn) place drawn inside (drawn_inside (next_state shuffle.state) place (length shuffle.items) inside) refl

exchanged_from-permutation : (place : ℕ) (shuffle : Shuffle) → place < length shuffle.items → IsPermutation shuffle.items (exchanged_from place shuffle).items
unfolding exchanged_from
exchanged_from-permutation zero shuffle inside = IsPermutation-refl shuffle.items
exchanged_from-permutation (suc place) shuffle inside =
    let next = exchanged (suc place) shuffle in
    let kept = exchanged-permutation (suc place) shuffle inside in
    IsPermutation-trans shuffle.items next.items (exchanged_from place next).items kept (exchanged_from-permutation place next (omega (arith, length_permutation shuffle.items next.items kept)))

-- a list that is shuffled keeps its items
pub shuffled-permutation : (shuffle : Shuffle) → 0 < length shuffle.items → IsPermutation shuffle.items (shuffled shuffle).items
unfolding shuffled
shuffled-permutation shuffle some = exchanged_from-permutation (length shuffle.items - 1) shuffle (omega arith)

-- so does each of its orders
pub orders-permutations : (times : ℕ) (shuffle : Shuffle) → 0 < length shuffle.items → All (IsPermutation shuffle.items) (orders times shuffle)
unfolding orders
orders-permutations zero shuffle some = All-nil (IsPermutation shuffle.items)
orders-permutations (suc times) shuffle some =
    let next = shuffled shuffle in
    let kept = shuffled-permutation shuffle some in
    All-cons (IsPermutation shuffle.items) next.items (orders times next) kept
    (All-weaker (IsPermutation next.items) (IsPermutation shuffle.items) (λ order more. IsPermutation-trans shuffle.items next.items order kept more) (orders times next) (orders-permutations times next (omega (arith, length_permutation shuffle.items next.items kept))))

pub length-orders : (times : ℕ) (shuffle : Shuffle) → length (orders times shuffle) ≡ times
unfolding orders
length-orders zero shuffle = refl
length-orders (suc times) shuffle = ap (λ n. suc n) (length-orders times (shuffled shuffle))
