-- Layouts by number, one after another.
use Rattle.std.proofs.Common.{◌≡◌, ◌∙◌, ◌-◌, ◌+◌, ◌<◌, ◌≤◌, ◌++◌, ◌||◌, Bool, true, false, ℕ, zero, suc, Some, List, [], ◌∷◌, take, length, refl, sym, ap, ap₂, subst, append_assoc, nat_lt, arith}
use Rattle.std.specs.List.{slice_get}
use Rattle.std.proofs.lemmas.Option.{slice_get_within, get_or_from_slice_get}
use Rattle.std.proofs.lemmas.Bool.Decides.{nat_tests}
use Rattle.std.proofs.lemmas.List.Folds.{list_any_more}
use Rattle.win_vectors.specs.Fronts.{Vector}
use Rattle.win_vectors.specs.Vectors.{ones_of}
use Rattle.told_words.specs.Numbers.{has_place, has_layout, has_one, number_text, numbers_upto}

place_get : (bits : Vector) (i : ℕ) (bit : Bool) → slice_get bits i ≡ Some bit → has_place bits i ≡ bit
place_get [] i bit h = absurd cc
place_get (b ∷ bits) zero bit h = cc
place_get (b ∷ bits) (suc i) bit h = place_get bits i bit h

place_beyond : (bits : Vector) (i : ℕ) → length bits ≤ i → has_place bits i ≡ false
place_beyond [] i high = refl
place_beyond (b ∷ bits) zero high = absurd (omega (arith, high))
place_beyond (b ∷ bits) (suc i) high = place_beyond bits i (omega (arith, high))

-- the layout of a number has the bit at the place before it
pub layout_get : (bits : Vector) (number : ℕ) (bit : Bool) → (number ≡ 0 → ⊥) → slice_get bits (number - 1) ≡ Some bit → bit ≡ has_layout bits number
layout_get bits zero bit other h = absurd (other refl)
layout_get bits (suc i) bit other h =
    let same : suc i - 1 ≡ i = omega arith in
    sym (place_get bits i bit (subst (λ k. slice_get bits k ≡ Some bit) same h))

-- there is no layout 0
pub layout_zero : (bits : Vector) (number : ℕ) → number ≡ 0 → false ≡ has_layout bits number
layout_zero bits zero h = refl
layout_zero bits (suc i) h = absurd (omega (arith, h))

-- and none beyond the last
pub layout_beyond : (bits : Vector) (number : ℕ) → length bits < number → false ≡ has_layout bits number
layout_beyond bits zero high = refl
layout_beyond bits (suc i) high = sym (place_beyond bits i (omega (arith, high)))

some : (n : ℕ) → nat_lt 0 (1 + n) ≡ true
some n = grind (arith, nat_tests)

-- a layout is counted exactly if there is one
pub counted : (bits : Vector) → nat_lt 0 (ones_of bits) ≡ has_one bits
counted [] = refl
counted (true ∷ bits) = some (ones_of bits)
counted (false ∷ bits) =
    let none : 0 + ones_of bits ≡ ones_of bits = omega arith in
    ap (λ n. nat_lt 0 n) none ∙ counted bits

-- one bit more
pub begun_more : (bits : Vector) (i : ℕ) (bit begun : Bool) → slice_get bits i ≡ Some bit → begun ≡ has_one (take i bits) → (begun || bit) ≡ has_one (take (i + 1) bits)
begun_more bits i bit begun h so_far =
    ap₂ (λ (a b : Bool). a || b) so_far (sym (get_or_from_slice_get bits i bit bit h)) ∙ sym (list_any_more (λ b. b) bits i bit (slice_get_within bits i bit h))

-- one number more
pub numbers_more : (bits : Vector) (i : ℕ) (begun : Bool) (start out now : List ℕ) → begun ≡ has_one (take i bits) → out ≡ start ++ numbers_upto bits i
    → now ≡ out ++ number_text bits begun (i + 1) → now ≡ start ++ numbers_upto bits (i + 1)
numbers_more bits i begun start out now begun_is so_far written =
    let next : i + 1 ≡ suc i = omega arith in
    written
    ∙ ap₂ (λ (o : List ℕ) (b : Bool). o ++ number_text bits b (i + 1)) so_far begun_is
    ∙ append_assoc start (numbers_upto bits i) (number_text bits (has_one (take i bits)) (i + 1))
    ∙ ap (λ j. start ++ (numbers_upto bits i ++ number_text bits (has_one (take i bits)) j)) next
    ∙ ap (λ j. start ++ numbers_upto bits j) (sym next)
