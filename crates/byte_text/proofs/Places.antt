-- Where the first element that passes a test stands.
use Rattle.std.proofs.Common.{◌≡◌, ℕ, suc, ◌<◌, ◌≤◌, Bool, true, false, not, cond, ltb, List, ◌∷◌, length, Option, Some, None, unwrap_or, refl, arith, inl, inr}
use Rattle.std.specs.List.{position_or_len}
use Rattle.std.proofs.lemmas.Bool.{cases_lt, lt-ltb, le-ltb, ltb-true, ltb-false}
use Rattle.std.proofs.lemmas.List.Sums.{prefix_len-le-length}

pub position_or_len-cons : (p : ℕ → Bool) (byte : ℕ) (rest : List ℕ) → p byte ≡ false → position_or_len p (byte ∷ rest) ≡ suc (position_or_len p rest)
position_or_len-cons p byte rest other = rw (other) (omega arith)

-- the end of a list's first part is where the separator stands, or the list's end
pub end_from_position : (p : ℕ → Bool) (text : List ℕ) (found : Option ℕ) → found ≡ cond (ltb (position_or_len p text) (length text)) (Some (position_or_len p text)) None → unwrap_or found (length text) ≡ position_or_len p text
end_from_position p text found is =
    elim (cases_lt (position_or_len p text) (length text)) [
      | inl inside ↦ rw (is, lt-ltb _ _ inside) refl
      | inr past ↦ rw (is, le-ltb _ _ past) (omega (arith, prefix_len-le-length (λ x. not (p x)) text))
    ]

at_some : (b : Bool) (n at : ℕ) (found : Option ℕ) → found ≡ cond b (Some n) None → found ≡ Some at → at ≡ n
at_some true n at found is some = cc
at_some false n at found is some = absurd cc

at_none : (b : Bool) (n : ℕ) (found : Option ℕ) → found ≡ cond b (Some n) None → found ≡ None → b ≡ false
at_none true n found is none = absurd cc
at_none false n found is none = refl

pub found_at : (p : ℕ → Bool) (xs : List ℕ) (found : Option ℕ) (at : ℕ) → found ≡ cond (ltb (position_or_len p xs) (length xs)) (Some (position_or_len p xs)) None → found ≡ Some at → at ≡ position_or_len p xs
found_at p xs found at is some = at_some (ltb (position_or_len p xs) (length xs)) (position_or_len p xs) at found is some

pub found_none : (p : ℕ → Bool) (xs : List ℕ) (found : Option ℕ) → found ≡ cond (ltb (position_or_len p xs) (length xs)) (Some (position_or_len p xs)) None → found ≡ None → length xs ≤ position_or_len p xs
found_none p xs found is none = ltb-false _ _ (at_none (ltb (position_or_len p xs) (length xs)) (position_or_len p xs) found is none)

-- a place that was found is within the list
pub found_inside : (place size at : ℕ) (found : Option ℕ) → found ≡ cond (ltb place size) (Some place) None → found ≡ Some at → place < size
found_inside place size at found is some = inside (ltb place size) refl is where
  inside : (b : Bool) → ltb place size ≡ b → found ≡ cond b (Some place) None → place < size
  inside true holds is = ltb-true place size holds
  inside false holds is = cc
