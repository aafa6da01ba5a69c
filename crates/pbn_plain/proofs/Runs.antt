-- Runs of bytes, and what stands behind them.
use Rattle.std.proofs.Common.{◌≡◌, ℕ, suc, ◌+◌, Bool, true, false, not, List, [], ◌∷◌, ◌++◌, length, take, drop, refl, ap, ◌∙◌, arith}
use Rattle.std.specs.List.{list_all, position_or_len, before_first, after_first}
use Rattle.std.proofs.lemmas.Bool.{and_parts, and_from, not-true}
use Rattle.byte_text.specs.Blanks.{is_blank, after_blanks}
use Rattle.byte_text.proofs.Places.{position_or_len-cons}

-- what stops a run: the end of the text, or a byte that passes
abbrev pub stops : (ℕ → Bool) → List ℕ → Bool
stops p [] = true
stops p (byte ∷ rest) = p byte

abbrev pub lacks : (ℕ → Bool) → List ℕ → Bool
lacks p xs = list_all (λ b. not (p b)) xs

pub position-behind : (p : ℕ → Bool) (xs rest : List ℕ) → lacks p xs ≡ true → stops p rest ≡ true → position_or_len p (xs ++ rest) ≡ length xs
position-behind p [] [] none at = refl
position-behind p [] (byte ∷ rest) none at = rw at refl
position-behind p (x ∷ xs) rest none at =
    let parts = and_parts (not (p x)) (lacks p xs) none in
    position_or_len-cons p x (xs ++ rest) (not-true (p x) parts.0) ∙ ap suc (position-behind p xs rest parts.1 at)

pub take-behind : (xs rest : List ℕ) → take (length xs) (xs ++ rest) ≡ xs
take-behind [] rest = refl
take-behind (x ∷ xs) rest = ap (λ more. x ∷ more) (take-behind xs rest)

pub drop-behind : (xs rest : List ℕ) → drop (length xs) (xs ++ rest) ≡ rest
drop-behind [] rest = refl
drop-behind (x ∷ xs) rest = drop-behind xs rest

pub before-behind : (p : ℕ → Bool) (xs rest : List ℕ) → lacks p xs ≡ true → stops p rest ≡ true → before_first p (xs ++ rest) ≡ xs
before-behind p xs rest none at = ap (λ n. take n (xs ++ rest)) (position-behind p xs rest none at) ∙ take-behind xs rest

pub rest-behind : (p : ℕ → Bool) (xs rest : List ℕ) → lacks p xs ≡ true → stops p rest ≡ true → drop (position_or_len p (xs ++ rest)) (xs ++ rest) ≡ rest
rest-behind p xs rest none at = ap (λ n. drop n (xs ++ rest)) (position-behind p xs rest none at) ∙ drop-behind xs rest

pub drop-past : (xs : List ℕ) (byte : ℕ) (rest : List ℕ) → drop (length xs + 1) (xs ++ byte ∷ rest) ≡ rest
drop-past [] byte rest = refl
drop-past (x ∷ xs) byte rest =
    let e : length (x ∷ xs) + 1 ≡ suc (length xs + 1) = omega arith in
    ap (λ n. drop n (x ∷ xs ++ byte ∷ rest)) e ∙ drop-past xs byte rest

pub after-behind : (p : ℕ → Bool) (xs : List ℕ) (byte : ℕ) (rest : List ℕ) → lacks p xs ≡ true → p byte ≡ true → after_first p (xs ++ byte ∷ rest) ≡ rest
after-behind p xs byte rest none at = ap (λ n. drop (n + 1) (xs ++ byte ∷ rest)) (position-behind p xs (byte ∷ rest) none at) ∙ drop-past xs byte rest

pub after_blanks-behind : (blanks : List ℕ) (byte : ℕ) (rest : List ℕ) → list_all is_blank blanks ≡ true → is_blank byte ≡ false → after_blanks (blanks ++ byte ∷ rest) ≡ byte ∷ rest
unfolding after_blanks
after_blanks-behind [] byte rest each other = rw other refl
after_blanks-behind (b ∷ blanks) byte rest each other =
    let parts = and_parts (is_blank b) (list_all is_blank blanks) each in
    rw (parts.0) (after_blanks-behind blanks byte rest parts.1 other)

-- what each element passes, where one test follows from another
pub all_weaker : (p q : ℕ → Bool) → ((b : ℕ) → p b ≡ true → q b ≡ true) → (xs : List ℕ) → list_all p xs ≡ true → list_all q xs ≡ true
all_weaker p q weaker [] each = refl
all_weaker p q weaker (x ∷ xs) each =
    let parts = and_parts (p x) (list_all p xs) each in
    and_from (q x) (list_all q xs) (weaker x parts.0) (all_weaker p q weaker xs parts.1)
