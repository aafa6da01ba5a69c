-- A text's first word, and the words after it.
use Rattle.std.proofs.Common.{◌≡◌, ℕ, ◌<◌, ◌⊎◌, Bool, true, false, not, cond, ltb, eqb, List, [], ◌∷◌, length, take, drop, filter, refl, sym, ap, ◌∙◌, arith, inl, inr}
use Rattle.std.specs.List.{slice_split, onto_first, position_or_len}
use Rattle.std.proofs.lemmas.Bool.{cases_Bool, lt-ltb, eqb-true, eqb-false}
use Rattle.std.proofs.lemmas.List.{nil_from_length}
use Rattle.std.proofs.lemmas.List.Folds.{length-prefix_len}
use Rattle.std.proofs.lemmas.List.Splits.{slice_split-cons_yes, slice_split-cons_no}
use Rattle.byte_text.specs.Blanks.{is_blank, after_blanks, words}
use Rattle.byte_text.proofs.Places.{position_or_len-cons}

-- whether a piece has a byte
abbrev pub has_bytes : List ℕ → Bool
has_bytes piece = ltb 0 (length piece)

-- the pieces between separators that aren't empty
abbrev pub pieces : (ℕ → Bool) → List ℕ → List (List ℕ)
pieces p text = filter has_bytes (slice_split p text)

pub pieces-cons : (p : ℕ → Bool) (byte : ℕ) (rest : List ℕ) → p byte ≡ true → pieces p (byte ∷ rest) ≡ pieces p rest
pieces-cons p byte rest blank = ap (filter has_bytes) (slice_split-cons_yes p byte rest blank)

-- a list without the elements at its front that pass
abbrev pub past : (ℕ → Bool) → List ℕ → List ℕ
past p [] = []
past p (x ∷ xs) = cond (p x) (past p xs) (x ∷ xs)

pub pieces-past : (p : ℕ → Bool) (text : List ℕ) → pieces p (past p text) ≡ pieces p text
pieces-past p [] = refl
pieces-past p (byte ∷ rest) =
    elim (cases_Bool (p byte)) [
      | inl blank ↦ rw (blank) (pieces-past p rest)
      | inr other ↦ rw (other, other) refl
    ]

-- what a text is split into: the part before the first separator, and the others
pub record Parts (p : ℕ → Bool) (text : List ℕ) : Type 0 where
  pub others : List (List ℕ)
  pub split : slice_split p text ≡ take (position_or_len p text) text ∷ others
  pub rest : filter has_bytes others ≡ pieces p (drop (position_or_len p text) text)

position_or_len-here : (p : ℕ → Bool) (byte : ℕ) (rest : List ℕ) → p byte ≡ true → position_or_len p (byte ∷ rest) ≡ 0
position_or_len-here p byte rest separator = rw (separator) refl

pub parts_of : (p : ℕ → Bool) (text : List ℕ) → Parts p text
parts_of p [] = record { others = []; split = refl; rest = refl }
parts_of p (byte ∷ rest) =
    elim (cases_Bool (p byte)) [
      | inl separator ↦ record {
        others = slice_split p rest;
        split = rw (position_or_len-here p byte rest separator) (slice_split-cons_yes p byte rest separator);
        rest = rw (position_or_len-here p byte rest separator) (sym (pieces-cons p byte rest separator));
      }
      | inr other ↦ let more = parts_of p rest in record {
        others = more.others;
        split = rw (position_or_len-cons p byte rest other) (slice_split-cons_no p byte rest other ∙ ap (onto_first byte) more.split);
        rest = rw (position_or_len-cons p byte rest other) more.rest;
      }
    ]

-- the words begin with the first word, where no blank stands in front
pub words_first : (p : ℕ → Bool) (text : List ℕ) → 0 < position_or_len p text → pieces p text ≡ take (position_or_len p text) text ∷ pieces p (drop (position_or_len p text) text)
words_first p text some =
    let parts = parts_of p text in
    let long : ltb 0 (length (take (position_or_len p text) text)) ≡ true = lt-ltb _ _ (omega (arith, length-prefix_len (λ x. not (p x)) text)) in
    rw (parts.split, long, parts.rest) refl

pub after_blanks-past : (text : List ℕ) → after_blanks text ≡ past is_blank text
unfolding after_blanks
after_blanks-past [] = refl
after_blanks-past (byte ∷ rest) = rw (after_blanks-past rest) refl

-- what is left past the separators begins with none, or is empty
pub past_first : (p : ℕ → Bool) (text : List ℕ) → past p text ≡ [] ⊎ 0 < position_or_len p (past p text)
past_first p [] = inl refl
past_first p (byte ∷ rest) =
    elim (cases_Bool (p byte)) [
      | inl blank ↦ rw (blank) (past_first p rest)
      | inr other ↦ inr (rw (other, other) (omega arith))
    ]

pub words-start : (text : List ℕ) → words text ≡ pieces is_blank (after_blanks text)
unfolding words
words-start text = rw (after_blanks-past text) (sym (pieces-past is_blank text))

pub words_none : (text start : List ℕ) → start ≡ after_blanks text → eqb (length start) 0 ≡ true → words text ≡ []
words_none text start is none =
    let nothing : after_blanks text ≡ [] = sym is ∙ nil_from_length start (eqb-true _ _ none) in
    words-start text ∙ ap (pieces is_blank) nothing

pub words_more : (text start : List ℕ) (end : ℕ) → start ≡ after_blanks text → eqb (length start) 0 ≡ false → end ≡ position_or_len is_blank start → words text ≡ take end start ∷ words (drop end start)
unfolding words
words_more text start end is some end-is =
    let first : 0 < position_or_len is_blank start = rw (is, after_blanks-past text) (elim (past_first is_blank text) [
      | inl nothing ↦ absurd (eqb-false _ _ some (ap length (is ∙ after_blanks-past text ∙ nothing)))
      | inr more ↦ more
    ]) in
    words-start text ∙ rw (← is, end-is) (words_first is_blank start first)
