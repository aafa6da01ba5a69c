-- How lines are read.
use Rattle.std.proofs.Common.{◌≡◌, ◌≢◌, ℕ, ◌+◌, ◌-◌, ◌≤◌, Option, Some, None, List, [], ◌∷◌, ◌++◌, length, take, drop, position, subst, inl, inr, Bor, MatchOption, refl, sym, ap, ◌∙◌, arith}
use Rattle.std.specs.Option.{option_map, option_copied}
use Rattle.std.specs.List.{slice_split, position_or_len, onto_first}
use Rattle.std.proofs.lemmas.List.{take_rest}
use Rattle.std.proofs.lemmas.List.Splits.{slice_split-cons_no}
use Rattle.std.proofs.lemmas.Bool.{cases_eq, cases_Bool, ne_eqb}
use Rattle.std.proofs.lemmas.Bool.Decides.{Decides-eqb}
use Rattle.byte_text.specs.Lines.{is_line_end, line_at, text_after}

pub line_at-ends : (bytes : List ℕ) (at end : ℕ) → Some end ≡ position is_line_end (take (length bytes - at) (drop at bytes)) → Some (take end (take (length bytes - at) (drop at bytes))) ≡ line_at bytes at
unfolding line_at
line_at-ends bytes at end h =
    let found : Some end ≡ position is_line_end (drop at bytes) = subst (λ xs. Some end ≡ position is_line_end xs) (take_rest bytes at) h in
    rw take_rest (ap (option_map (λ n. take n (drop at bytes))) found)

pub line_at-open : (bytes : List ℕ) (at : ℕ) → None ≡ position is_line_end (take (length bytes - at) (drop at bytes)) → None ≡ line_at bytes at
unfolding line_at
line_at-open bytes at h =
    let none : None ≡ position is_line_end (drop at bytes) = subst (λ xs. None ≡ position is_line_end xs) (take_rest bytes at) h in
    ap (option_map (λ n. take n (drop at bytes))) none

pub text_after-append : (word rest : List ℕ) → text_after word (word ++ rest) ≡ Some rest
text_after-append [] rest = refl
text_after-append (w ∷ word) rest = rw ((Decides-eqb w w).1 refl) (text_after-append word rest)

pub text_after-other : (word text : List ℕ) → ((rest : List ℕ) → text ≢ word ++ rest) → text_after word text ≡ None
text_after-other [] text h = absurd (h text refl)
text_after-other (w ∷ word) [] h = refl
text_after-other (w ∷ word) (b ∷ text) h =
    elim (cases_eq w b) [
      | inl same ↦ rw (same, (Decides-eqb b b).1 refl) (text_after-other word text (λ rest e. h rest cc))
      | inr other ↦ rw (ne_eqb w b other) refl
    ]

pub text_after-is : (word text : List ℕ) (r : Option (Bor (List ℕ))) → MatchOption r ((rest : List ℕ) → text ≢ word ++ rest) (λ x. text ≡ word ++ x.now) → option_copied r ≡ text_after word text
text_after-is word text None h = sym (text_after-other word text h)
text_after-is word text (Some x) h = rw (h, text_after-append) refl

-- a text with no line end is one line
pub one_line : (text : List ℕ) → length text ≤ position_or_len is_line_end text → slice_split is_line_end text ≡ text ∷ []
one_line [] past = refl
one_line (x ∷ xs) past =
    elim (cases_Bool (is_line_end x)) [
      | inl end ↦
          let here : position_or_len is_line_end (x ∷ xs) ≡ 0 = rw end refl in
          absurd (omega (arith, here))
      | inr other ↦
          let more : position_or_len is_line_end (x ∷ xs) ≡ 1 + position_or_len is_line_end xs = rw other refl in
          slice_split-cons_no is_line_end x xs other ∙ ap (onto_first x) (one_line xs (omega (arith, more)))
    ]
