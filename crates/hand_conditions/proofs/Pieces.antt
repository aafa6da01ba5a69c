-- A text cut into pieces, and the terms that they tell.
use Rattle.std.proofs.Common.{◌≡◌, ℕ, ◌+◌, ◌≤◌, Bool, Option, None, Some, Result, Ok, Err, List, [], ◌∷◌, ◌++◌, length, take, drop, position, refl, sym, ap, ◌∙◌, inl, inr, arith, append_assoc, Bor, MatchOption}
use Rattle.std.specs.Option.{option_map}
use Rattle.std.specs.List.{slice_split, position_or_len, onto_first}
use Rattle.std.proofs.lemmas.Bool.{cases_Bool}
use Rattle.std.proofs.lemmas.List.Splits.{slice_split-cons_no, slice_split_first}
use Rattle.byte_text.proofs.Places.{position_or_len-cons, found_at, found_none, found_inside}
use Rattle.hand_conditions.specs.declared.fault.ConditionFault.{ConditionFault}
use Rattle.hand_conditions.specs.declared.term.Term.{Term}
use Rattle.byte_text.specs.Blanks.{words}
use Rattle.hand_conditions.specs.declared.fault.TermFault.{TermFault}
use Rattle.hand_conditions.specs.Reading.{is_comma, cut_at, before_terms, term_and, term_refused, term_read, terms_read, condition_read}

-- ---- pieces

-- a text without the byte is one piece
one_piece : (p : ℕ → Bool) (text : List ℕ) → length text ≤ position_or_len p text → slice_split p text ≡ text ∷ []
one_piece p [] past = refl
one_piece p (x ∷ xs) past =
    elim (cases_Bool (p x)) [
      | inl end ↦
          let here : position_or_len p (x ∷ xs) ≡ 0 = rw end refl in
          absurd (omega (arith, here))
      | inr other ↦
          slice_split-cons_no p x xs other ∙ ap (onto_first x) (one_piece p xs (omega (arith, position_or_len-cons p x xs other)))
    ]

none_mapped : {A : Type 0} (f : ℕ → A) (found : Option ℕ) → None ≡ option_map f found → found ≡ None
none_mapped f None is = refl
none_mapped f (Some n) is = cc

some_mapped : {A : Type 0} (f : ℕ → A) (found : Option ℕ) (value : A) → Some value ≡ option_map f found → (n : ℕ) × (found ≡ Some n) × (value ≡ f n)
some_mapped f None value is = cc
some_mapped f (Some n) value is = (n, refl, cc)

pub piece_alone : (text : List ℕ) → None ≡ cut_at 44 text → slice_split is_comma text ≡ text ∷ []
piece_alone text is =
    let none = none_mapped (λ place. (take place text, drop (place + 1) text)) (position is_comma text) is in
    one_piece is_comma text (found_none is_comma text (position is_comma text) refl none)

pub piece_first : (text piece rest : List ℕ) → Some (piece, rest) ≡ cut_at 44 text → slice_split is_comma text ≡ piece ∷ slice_split is_comma rest
piece_first text piece rest is =
    let found = some_mapped (λ place. (take place text, drop (place + 1) text)) (position is_comma text) (piece, rest) is in
    let at = found_at is_comma text (position is_comma text) found.0 refl found.1 in
    slice_split_first is_comma text 0 (found_inside _ _ found.0 (position is_comma text) refl found.1)
    ∙ ap (λ n. take n text ∷ slice_split is_comma (drop (n + 1) text)) (sym at)
    ∙ sym (ap (λ (cut : List ℕ × List ℕ). cut.0 ∷ slice_split is_comma cut.1) found.2)

-- ---- terms

-- how much of a text is left: the bytes and the end of the last piece
abbrev pub size_left : Option (List ℕ) → ℕ
size_left None = 0
size_left (Some text) = length text + 1

-- the terms of what is left
abbrev pub terms_left : Option (List ℕ) → Result (List Term) ConditionFault
terms_left None = Ok []
terms_left (Some text) = condition_read text

pub before-before : (terms more : List Term) (others : Result (List Term) ConditionFault) → before_terms terms (before_terms more others) ≡ before_terms (terms ++ more) others
before-before terms more (Ok others) = ap (λ (all : List Term). Ok all) (sym (append_assoc terms more others))
before-before terms more (Err fault) = refl

-- ---- a piece more

term_more : (piece : List ℕ) (terms : List Term) (term : Term) (others : Result (List Term) ConditionFault) → Ok term ≡ term_read (words piece)
    → before_terms terms (term_and piece (term_read (words piece)) others) ≡ before_terms (terms ++ term ∷ []) others
term_more piece terms term others read =
    ap (λ (told : Result Term TermFault). before_terms terms (term_and piece told others)) (sym read) ∙ before-before terms (term ∷ []) others

-- one piece is a term
pub terms-more : (told piece : List ℕ) (after : Option (Bor (List ℕ))) (terms : List Term) (term : Term)
    → MatchOption after (slice_split is_comma told ≡ piece ∷ []) (λ rest. slice_split is_comma told ≡ piece ∷ slice_split is_comma rest.now) → Ok term ≡ term_read (words piece)
    → before_terms terms (condition_read told) ≡ before_terms (terms ++ term ∷ []) (terms_left (option_map (λ text. text.now) after))
unfolding condition_read
terms-more told piece None terms term split read =
    ap (λ pieces. before_terms terms (terms_read pieces)) split ∙ term_more piece terms term (Ok []) read
terms-more told piece (Some rest) terms term split read =
    ap (λ pieces. before_terms terms (terms_read pieces)) split ∙ term_more piece terms term (condition_read rest.now) read

-- one piece isn't a term
pub terms-refused : (told piece : List ℕ) (after : Option (Bor (List ℕ))) (terms : List Term) (why : TermFault)
    → MatchOption after (slice_split is_comma told ≡ piece ∷ []) (λ rest. slice_split is_comma told ≡ piece ∷ slice_split is_comma rest.now) → Err why ≡ term_read (words piece)
    → before_terms terms (condition_read told) ≡ term_refused piece why
unfolding condition_read
terms-refused told piece None terms why split read =
    ap (λ pieces. before_terms terms (terms_read pieces)) split ∙ ap (λ (t : Result Term TermFault). before_terms terms (term_and piece t (Ok []))) (sym read)
terms-refused told piece (Some rest) terms why split read =
    ap (λ pieces. before_terms terms (terms_read pieces)) split ∙ ap (λ (t : Result Term TermFault). before_terms terms (term_and piece t (condition_read rest.now))) (sym read)
