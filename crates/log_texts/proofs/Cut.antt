-- A text cut at a mark.
use Rattle.std.proofs.Common.{◌≡◌, ℕ, ◌+◌, ◌≤◌, ◌<◌, ◌==◌, Bool, true, false, Option, Some, None, List, [], ◌∷◌, ◌++◌, length, Bor, MatchOption, All, nat_le, refl, ap, ◌∙◌, arith, inl, inr}
use Rattle.std.specs.Option.{option_map}
use Rattle.std.specs.List.{list_all, position_or_len, onto_first}
use Rattle.std.proofs.lemmas.Bool.{cases_Bool, and_parts, ne_eqb, leb-true}
use Rattle.std.proofs.lemmas.Bool.Decides.{Decides-eqb}
use Rattle.std.proofs.lemmas.List.Elements.{All-nil, All-cons}
use Rattle.std.proofs.lemmas.List.Splits.{slice_split-cons_no, slice_split_none, slice_split_at}
use Rattle.log_texts.specs.Reading.{pieces_at}

-- a text without the mark is one piece
pub one_piece : (mark : ℕ) (text : List ℕ) → length text ≤ position_or_len (λ byte. byte == mark) text → pieces_at mark text ≡ text ∷ []
one_piece mark [] past = refl
one_piece mark (x ∷ xs) past =
    elim (cases_Bool (x == mark)) [
      | inl end ↦
          let here : position_or_len (λ byte. byte == mark) (x ∷ xs) ≡ 0 = rw end refl in
          absurd (omega (arith, here))
      | inr other ↦
          let more : position_or_len (λ byte. byte == mark) (x ∷ xs) ≡ 1 + position_or_len (λ byte. byte == mark) xs = rw other refl in
          slice_split-cons_no (λ byte. byte == mark) x xs other ∙ ap (onto_first x) (one_piece mark xs (omega (arith, more)))
    ]

-- the pieces that are left
abbrev pub pieces_left : ℕ → Option (List ℕ) → List (List ℕ)
pieces_left mark None = []
pieces_left mark (Some text) = pieces_at mark text

-- how much is left: its bytes and the end of the last piece
abbrev pub size_left : Option (List ℕ) → ℕ
size_left None = 0
size_left (Some text) = length text + 1

pub first_piece : (mark : ℕ) (text piece : List ℕ) (after : Option (Bor (List ℕ)))
    → MatchOption after (pieces_at mark text ≡ piece ∷ []) (λ rest. pieces_at mark text ≡ piece ∷ pieces_at mark rest.now)
    → pieces_at mark text ≡ piece ∷ pieces_left mark (option_map (λ rest. rest.now) after)
first_piece mark text piece None is = is
first_piece mark text piece (Some rest) is = is

pub size_less : (text piece : List ℕ) (after : Option (Bor (List ℕ)))
    → MatchOption after (length piece ≡ length text) (λ rest. length rest.now < length text)
    → size_left (option_map (λ rest. rest.now) after) < length text + 1
size_less text piece None is = omega arith
size_less text piece (Some rest) is = omega arith

-- the first piece and those behind it
pub record Pieces (mark : ℕ) (text : List ℕ) : Type 0 where
  pub first : List ℕ
  pub others : List (List ℕ)
  pub are : pieces_at mark text ≡ first ∷ others
  -- there is no byte where the first piece is empty and the only one
  pub none : first ≡ [] → others ≡ [] → text ≡ []

pub pieces_of : (mark : ℕ) (text : List ℕ) → Pieces mark text
pieces_of mark [] = record { first = []; others = []; are = refl; none = λ _ _. refl }
pieces_of mark (x ∷ xs) =
    let more = pieces_of mark xs in
    elim (cases_Bool (x == mark)) [
      | inl end ↦ record {
        first = [];
        others = more.first ∷ more.others;
        are = rw end (ap (λ (ps : List (List ℕ)). [] ∷ ps) more.are);
        none = λ _ e. cc;
      }
      | inr other ↦ record {
        first = x ∷ more.first;
        others = more.others;
        are = slice_split-cons_no (λ byte. byte == mark) x xs other ∙ ap (onto_first x) more.are;
        none = λ e _. cc;
      }
    ]

-- ---- texts of high bytes

-- each byte is at least this
abbrev pub is_above : ℕ → List ℕ → Bool
is_above low text = list_all (λ byte. nat_le low byte) text

lacks_mark : (mark low : ℕ) (text : List ℕ) → mark < low → is_above low text ≡ true → All (λ byte. (byte == mark) ≡ false) text
lacks_mark mark low [] less above = All-nil (λ byte. (byte == mark) ≡ false)
lacks_mark mark low (b ∷ text) less above =
    let parts = and_parts (nat_le low b) (is_above low text) above in
    let high = leb-true low b parts.0 in
    All-cons (λ byte. (byte == mark) ≡ false) b text (ne_eqb b mark (λ e. omega arith)) (lacks_mark mark low text less parts.1)

pub piece_first : (mark low : ℕ) (text rest : List ℕ) → mark < low → is_above low text ≡ true → pieces_at mark (text ++ mark ∷ rest) ≡ text ∷ pieces_at mark rest
piece_first mark low text rest less above = slice_split_at (λ byte. byte == mark) text mark rest (lacks_mark mark low text less above) ((Decides-eqb mark mark).1 refl)

pub piece_last : (mark low : ℕ) (text : List ℕ) → mark < low → is_above low text ≡ true → pieces_at mark text ≡ text ∷ []
piece_last mark low text less above = slice_split_none (λ byte. byte == mark) text (lacks_mark mark low text less above)
