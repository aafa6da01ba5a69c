-- The steps of a text of which the first line is taken, and the words of a text of which the first is.
use Rattle.std.proofs.Common.{◌≡◌, ◌∙◌, ◌+◌, ◌≤◌, ◌<◌, ℕ, List, [], ◌∷◌, ◌++◌, length, slice_get, Option, Some, None, MatchOption, option_copied, Bor, refl, sym, ap, append_assoc, flat_map, codes, arith}
use Rattle.std.specs.Option.{option_map}
use Rattle.std.specs.List.{slice_split}
use Rattle.std.specs.Slice.{IsItemAt}
use Rattle.std.specs.Fmt.{decimal}
use Rattle.std.proofs.lemmas.Option.{slice_get_past, slice_get_read}
use Rattle.byte_text.specs.Lines.{is_line_end}
use Rattle.byte_text.specs.Blanks.{words}
use Rattle.win_vectors.specs.Fronts.{Vector}
use Rattle.html_text.specs.declared.page.Piece.{Piece}
use Rattle.html_text.specs.Pages.{own, told}
use Rattle.page_text.specs.declared.markup.TheConstants.{STEP}
use Rattle.page_text.specs.Steps.{mark, tag, card_in, word_as, word_pieces, step, steps_after, level_after}

abbrev pub size_left : Option (List ℕ) → ℕ
size_left None = 0
size_left (Some text) = length text + 1

module _ (line : ℕ) (reached : List Vector) where
  -- the steps of the text that is left
  abbrev pub steps_left : ℕ → ℕ → Option (List ℕ) → List Piece
  steps_left place level None = steps_after line reached place level []
  steps_left place level (Some text) = steps_after line reached place level (slice_split is_line_end text)

  first_taken : (place level : ℕ) (text first : List ℕ) (after : Option (Bor (List ℕ)))
      → MatchOption after (slice_split is_line_end text ≡ first ∷ []) (λ rest. slice_split is_line_end text ≡ first ∷ slice_split is_line_end rest.now)
      → steps_left place level (Some text) ≡ step line place (slice_get reached place) level first ++ steps_left (place + 1) (level_after level first) (option_map (λ rest. rest.now) after)
  first_taken place level text first None is = ap (steps_after line reached place level) is
  first_taken place level text first (Some rest) is = ap (steps_after line reached place level) is

  -- one step more
  pub step_more : (start now next : List Piece) (place level : ℕ) (text first : List ℕ) (after : Option (Bor (List ℕ)))
      → now ++ steps_left place level (Some text) ≡ start
      → MatchOption after (slice_split is_line_end text ≡ first ∷ []) (λ rest. slice_split is_line_end text ≡ first ∷ slice_split is_line_end rest.now)
      → next ≡ now ++ step line place (slice_get reached place) level first
      → next ++ steps_left (place + 1) (level_after level first) (option_map (λ rest. rest.now) after) ≡ start
  step_more start now next place level text first after so_far is grew =
      let later = steps_left (place + 1) (level_after level first) (option_map (λ rest. rest.now) after) in
      ap (λ pieces. pieces ++ later) grew ∙ append_assoc now (step line place (slice_get reached place) level first) later
      ∙ ap (λ pieces. now ++ pieces) (sym (first_taken place level text first after is)) ∙ so_far

-- one word more
pub word_more : (start now begun next : List Piece) (rest word after : List ℕ) → now ++ flat_map word_pieces (words rest) ≡ start → words rest ≡ word ∷ words after
    → begun ≡ now ++ word_as (card_in word) word → next ≡ begun ++ own (codes " ") → next ++ flat_map word_pieces (words after) ≡ start
word_more start now begun next rest word after so_far is first second =
    let later = flat_map word_pieces (words after) in
    ap (λ pieces. pieces ++ later) (second ∙ ap (λ pieces. pieces ++ own (codes " ")) first ∙ append_assoc now (word_as (card_in word) word) (own (codes " ")))
    ∙ append_assoc now (word_pieces word) later ∙ ap (λ pieces. now ++ pieces) (sym (ap (flat_map word_pieces) is)) ∙ so_far

-- a word less is left
pub fewer_words : (rest word after : List ℕ) → words rest ≡ word ∷ words after → length (words after) < length (words rest)
fewer_words rest word after is = rw is (omega arith)

-- a line of text less is left
pub fewer_lines : (place size : ℕ) (text first : List ℕ) (after : Option (Bor (List ℕ))) → place + (length text + 1) ≤ size
    → MatchOption after (length first ≡ length text) (λ rest. length rest.now < length text)
    → place + 1 + size_left (option_map (λ rest. rest.now) after) ≤ size
fewer_lines place size text first None few shorter = omega arith
fewer_lines place size text first (Some rest) few shorter = omega arith

-- the layouts of a place, read
pub copied_is : (reached : List Vector) (place : ℕ) (layouts : Option (Bor Vector)) → IsItemAt reached place layouts → option_copied layouts ≡ slice_get reached place
copied_is reached place None is = sym (slice_get_past reached place is.3)
copied_is reached place (Some layouts) is = sym (slice_get_read reached (length reached) place layouts.now refl is.3.0 is.1)

seven_pieces : (start a b c d e f g : List Piece) → start ++ a ++ b ++ c ++ d ++ e ++ f ++ g ≡ start ++ (a ++ b ++ c ++ d ++ e ++ f ++ g)
seven_pieces start a b c d e f g = simp append_assoc

-- the tag of a step, added in parts
pub tag_added : (start named placed closed marked : List Piece) (line place : ℕ) (layouts : Option Vector)
    → named ≡ start ++ own STEP.now ++ told (decimal line) ++ own (codes "-") → placed ≡ named ++ told (decimal place)
    → closed ≡ placed ++ own (codes "'") → marked ≡ closed ++ mark layouts → marked ++ own (codes ">") ≡ start ++ tag line place layouts
unfolding tag
tag_added start named placed closed marked line place layouts first second third fourth =
    ap (λ (t : List Piece). t ++ own (codes ">"))
    (fourth ∙ ap (λ (t : List Piece). t ++ mark layouts) (third ∙ ap (λ (t : List Piece). t ++ own (codes "'")) (second ∙ ap (λ (t : List Piece). t ++ told (decimal place)) first)))
    ∙ seven_pieces start (own STEP.now) (told (decimal line)) (own (codes "-")) (told (decimal place)) (own (codes "'")) (mark layouts) (own (codes ">"))
