-- The cards judged by double dummy in each layout, and the card that is named.
use Rattle.std.specs.Prelude.{ℕ, ◌==◌, Option, None, Some, List, [], ◌∷◌, ◌++◌, max, find, flat_map, codes}
use Rattle.card_letters.specs.Letters.{letters_of}
use Rattle.win_vectors.specs.Weights.{weight_of}
use Rattle.fusion_base.specs.declared.table.CardVector.{CardVector}
use Rattle.byte_text.specs.Lines.{line_of}
use Rattle.am_report.specs.Versions.{version_of, version_number}
use Rattle.am_report.specs.Solve.{vector_line}

-- a card, its vector, and how many ones the vector has, or their weight
unfoldable pub judged_line : List ℕ → CardVector → List ℕ
judged_line weights entry = codes "card " ++ letters_of entry.card ++ codes " " ++ vector_line weights entry.vector

-- the greatest weight of a card's vector
abbrev pub greatest_of : List ℕ → List CardVector → ℕ
greatest_of weights [] = 0
greatest_of weights (entry ∷ table) = max (weight_of weights entry.vector) (greatest_of weights table)

-- the first entry of the greatest weight
abbrev pub first_best : List ℕ → List CardVector → Option CardVector
first_best weights table = find (λ entry. weight_of weights entry.vector == greatest_of weights table) table

-- the card of that entry
abbrev pub named_line : Option CardVector → List ℕ
named_line None = []
named_line (Some entry) = line_of (codes "named " ++ letters_of entry.card)

-- a line for each card, and the first card of the greatest weight; no such card if the table is empty
unfoldable pub fusion_text : List CardVector → List ℕ → List ℕ
fusion_text table weights =
    line_of (codes "alphamu fusion " ++ version_number (version_of weights))
    ++ flat_map (judged_line weights) table ++ named_line (first_best weights table)
