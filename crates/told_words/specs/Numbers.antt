-- The layouts behind a step, by their numbers.
use Rattle.std.specs.Prelude.{ℕ, zero, suc, ◌+◌, ◌-◌, ◌&&◌, not, Bool, false, List, [], ◌∷◌, ◌++◌, take, length, codes, if◌then◌else◌}
use Rattle.std.specs.List.{list_any}
use Rattle.std.specs.Fmt.{decimal}
use Rattle.win_vectors.specs.Fronts.{Vector}

-- the bit at a place, which is counted from 0
abbrev pub has_place : Vector → ℕ → Bool
has_place [] place = false
has_place (bit ∷ bits) zero = bit
has_place (bit ∷ bits) (suc place) = has_place bits place

-- whether the layout of this number, from 1, is one of these
abbrev pub has_layout : Vector → ℕ → Bool
has_layout bits number = has_place (false ∷ bits) number

-- whether there is one
abbrev pub has_one : Vector → Bool
has_one bits = list_any (λ bit. bit) bits

-- What is written of a number, if a lower one is written before it or not. Of three or more in a row the first and the last
-- are written, as "8 to 10"
abbrev pub number_text : Vector → Bool → ℕ → List ℕ
number_text bits begun number =
    if not (has_layout bits number) then []
    else if has_layout bits (number - 1) && has_layout bits (number + 1) then []
    else if has_layout bits (number - 1) && has_layout bits (number - 2) then codes " to " ++ decimal number
    else (if begun then codes ", " else []) ++ decimal number

-- what is written of the numbers up to this one
abbrev pub numbers_upto : Vector → ℕ → List ℕ
numbers_upto bits zero = []
numbers_upto bits (suc number) = numbers_upto bits number ++ number_text bits (has_one (take number bits)) (suc number)

-- the numbers of these layouts, as "1, 3, 8 to 10"
abbrev pub layouts_text : Vector → List ℕ
layouts_text bits = numbers_upto bits (length bits)

-- the words and the numbers, if there is one
abbrev pub some_text : List ℕ → Vector → List ℕ
some_text words bits = if has_one bits then words ++ layouts_text bits else []

abbrev pub between : Vector → Vector → List ℕ
between won lost = if has_one won && has_one lost then codes "; " else []

-- in which layouts the contract is made, and in which it fails, as " (made in 1, 3; fails in 2)"
abbrev pub outcome_text : Vector → Vector → List ℕ
outcome_text won lost = codes " (" ++ some_text (codes "made in ") won ++ between won lost ++ some_text (codes "fails in ") lost ++ codes ")"

-- which layouts are given up, as ", giving up 8 to 10"
abbrev pub given_up_text : Vector → List ℕ
given_up_text given_up = some_text (codes ", giving up ") given_up
