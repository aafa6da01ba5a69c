-- Vectors of bits: how many ones, meet, dominance, order, and the parts that a mask picks.
use Rattle.std.specs.Prelude.{ℕ, Bool, true, false, not, ◌&&◌, ◌||◌, List, [], ◌∷◌, ◌+◌, nat_lt, if◌then◌else◌}
use Rattle.std.specs.declared.cmp.Ordering.{Ordering}
use Rattle.std.specs.declared.cmp.Ordering.TheVariants.{Less, Equal, Greater}

-- the most layouts of a vector
abbrev pub most_layouts : ℕ
most_layouts = 256

-- the most layouts of a vector in one word
abbrev pub most_narrow : ℕ
most_narrow = 64

-- how many ones
abbrev pub ones_of : List Bool → ℕ
ones_of [] = 0
ones_of (b ∷ bs) = (if b then 1 else 0) + ones_of bs

-- 1 where both have 1
abbrev pub meet_of : List Bool → List Bool → List Bool
meet_of [] vs = []
meet_of (u ∷ us) [] = []
meet_of (u ∷ us) (v ∷ vs) = (u && v) ∷ meet_of us vs

-- 1 where either has 1
abbrev pub either_of : List Bool → List Bool → List Bool
either_of [] vs = []
either_of (u ∷ us) [] = []
either_of (u ∷ us) (v ∷ vs) = (u || v) ∷ either_of us vs

-- whether the two have equal length, and the first has 1 wherever the second has 1
abbrev pub dominates : List Bool → List Bool → Bool
dominates [] [] = true
dominates [] (v ∷ vs) = false
dominates (u ∷ us) [] = false
dominates (u ∷ us) (v ∷ vs) = (u || not v) && dominates us vs

-- where two differ first, the one with a 1 comes first; of two lengths, which no front holds, the longer
abbrev pub earlier_one : List Bool → List Bool → Ordering
earlier_one [] [] = Equal
earlier_one [] (v ∷ vs) = Greater
earlier_one (u ∷ us) [] = Less
earlier_one (true ∷ us) (false ∷ vs) = Less
earlier_one (false ∷ us) (true ∷ vs) = Greater
earlier_one (true ∷ us) (true ∷ vs) = earlier_one us vs
earlier_one (false ∷ us) (false ∷ vs) = earlier_one us vs

-- more ones come first; among equal counts, the first 1 at the first difference
abbrev pub vector_order : List Bool → List Bool → Ordering
vector_order u v = if nat_lt (ones_of v) (ones_of u) then Less else if nat_lt (ones_of u) (ones_of v) then Greater else earlier_one u v

-- the bits at the ones of the mask, in order
abbrev pub restrict_of : List Bool → List Bool → List Bool
restrict_of [] ms = []
restrict_of (v ∷ vs) [] = []
restrict_of (v ∷ vs) (true ∷ ms) = v ∷ restrict_of vs ms
restrict_of (v ∷ vs) (false ∷ ms) = restrict_of vs ms

-- the bits put at the ones of the mask, in order, and 1 at its zeros
abbrev pub spread_of : List Bool → List Bool → List Bool
spread_of vs [] = []
spread_of vs (false ∷ ms) = true ∷ spread_of vs ms
spread_of [] (true ∷ ms) = []
spread_of (v ∷ vs) (true ∷ ms) = v ∷ spread_of vs ms
