-- The layouts that can reach each line of a told plan in words.
use Rattle.std.specs.Prelude.{ℕ, not, Bool, true, List, [], ◌∷◌, ◌++◌, if◌then◌else◌}
use Rattle.win_vectors.specs.Fronts.{Vector}
use Rattle.told_plans.specs.Told.{Told, Branches, and_card, ToldStop, ToldPlay, ToldHear, NoBranch, Branch}
use Rattle.told_words.specs.Words.{is_one}

-- the layouts that can reach each step, by the sets of cards after which it comes
abbrev pub Reached : Type 0
Reached = List (List ℕ) → Vector

-- those of the step after these sets, if it begins a line
abbrev pub begun_line : Reached → Bool → List (List ℕ) → List Vector
begun_line reached begins sets = if begins then reached sets ∷ [] else []

abbrev mutual
  -- those of each line below a step
  pub lines_below : Reached → Told → List (List ℕ) → List Vector
  lines_below reached ToldStop sets = []
  lines_below reached (ToldPlay card rest) sets = lines_below reached rest (sets ++ and_card [] card ∷ [])
  lines_below reached (ToldHear branches) sets = lines_of reached (not (is_one branches)) branches sets

  -- of several branches each begins a line
  pub lines_of : Reached → Bool → Branches → List (List ℕ) → List Vector
  lines_of reached begins NoBranch sets = []
  lines_of reached begins (Branch cards told later) sets =
      begun_line reached begins (sets ++ cards ∷ []) ++ lines_below reached told (sets ++ cards ∷ []) ++ lines_of reached begins later sets

-- those of each line of a told plan, the first of which begins with "Now"
abbrev pub lines_reached : Reached → Told → List Vector
lines_reached reached told = begun_line reached true [] ++ lines_below reached told []
