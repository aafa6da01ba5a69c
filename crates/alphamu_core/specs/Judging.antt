-- Layouts of a node that are judged by double dummy, some after others.
use Rattle.std.specs.Prelude.{◌≡◌, ◌<◌, ℕ, Bool, true, false, ⊤, All, map, slice_index_or}
use Rattle.win_vectors.specs.Fronts.{Vector, Dominates}
use Rattle.trick_rules.specs.Play.{makes}
use Rattle.trick_rules.specs.Nodes.{NodeValue, states}
use Rattle.alphamu_core.specs.declared.known.Known.{Known}
use Rattle.alphamu_core.specs.declared.known.Known.TheVariants.{Nothing, AllMade}

-- double dummy's result in the layout at a place
abbrev pub makes_at : NodeValue → ℕ → Bool
makes_at n place = slice_index_or (map makes (states n)) place false

-- of a vector's ones, those are taken out that the results don't have, at the places below a number where the mask has this bit
pub record IsJudged (results mask : Vector) (bit : Bool) (start : Vector) (places : ℕ) (made : Vector) : Type 0 where
  pub above : Dominates made results
  pub fewer : (i : ℕ) → slice_index_or made i false ≡ true → slice_index_or start i false ≡ true
  pub right : (i : ℕ) → i < places → slice_index_or mask i false ≡ bit
      → slice_index_or made i false ≡ true → slice_index_or results i false ≡ true

-- if each layout is known to be made, each is made
abbrev pub IsKnown : NodeValue → Known → Type 0
IsKnown n Nothing = ⊤
IsKnown n AllMade = All (λ s. makes s ≡ true) (states n)
