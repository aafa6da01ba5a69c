-- What is known of the front of a node before its children are searched.
use Rattle.std.specs.Prelude.{◌≡◌, ◌≢◌, ◌↔◌, ◌<◌, ◌≤◌, ◌++◌, ⊤, ℕ, true, false, Option, None, Some, List, length, map, Contains, slice_index_or}
use Rattle.win_vectors.specs.Vectors.{ones_of}
use Rattle.win_vectors.specs.Fronts.{Vector, CoversAll, IsReduced}
use Rattle.trick_rules.specs.Play.{makes}
use Rattle.trick_rules.specs.Nodes.{NodeValue, states}
use Rattle.pareto_fronts.specs.FrontValue.{FrontValue}
use Rattle.front_table.specs.Proven.{IsFrontAt}
use Rattle.cut_rules.specs.declared.CutRules.{CutRules}
use Rattle.cut_rules.specs.Rules.{no_cuts}
use Rattle.alphamu_core.specs.declared.answers.Found.{Found}
use Rattle.alphamu_core.specs.declared.answers.Found.TheVariants.{Exact, Below}
use Rattle.alphamu_core.specs.declared.limits.Limit.{Limit}
use Rattle.alphamu_core.specs.declared.limits.Limit.TheVariants.{Settled, Upper, Open}
use Rattle.alphamu_core.specs.Findings.{IsAnswer}

-- the front of the node with fewer moves
pub record IsUpperBound (n : NodeValue) (moves : ℕ) (upper : FrontValue) : Type 0 where
  pub fewer : ℕ
  pub below : fewer < moves
  pub front : IsFrontAt n fewer upper

-- the layouts that double dummy makes, one at least, and an upper bound
pub record IsMade (n : NodeValue) (moves : ℕ) (made : Vector) (upper : FrontValue) : Type 0 where
  pub results : made ≡ map makes (states n)
  pub some : 1 ≤ ones_of made
  pub bound : IsUpperBound n moves upper

-- the answer itself; or else, if the rules make a cut, what is made
abbrev pub IsLimit : NodeValue → ℕ → List Vector → CutRules → Limit → Type 0
IsLimit n moves alpha rules (Settled found) = IsAnswer n moves alpha rules found
IsLimit n moves alpha rules (Upper made upper) = IsMade n moves made upper × (rules ≢ no_cuts)
IsLimit n moves alpha rules Open = ⊤

-- nothing is known
abbrev pub IsUnknown : Limit → Type 0
IsUnknown (Settled found) = ⊥
IsUnknown (Upper made upper) = ⊥
IsUnknown Open = ⊤

-- the vector has 1 where some vector of the list has 1
pub record IsUnionOf (width : ℕ) (vectors : List Vector) (union : Vector) : Type 0 where
  pub length : length union ≡ width
  pub ones : (i : ℕ) → (slice_index_or union i false ≡ true) ↔ ((v : Vector) × Contains vectors v × (slice_index_or v i false ≡ true))

-- the best of the vectors so far and of those that were found, if any were
abbrev pub IsUnited : Found → List Vector → List Vector → Type 0
IsUnited (Exact won) old new = IsReduced (old ++ won.vectors) new
IsUnited Below old new = new ≡ old

-- the front covers the upper bound, if there is one
abbrev pub IsReached : Option FrontValue → List Vector → Type 0
IsReached None front = ⊥
IsReached (Some upper) front = CoversAll front upper.vectors
