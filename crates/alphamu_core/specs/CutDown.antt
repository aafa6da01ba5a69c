-- A node cut down to the layouts that double dummy makes, and how an answer for it answers for the node.
use Rattle.std.specs.Prelude.{◌≡◌, ◌≤◌, ⊤, ℕ, true, false, IfSome, List, length, map, All}
use Rattle.win_vectors.specs.Vectors.{ones_of}
use Rattle.win_vectors.specs.Fronts.{Vector, IsReduced}
use Rattle.trick_rules.specs.Play.{makes}
use Rattle.trick_rules.specs.Nodes.{NodeValue, states}
use Rattle.strategy_games.specs.Plans.{stops, tree_size}
use Rattle.strategy_tree.specs.Bridge.{bridge}
use Rattle.cut_rules.specs.declared.CutRules.{CutRules}
use Rattle.alphamu_core.specs.declared.answers.Found.{Found}
use Rattle.alphamu_core.specs.declared.answers.Found.TheVariants.{Exact, Below}
use Rattle.alphamu_core.specs.declared.part.Part.{Part}
use Rattle.alphamu_core.specs.Findings.{IsAnswer, IsExactOfWidth}
use Rattle.alphamu_core.specs.Limits.{IsUpperBound}
use Rattle.alphamu_core.specs.Parts.{filled_of}

-- the second answer is the first with 0 at the layouts that are left out
abbrev pub IsFilled : Vector → Found → Found → Type 0
IsFilled made (Exact part) (Exact whole) = (whole.width ≡ length made) × IsReduced (map (λ v. filled_of v made) part.vectors) whole.vectors
IsFilled made (Exact part) Below = ⊥
IsFilled made Below (Exact whole) = ⊥
IsFilled made Below Below = ⊤

-- each layout of the part is made, it goes on as the node does, and its answer, filled, is one for the node
pub record IsCutDown (n : NodeValue) (moves : ℕ) (alpha : List Vector) (made : Vector) (part : Part) : Type 0 where
  pub position : part.node.position ≡ n.position
  pub each : All (λ s. makes s ≡ true) (states part.node)
  pub width : part.alpha.width ≡ length part.node.lefts
  pub goes_on : stops bridge part.node moves ≡ false
  pub upper : IfSome part.upper (IsUpperBound part.node moves)
  pub size : tree_size bridge part.node moves ≤ tree_size bridge n moves
  pub exact : (rules : CutRules) (found : Found) → IsAnswer part.node moves part.alpha.vectors rules found → IsExactOfWidth (ones_of made) found
  pub answer : (rules : CutRules) (found whole : Found) → IsAnswer part.node moves part.alpha.vectors rules found → IsFilled made found whole → IsAnswer n moves alpha rules whole
