-- A search of a node by its layouts that are made.
use Rattle.std.proofs.Common.{◌≡◌, ◌∙◌, ◌≤◌, ℕ, List, length, map}
use Rattle.win_vectors.specs.Vectors.{ones_of, restrict_of}
use Rattle.win_vectors.specs.Fronts.{Vector, HaveWidth, IsReduced}
use Rattle.pareto_fronts.specs.FrontValue.{FrontValue}
use Rattle.trick_rules.specs.Play.{makes}
use Rattle.trick_rules.specs.Nodes.{NodeValue, IsNode, states}
use Rattle.cut_rules.specs.declared.CutRules.{CutRules}
use Rattle.alphamu_core.specs.declared.answers.Found.{Found}
use Rattle.alphamu_core.specs.declared.answers.Found.TheVariants.{Exact, Below}
use Rattle.alphamu_core.specs.Findings.{IsAnswer, IsExactOfWidth}
use Rattle.alphamu_core.specs.CutDown.{IsFilled}
use Rattle.alphamu_core.specs.Parts.{part_of}
use Rattle.alphamu_core.proofs.MadeLayouts.{part_width, filled_front, below_whole}

module _ (n : NodeValue) (sound : IsNode n) (made : Vector) (results : made ≡ map (λ s. makes s) (states n)) (some : 1 ≤ ones_of made) (moves : ℕ) {part : NodeValue} (is_cut : part ≡ part_of n made) where
  pub exact_width : (less : List Vector) (rules : CutRules) (found : Found) → IsAnswer part moves less rules found → IsExactOfWidth (ones_of made) found
  exact_width less rules (Exact front) answer = answer.width ∙ part_width n sound made results some moves is_cut
  exact_width less rules Below answer = tt

  pub filled_answer : (alpha less : FrontValue) → HaveWidth alpha.width alpha.vectors → alpha.width ≡ length made → IsReduced (map (λ v. restrict_of v made) alpha.vectors) less.vectors
      → (rules : CutRules) (found whole : Found) → IsAnswer part moves less.vectors rules found → IsFilled made found whole → IsAnswer n moves alpha.vectors rules whole
  filled_answer alpha less wide width reduced rules (Exact front) (Exact whole) answer filled = filled_front n sound made results some moves is_cut front whole answer filled.0 filled.1
  filled_answer alpha less wide width reduced rules (Exact front) Below answer filled = absurd filled
  filled_answer alpha less wide width reduced rules Below (Exact whole) answer filled = absurd filled
  filled_answer alpha less wide width reduced rules Below Below answer filled = (below_whole n sound made results some moves is_cut alpha less wide width reduced answer.0, answer.1)
