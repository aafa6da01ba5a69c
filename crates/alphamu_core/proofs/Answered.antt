-- What an answer by some rules says to who doesn't ask for the rules.
use Rattle.std.proofs.Common.{◌≡◌, ◌⊎◌, ℕ, [], List, Result, Ok, Err, IfOk, subst, inl, inr}
use Rattle.win_vectors.specs.Fronts.{Vector}
use Rattle.trick_rules.specs.Nodes.{NodeValue, IsNode}
use Rattle.strategy_games.specs.Plans.{IsBelow}
use Rattle.strategy_tree.specs.Bridge.{bridge}
use Rattle.strategy_tree.proofs.BridgeLaws.{cuts}
use Rattle.cut_rules.specs.declared.CutRules.{CutRules}
use Rattle.cut_rules.specs.Rules.{no_cuts}
use Rattle.alphamu_core.specs.declared.answers.Found.{Found}
use Rattle.alphamu_core.specs.declared.answers.Found.TheVariants.{Exact, Below}
use Rattle.alphamu_core.specs.declared.answers.RaceFault.{RaceFault}
use Rattle.alphamu_core.specs.Findings.{IsFound, IsExact, IsAnswer}

module _ (n : NodeValue) (moves : ℕ) (alpha : List Vector) (rules : CutRules) where
  found_by : (found : Found) → IsAnswer n moves alpha rules found → IsFound n moves alpha found
  found_by (Exact front) answer = answer
  found_by Below answer = answer.0

  pub answer_found : (result : Result Found RaceFault) → IfOk result (IsAnswer n moves alpha rules) → IfOk result (IsFound n moves alpha)
  answer_found (Ok found) answer = found_by found answer
  answer_found (Err fault) answer = tt

  exact_by : IsNode n → (alpha ≡ []) ⊎ (rules ≡ no_cuts) → (found : Found) → IsAnswer n moves alpha rules found → IsExact found
  exact_by sound (inl empty) (Exact front) answer = tt
  exact_by sound (inr none) (Exact front) answer = tt
  exact_by sound (inl empty) Below answer = cuts.never n moves sound (subst (λ alpha. IsBelow bridge n moves alpha) empty answer.0)
  exact_by sound (inr none) Below answer = answer.1 none

  pub answer_exact : IsNode n → (result : Result Found RaceFault) → (alpha ≡ []) ⊎ (rules ≡ no_cuts) → IfOk result (IsAnswer n moves alpha rules) → IfOk result IsExact
  answer_exact sound (Ok found) no_cut answer = exact_by sound no_cut found answer
  answer_exact sound (Err fault) no_cut answer = tt
