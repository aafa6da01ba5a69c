-- A node where strategies go on, at declarer's side or at a defender: what its children's lines and sizes make.
use Rattle.std.proofs.Common.{◌≡◌, ◌+◌, ◌-◌, ◌∙◌, ℕ, true, false, List, [], ◌∷◌, ◌++◌, sum_by, sym, subst, inl, inr}
use Rattle.std.proofs.lemmas.Bool.{cases_Bool}
use Rattle.win_vectors.specs.Fronts.{Vector}
use Rattle.trick_rules.specs.Positions.{to_play}
use Rattle.trick_rules.specs.Play.{is_declarers}
use Rattle.trick_rules.specs.Nodes.{NodeValue, IsNode, stops, choices}
use Rattle.strategy_games.specs.Plans.{IsFront, tree_size}
use Rattle.strategy_tree.specs.Bridge.{bridge}
use Rattle.strategy_tree.proofs.BridgeNodes.{stops-bridge}
use Rattle.alphamu_core.proofs.OpenNodes.{size_ours, size_theirs}
use Rattle.alphamu_core.proofs.Paid.{size_after}
use Rattle.log_check.specs.declared.lines.Rule.{Rule}
use Rattle.log_check.specs.declared.lines.Rule.TheVariants.{Union, Join}
use Rattle.log_check.specs.declared.lines.LogLine.{LogLine}
use Rattle.log_check.specs.LogsFor.{line_of, IsLogFrom, AreLogsFrom}
use Rattle.log_check.specs.LogsFor.IsLogFrom.{at_declarer, at_defender}

module _ (n : NodeValue) (moves left : ℕ) (off : stops n moves ≡ false) (less : is_declarers (to_play n.position) ≡ true → left ≡ moves - 1) (same : is_declarers (to_play n.position) ≡ false → left ≡ moves) where
  pub size_inner : IsNode n → tree_size bridge n moves ≡ 1 + sum_by (size_after n left) (choices n)
  size_inner sound =
      let on = stops-bridge n moves ∙ off in
      elim (cases_Bool (is_declarers (to_play n.position))) as (λ _. tree_size bridge n moves ≡ 1 + sum_by (size_after n left) (choices n)) [
        | inl o ↦ subst (λ m. tree_size bridge n moves ≡ 1 + sum_by (size_after n m) (choices n)) (sym (less o)) (size_ours n moves sound on o)
        | inr t ↦ subst (λ m. tree_size bridge n moves ≡ 1 + sum_by (size_after n m) (choices n)) (sym (same t)) (size_theirs n moves sound on t)
      ]

  pub lines_inner : (path : List ℕ) (earlier : ℕ) (numbers : List ℕ) (rule : Rule) (lines : List LogLine) (front : List Vector)
      → (is_declarers (to_play n.position) ≡ true → rule ≡ Union) → (is_declarers (to_play n.position) ≡ false → rule ≡ Join)
      → IsFront bridge n moves front → AreLogsFrom n left path earlier (choices n) numbers lines
      → IsLogFrom n moves path earlier (lines ++ line_of rule path moves numbers front ∷ [])
  lines_inner path earlier numbers rule lines front union join front_is are =
      elim (cases_Bool (is_declarers (to_play n.position))) as (λ _. IsLogFrom n moves path earlier (lines ++ line_of rule path moves numbers front ∷ [])) [
        | inl o ↦
            subst (λ r. IsLogFrom n moves path earlier (lines ++ line_of r path moves numbers front ∷ [])) (sym (union o))
            (at_declarer n moves path earlier numbers lines front off o front_is (subst (λ m. AreLogsFrom n m path earlier (choices n) numbers lines) (less o) are))
        | inr t ↦
            subst (λ r. IsLogFrom n moves path earlier (lines ++ line_of r path moves numbers front ∷ [])) (sym (join t))
            (at_defender n moves path earlier numbers lines front off t front_is (subst (λ m. AreLogsFrom n m path earlier (choices n) numbers lines) (same t) are))
      ]
