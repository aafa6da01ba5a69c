-- A log has one verdict only.
use Rattle.std.proofs.Common.{◌≡◌, ◌⊎◌, ◌+◌, ◌<◌, ◌∙◌, ℕ, List, refl, sym, ap, subst, ⊎_elim, arith}
use Rattle.std.proofs.lemmas.Bool.{cases_order}
use Rattle.win_vectors.specs.Fronts.{Vector}
use Rattle.trick_rules.specs.Nodes.{NodeValue}
use Rattle.log_check.specs.declared.lines.LogLine.{LogLine}
use Rattle.log_check.specs.declared.check.LogVerdict.{LogVerdict}
use Rattle.log_check.specs.declared.check.LogVerdict.TheVariants.{Yes, No}
use Rattle.log_check.specs.Logs.{IsSoundLine, IsValidLog}
use Rattle.log_check.specs.LogVerdicts.{IsFirstUnsound, IsUnended, IsLogVerdict}
use Rattle.log_check.proofs.Judged.{take-less, slice_get-of_take}

module _ (n : NodeValue) (moves : ℕ) (vectors : List Vector) (lines : List LogLine) where
  -- nothing is refused of a valid log
  not_refused : (number : ℕ) → IsValidLog n moves vectors lines
      → IsFirstUnsound n moves lines number ⊎ IsUnended n moves vectors lines number → ⊥
  not_refused number valid refused = ⊎_elim
      (λ (f : IsFirstUnsound n moves lines number). f.unsound (valid.sound f.place f.line f.is))
      (λ (u : IsUnended n moves vectors lines number). u.unended valid.ends) refused

  -- no line before the first that isn't sound isn't sound
  not_before : (one other : ℕ) (f : IsFirstUnsound n moves lines one) (g : IsFirstUnsound n moves lines other) → f.place < g.place → ⊥
  not_before one other f g before = f.unsound
      (subst (λ (earlier : List LogLine). IsSoundLine n moves earlier f.line) (take-less lines f.place g.place (omega arith))
      (g.before f.place f.line (slice_get-of_take lines g.place f.place f.line before f.is)))

  same_number : (one other : ℕ) → IsFirstUnsound n moves lines one ⊎ IsUnended n moves vectors lines one
      → IsFirstUnsound n moves lines other ⊎ IsUnended n moves vectors lines other → one ≡ other
  same_number one other a b = ⊎_elim
      (λ (f : IsFirstUnsound n moves lines one). ⊎_elim
      (λ (g : IsFirstUnsound n moves lines other). ⊎_elim
      (λ (same : f.place ≡ g.place). f.counted ∙ ap (λ k. k + 1) same ∙ sym g.counted)
      (λ (apart : (f.place < g.place) ⊎ (g.place < f.place)). ⊎_elim
      (λ (before : f.place < g.place). absurd (not_before one other f g before))
      (λ (after : g.place < f.place). absurd (not_before other one g f after)) apart)
      (cases_order f.place g.place))
      (λ (u : IsUnended n moves vectors lines other). absurd (f.unsound (u.sound f.place f.line f.is))) b)
      (λ (u : IsUnended n moves vectors lines one). ⊎_elim
      (λ (g : IsFirstUnsound n moves lines other). absurd (g.unsound (u.sound g.place g.line g.is)))
      (λ (w : IsUnended n moves vectors lines other). u.counted ∙ sym w.counted) b) a

  pub one_log_verdict : (one other : LogVerdict) → IsLogVerdict n moves vectors lines one → IsLogVerdict n moves vectors lines other → one ≡ other
  one_log_verdict Yes Yes a b = refl
  one_log_verdict Yes (No other) a b = absurd (not_refused other a b)
  one_log_verdict (No one) Yes a b = absurd (not_refused one b a)
  one_log_verdict (No one) (No other) a b = ap (λ k. No k) (same_number one other a b)
