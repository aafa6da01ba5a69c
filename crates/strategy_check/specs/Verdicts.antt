-- What each verdict on a plan says.
use Rattle.std.specs.Prelude.{◌≡◌, ◌==◌, ℕ, ◌-◌, ◌≤◌, Bool, not, Some, take, slice_get}
use Rattle.win_vectors.specs.Fronts.{Vector}
use Rattle.trick_rules.specs.Nodes.{NodeValue}
use Rattle.strategy_games.specs.Plans.{Plan, Fits, wins_vector}
use Rattle.strategy_games.specs.Misfits.{first_misfit}
use Rattle.strategy_tree.specs.Bridge.{bridge}
use Rattle.strategy_check.specs.declared.verdict.Verdict.{Verdict}
use Rattle.strategy_check.specs.declared.verdict.Verdict.TheVariants.{Good, NotAStrategy, OtherVector}

-- the first layout, counted from 1, at which the vectors differ, and the first vector's bit there
pub record IsFirstDifference (own given : Vector) (layout : ℕ) (bit : Bool) : Type 0 where
  pub counted : 1 ≤ layout
  pub same_before : take (layout - 1) own ≡ take (layout - 1) given
  pub own_bit : slice_get own (layout - 1) ≡ Some bit
  pub given_bit : slice_get given (layout - 1) ≡ Some (not bit)

-- Good: the plan is a strategy that wins the vector. NotAStrategy: its first node that doesn't fit.
-- OtherVector: it is a strategy, and what it wins differs first in this layout, where its own bit is this one
abbrev pub IsVerdict : NodeValue → ℕ → Plan ℕ → Vector → Verdict → Type 0
IsVerdict node moves plan vector Good = Fits bridge plan node moves × (wins_vector bridge plan node ≡ vector)
IsVerdict node moves plan vector (NotAStrategy number) = first_misfit bridge ◌==◌ plan node moves ≡ Some number
IsVerdict node moves plan vector (OtherVector layout bit) = Fits bridge plan node moves × IsFirstDifference (wins_vector bridge plan node) vector layout bit
