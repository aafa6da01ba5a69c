-- What a memo keeps of a position.
use Rattle.std.specs.Prelude.{◌≡◌, ℕ, Bool, true, false, List, Option, IfSome}
use Rattle.win_vectors.specs.Fronts.{Vector}
use Rattle.trick_rules.specs.Positions.{PositionValue}
use Rattle.strategy_tree.specs.Bridge.{bridge}
use Rattle.winnable_sets.specs.Sets.{IsWonThroughout}
use Rattle.set_nodes.specs.SetNodes.{node_at, AreLayoutsAt}
use Rattle.set_memo.specs.declared.verdict.Verdict.{Verdict}
use Rattle.set_memo.specs.Known.{IsVerdictAt}

-- a set of layouts at a position, a number of moves, and whether one strategy wins them all
pub record KeptSetValue : Type 0 where
  pub position : PositionValue
  pub moves : ℕ
  pub set : Vector
  pub won : Bool

-- it is true of the layouts with these numbers
pub record IsTrueOf (layouts : List (List ℕ)) (kept : KeptSetValue) : Type 0 where
  pub layouts_at : AreLayoutsAt layouts kept.position kept.set
  pub won : kept.won ≡ true → IsWonThroughout bridge (node_at layouts kept.position kept.set) kept.moves
  pub lost : kept.won ≡ false → IsWonThroughout bridge (node_at layouts kept.position kept.set) kept.moves → ⊥

-- what is in a slot, if there is anything, is true of the layouts
abbrev pub IsTrueSlot : List (List ℕ) → Option KeptSetValue → Type 0
IsTrueSlot layouts slot = IfSome slot (IsTrueOf layouts)

-- the verdict on a set that follows from what is kept, whichever layouts it is true of
abbrev pub Follows : KeptSetValue → Vector → Verdict → Type 0
Follows kept set verdict = (layouts : List (List ℕ)) → IsTrueOf layouts kept
    → AreLayoutsAt layouts kept.position set → IsVerdictAt layouts kept.position kept.moves set verdict

-- it is true of all layouts of which the verdict on the set at the position is
abbrev pub IsToldBy : PositionValue → ℕ → Vector → Verdict → KeptSetValue → Type 0
IsToldBy t moves set verdict kept = (layouts : List (List ℕ)) → AreLayoutsAt layouts t set
    → IsVerdictAt layouts t moves set verdict → IsTrueOf layouts kept
