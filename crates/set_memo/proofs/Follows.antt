-- What follows from a set that is kept, for the sets in it and round it.
use Rattle.std.proofs.Common.{◌≡◌, ℕ, true, false, sym, true≢false}
use Rattle.win_vectors.specs.Fronts.{Vector, Dominates}
use Rattle.set_nodes.specs.SetNodes.{node_at}
use Rattle.set_nodes.proofs.Numbers.{is_part}
use Rattle.set_nodes.proofs.Won.{won_in_part}
use Rattle.trick_rules.specs.Positions.{PositionValue}
use Rattle.set_memo.specs.declared.verdict.Verdict.TheVariants.{Won, Core}
use Rattle.set_memo.specs.Kept.{KeptSetValue, Follows, IsToldBy}

pub follows_won : (kept : KeptSetValue) (set : Vector) → kept.won ≡ true → Dominates kept.set set → Follows kept set Won
follows_won kept set won d = λ layouts known are.
    won_in_part (node_at layouts kept.position set) (node_at layouts kept.position kept.set) kept.moves are.node known.layouts_at.node
    (is_part layouts kept.position kept.set set d) (known.won won)

pub follows_lost : (kept : KeptSetValue) (set : Vector) → kept.won ≡ false → Dominates set kept.set → Follows kept set (Core kept.set)
follows_lost kept set lost d = λ layouts known are. (d, record { some = known.layouts_at; lost = known.lost lost })

pub told_won : (t : PositionValue) (moves : ℕ) (set : Vector) → IsToldBy t moves set Won (record { position = t; moves = moves; set = set; won = true })
told_won t moves set = λ layouts are won. record { layouts_at = are; won = λ _. won; lost = λ no. absurd (true≢false no) }

pub told_core : (t : PositionValue) (moves : ℕ) (set core : Vector) → IsToldBy t moves set (Core core) (record { position = t; moves = moves; set = core; won = false })
told_core t moves set core = λ layouts are lost. record { layouts_at = lost.1.some; won = λ no. absurd (true≢false (sym no)); lost = λ _. lost.1.lost }
