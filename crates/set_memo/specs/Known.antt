-- What is known of a set of layouts at a position, by their numbers at the root of a search.
use Rattle.std.specs.Prelude.{ℕ, List}
use Rattle.win_vectors.specs.Fronts.{Vector, Dominates}
use Rattle.trick_rules.specs.Positions.{PositionValue}
use Rattle.strategy_tree.specs.Bridge.{bridge}
use Rattle.winnable_sets.specs.Sets.{IsWonThroughout}
use Rattle.set_nodes.specs.SetNodes.{node_at, AreLayoutsAt}
use Rattle.set_memo.specs.declared.verdict.Verdict.{Verdict}
use Rattle.set_memo.specs.declared.verdict.Verdict.TheVariants.{Won, Core}

-- some of the layouts, which no strategy wins together
pub record IsLostAt (layouts : List (List ℕ)) (t : PositionValue) (moves : ℕ) (core : Vector) : Type 0 where
  pub some : AreLayoutsAt layouts t core
  pub lost : IsWonThroughout bridge (node_at layouts t core) moves → ⊥

-- the verdict on the layouts of a set at a position
abbrev pub IsVerdictAt : List (List ℕ) → PositionValue → ℕ → Vector → Verdict → Type 0
IsVerdictAt layouts t moves set Won = IsWonThroughout bridge (node_at layouts t set) moves
IsVerdictAt layouts t moves set (Core core) = Dominates set core × IsLostAt layouts t moves core
