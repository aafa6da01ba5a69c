-- What a search says of a set of layouts.
use Rattle.std.specs.Prelude.{ℕ}
use Rattle.win_vectors.specs.Fronts.{Vector, Dominates}
use Rattle.trick_rules.specs.Nodes.{NodeValue}
use Rattle.strategy_tree.specs.Bridge.{bridge}
use Rattle.winnable_sets.specs.Sets.{IsWinnable, IsCore}
use Rattle.set_memo.specs.declared.verdict.Verdict.{Verdict}
use Rattle.set_memo.specs.declared.verdict.Verdict.TheVariants.{Won, Core}

-- one strategy with these moves wins each layout of the set; or these layouts, some of the set, are a core
abbrev pub IsSetVerdict : NodeValue → ℕ → Vector → Verdict → Type 0
IsSetVerdict n moves set Won = IsWinnable bridge n moves set
IsSetVerdict n moves set (Core core) = Dominates set core × IsCore bridge n moves core
