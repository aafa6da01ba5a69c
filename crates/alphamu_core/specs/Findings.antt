-- What a search finds.
use Rattle.std.specs.Prelude.{◌≡◌, ◌≢◌, ⊤, ℕ, List}
use Rattle.win_vectors.specs.Fronts.{Vector}
use Rattle.trick_rules.specs.Nodes.{NodeValue}
use Rattle.strategy_games.specs.Plans.{IsBelow}
use Rattle.strategy_tree.specs.Bridge.{bridge}
use Rattle.front_table.specs.Proven.{IsFrontAt}
use Rattle.cut_rules.specs.declared.CutRules.{CutRules}
use Rattle.cut_rules.specs.Rules.{no_cuts}
use Rattle.alphamu_core.specs.declared.answers.Found.{Found}
use Rattle.alphamu_core.specs.declared.answers.Found.TheVariants.{Exact, Below}

-- an exact answer is the front of the node with these moves; an answer below says that alpha dominates what every strategy wins
abbrev pub IsFound : NodeValue → ℕ → List Vector → Found → Type 0
IsFound n moves alpha (Exact front) = IsFrontAt n moves front
IsFound n moves alpha Below = IsBelow bridge n moves alpha

-- the answer is a front
abbrev pub IsExact : Found → Type 0
IsExact (Exact front) = ⊤
IsExact Below = ⊥

-- an answer by these rules, of which an answer below needs a cut
abbrev pub IsAnswer : NodeValue → ℕ → List Vector → CutRules → Found → Type 0
IsAnswer n moves alpha rules (Exact front) = IsFrontAt n moves front
IsAnswer n moves alpha rules Below = IsBelow bridge n moves alpha × (rules ≢ no_cuts)

-- if the answer is a front, it is the front of the node
abbrev pub IsFrontIfExact : NodeValue → ℕ → Found → Type 0
IsFrontIfExact n moves (Exact front) = IsFrontAt n moves front
IsFrontIfExact n moves Below = ⊤

-- if the answer is a front, its vectors are of this width
abbrev pub IsExactOfWidth : ℕ → Found → Type 0
IsExactOfWidth width (Exact front) = front.width ≡ width
IsExactOfWidth width Below = ⊤
