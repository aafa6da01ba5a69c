-- What is asked of a node in a search.
use Rattle.std.specs.Prelude.{◌≡◌, ℕ, length}
use Rattle.cut_rules.specs.declared.CutRules.{CutRules}
use Rattle.alphamu_core.specs.declared.answers.Found.{Found}
use Rattle.alphamu_core.specs.declared.results.Question.{Question}
use Rattle.alphamu_core.specs.Findings.{IsAnswer}
use Rattle.alphamu_core.specs.Judging.{IsKnown}

-- alpha is for the node's layouts, what is known of double dummy is so, and the rules are these
pub record IsAsked (rules : CutRules) (q : Question) : Type 0 where
  pub width : q.alpha.now.width ≡ length q.node.now.lefts
  pub known : IsKnown q.node.now q.known
  pub same_rules : q.rules ≡ rules

-- what may be answered by these rules
abbrev pub IsAnswerTo : CutRules → Question → ℕ → Found → Type 0
IsAnswerTo rules q moves found = IsAnswer q.node.now moves q.alpha.now.vectors rules found
