use Rattle.std.proofs.Common.{◌≡◌, take}
use Rattle.page_text.specs.Beliefs.{most_believed}
use Rattle.page_text.proofs.beliefs.most_believed.Given as goal

abbrev pub invariant-loop-belief : goal.invariant-loop-belief
invariant-loop-belief l = l.most ≡ most_believed (take l.belief-index l.beliefs)
