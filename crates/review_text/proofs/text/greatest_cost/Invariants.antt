use Rattle.std.proofs.Common.{◌≡◌, drop, max}
use Rattle.review_text.specs.Texts.{greatest_cost}
use Rattle.review_text.proofs.text.greatest_cost.Given as goal

abbrev pub invariant-loop-decision : goal.invariant-loop-decision
invariant-loop-decision l = max l.greatest (greatest_cost (drop l.decision-index l.told)) ≡ greatest_cost l.told
