use Rattle.std.proofs.Common.{◌≡◌, drop, max}
use Rattle.review_text.specs.Texts.{greatest_up_to}
use Rattle.review_text.proofs.text.greatest_up_to.Given as goal

abbrev pub invariant-loop-decision : goal.invariant-loop-decision
invariant-loop-decision l = max l.greatest (greatest_up_to (drop l.decision-index l.told)) ≡ greatest_up_to l.told
