use Rattle.std.proofs.Common.{◌≡◌, ◌++◌, flat_map, take}
use Rattle.review_text.specs.Texts.{decision_line}
use Rattle.review_text.proofs.text.push_lines.Given as goal

abbrev pub invariant-loop-decision : goal.invariant-loop-decision
invariant-loop-decision l = l.text ≡ l.initial.text ++ flat_map decision_line (take l.decision-index l.told)
