use Rattle.std.proofs.Common.{◌≡◌, ◌++◌}
use Rattle.page_text.specs.Steps.{repeated}
use Rattle.page_text.proofs.steps.push_repeated.Given as goal

abbrev pub invariant-loop : goal.invariant-loop
invariant-loop l = l.page ≡ l.initial.page ++ repeated l.counter l.markup
