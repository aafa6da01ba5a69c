use Rattle.std.proofs.Common.{◌≡◌, ◌++◌}
use Rattle.told_words.specs.Words.{indent}
use Rattle.told_words.proofs.lines.push_indent.Given as goal

abbrev pub invariant-loop : goal.invariant-loop
invariant-loop l = l.out ≡ l.initial.out ++ indent l.counter
