use Rattle.std.proofs.Common.{◌≡◌, ◌++◌, ◌-◌, length, drop}
use Rattle.pbn_text.specs.Strings.{unescaped}
use Rattle.pbn_text.proofs.scan.unescaped.Given as goal

abbrev pub invariant-loop-at : goal.invariant-loop-at
invariant-loop-at l = l.value ++ unescaped (drop l.at l.text) ≡ unescaped l.text

abbrev pub decreases-loop-at : goal.decreases-loop-at
decreases-loop-at l = length l.text - l.at
