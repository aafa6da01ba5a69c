use Rattle.std.proofs.Common.{◌≡◌, ◌++◌, flat_map, codes, take}
use Rattle.std.specs.Fmt.{decimal}
use Rattle.am_report.proofs.head.push_numbers.Given as goal

abbrev pub invariant-loop-number : goal.invariant-loop-number
invariant-loop-number l = l.text ≡ l.initial.text ++ flat_map (λ n. codes " " ++ decimal n) (take l.number-index l.rest)
