use Rattle.std.proofs.Common.{◌≡◌, ◌++◌, ◌-◌}
use Rattle.layout_maker.specs.Generator.{orders}
use Rattle.layout_maker.specs.MadeProblem.{layout_file}
use Rattle.layout_maker.proofs.made.layout_file.Given as goal

abbrev pub invariant-loop : goal.invariant-loop
invariant-loop l =
    l.text ++ layout_file l.north l.south (orders (40 - l.counter) (record { items = l.others; state = l.generator })) ≡ layout_file l.fn.north l.fn.south (orders 40 (record { items = l.fn.others; state = l.fn.generator }))
