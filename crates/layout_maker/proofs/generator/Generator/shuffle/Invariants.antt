use Rattle.std.proofs.Common.{◌≡◌, ◌-◌}
use Rattle.layout_maker.specs.Generator.{exchanged_from, shuffled}
use Rattle.layout_maker.proofs.generator.Generator.shuffle.Given as goal

abbrev pub invariant-loop-place : goal.invariant-loop-place
invariant-loop-place l = exchanged_from (l.place - 1) (record { items = l.cards; state = l.self }) ≡ shuffled (record { items = l.fn.cards; state = l.fn.self })
