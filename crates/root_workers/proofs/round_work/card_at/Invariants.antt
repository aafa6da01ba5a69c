use Rattle.std.proofs.Common.{◌≡◌, drop}
use Rattle.trick_rules.specs.Nodes.{choices}
use Rattle.root_workers.proofs.round_work.card_at.Given as goal

abbrev pub invariant-loop-earlier : goal.invariant-loop-earlier
invariant-loop-earlier l = l.cards ≡ drop l.earlier (choices l.node)
