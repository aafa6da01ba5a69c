use Rattle.std.proofs.Common.{ℕ, List, sym, ap, ◌∙◌}
use Rattle.equivalent_nodes.specs.Ranks.{with_gaps_closed as closed_up}
use Rattle.equivalent_nodes.proofs.Relative.{one_more_closed}
use Rattle.equivalent_nodes.proofs.ranks.with_gaps_closed.Goals as goal

pub loop-gap-preserved : goal.loop-gap-preserved
loop-gap-preserved c =
    one_more_closed c.in-Some.gap c.loop-gap.rest c.pop_first.new.self c.loop-gap.raised c.raised_to-raised.result (closed_up c.args.gaps c.args.cards)
    c.loop-gap.invariant c.in-Some.ensures.value c.raised_to-raised.ensures.value

pub returns : goal.returns
returns c = sym (ap (λ (l : List ℕ). closed_up l c.loop-gap.raised) c.in_default.ensures.value.0) ∙ c.loop-gap.invariant
