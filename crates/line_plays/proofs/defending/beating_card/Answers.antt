use Rattle.std.proofs.Common.{◌∙◌, ap}
use Rattle.card_sets.specs.SetWords.{has_card}
use Rattle.am_match.proofs.Choosing.{has_head}
use Rattle.line_plays.proofs.defending.beating_card.Goals as goal

pub loses_after-requires-clause-legal : goal.loses_after-requires-clause-legal
loses_after-requires-clause-legal c =
    let card = c.in-Some.card in
    c.loop-card.invariant.legal card (ap (λ cs. has_card cs card) c.in-Some.ensures.value ∙ has_head card c.pop_first.new.self)
