use Rattle.std.proofs.Common.{sym, ◌∙◌}
use Rattle.card_sets.proofs.Sets.{first_card-none}
use Rattle.am_match.proofs.Choosing.{no_hand, plays_first}
use Rattle.am_match.proofs.styles.LowCardDefender.choose.Goals as goal

pub unreachable-requires : goal.unreachable-requires
unreachable-requires c = c.requires.holds_cards
    (no_hand c.args.position.now.trick.cards c.args.hand (sym c.legal.ensures ∙ first_card-none c.legal.result (sym c.in_default.ensures.value)))

pub returns-clause-may : goal.returns-clause-may
returns-clause-may c = plays_first c.args.position.now c.args.hand c.legal.result c.in-Some.first c.legal.ensures c.first.ensures.a_set (sym c.in-Some.ensures.value)
