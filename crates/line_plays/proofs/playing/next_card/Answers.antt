use Rattle.std.proofs.Common.{sym, ◌∙◌}
use Rattle.std.proofs.lemmas.Bool.{false≢true}
use Rattle.trick_rules.specs.Positions.{State}
use Rattle.strategy_tree.specs.PlanMeaning.{plan_of}
use Rattle.line_plays.proofs.OneDefence.{beating_is_legal, some_card_beats}
use Rattle.line_plays.proofs.playing.next_card.Goals as goal

pub unreachable-requires : goal.unreachable-requires
unreachable-requires c =
    let s : State = record { position = c.args.position.now; left = c.args.left } in
    some_card_beats (plan_of c.args.plan.now) s c.requires.follow c.requires.going_on (sym c.beating_card.ensures ∙ c.in_default.is)

pub returns : goal.returns
returns c =
    let s : State = record { position = c.args.position.now; left = c.args.left } in
    let beats = sym c.beating_card.ensures ∙ c.in-Some.is in
    record {
      legal = beating_is_legal (plan_of c.args.plan.now) s c.in-Some.card beats;
      ours = λ ours. absurd (false≢true (sym c.if-is_ours.false ∙ c.is_ours.ensures ∙ ours));
      theirs = λ _. beats;
    }
