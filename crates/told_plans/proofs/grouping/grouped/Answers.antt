use Rattle.std.proofs.Common.{◌∙◌, ◌==◌, map, sym, ap, subst}
use Rattle.std.proofs.lemmas.Bool.{or_right}
use Rattle.card_sets.specs.SetWords.{has_card}
use Rattle.strategy_tree.specs.PlanMeaning.{plan_of, replies_of}
use Rattle.strategy_tree.specs.PlanText.{levels_below}
use Rattle.told_plans.specs.Told.{HaveJoined}
use Rattle.told_plans.specs.ToldMeaning.{group_of}
use Rattle.told_plans.proofs.Boths.{answer_level}
use Rattle.told_plans.proofs.grouping.grouped.Goals as goal

pub cards-preserved-in-Continue-1 : goal.cards-preserved-in-Continue-1
cards-preserved-in-Continue-1 c =
    let rs = replies_of c.args.replies.now in
    let card = c.in-Some.card in
    let new = c.pop_first.new.self in
    let first = c.in-Some.ensures.value in
    let plan = plan_of c.in-Some-answer.plan.now in
    record {
      answers = λ d held. c.cards.invariant.answers d (ap (λ cards. has_card cards d) first ∙ or_right (card == d) (has_card new d) held);
      so_far = λ after later. c.cards.invariant.so_far after (subst (λ cards. HaveJoined rs cards (map group_of c.cards.groups.items) after) (sym first) (plan, map group_of c.join.new.groups.items, c.in-Some-answer.ensures, c.in_ok-join.ensures.joined, later));
      levels = c.in_ok-join.ensures.levels (levels_below rs) (answer_level rs card plan c.in-Some-answer.ensures) c.cards.invariant.levels;
    }
