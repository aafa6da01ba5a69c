use Rattle.std.proofs.Common.{List, sym, subst}
use Rattle.trick_rules.specs.Nodes.{choices}
use Rattle.strategy_tree.proofs.CardLists.{has_card-from_Contains}
use Rattle.alphamu_core.proofs.Paid.{paid_none, paid_more, paid_memory, paid_all, paid_below}
use Rattle.alphamu_core.proofs.Taken.{taken_first}
use Rattle.assured_fronts.specs.declared.replies.AfterReply.{AfterReply}
use Rattle.assured_fronts.proofs.Leaves.{goes_on}
use Rattle.assured_fronts.proofs.MadeLayouts.{made_after}
use Rattle.assured_fronts.proofs.ReplyByReply.{RepliesLeft, replies_none, reply_choice, reply_more, replies_all, size_waiting}
use Rattle.assured_fronts.proofs.SameSearch.{same_none, same_more}
use Rattle.assured_fronts.proofs.search.AssuredSearch.after_each.Goals as goal

pub cards-init : goal.cards-init
cards-init c = record {
  left = subst (λ (found : List AfterReply). RepliesLeft c.args.node.now c.args.moves c.cards_of-cards.result found) (sym c.new-found.ensures.items)
      (replies_none c.args.node.now c.args.moves c.cards_of-cards.result (c.cards_of-cards.ensures.theirs c.requires.waits.theirs));
  paid = paid_none ⊥ c.args.node.now c.args.moves c.cards_of-cards.result c.args.self.now.budget.now.left c.cards_of-cards.ensures.enough (λ each. absurd each);
  same = same_none c.args.self.now;
}

pub child-requires : goal.child-requires
child-requires c = has_card-from_Contains (choices c.args.node.now) c.in-Some.card (reply_choice c.cards.invariant.left c.in-Some.ensures.value)

pub visit-requires : goal.visit-requires
visit-requires c = λ known.
    made_after c.args.node.now c.in-Some.card c.width-width.ensures.a_node (goes_on c.args.node.now c.requires.waits.goes_on).0 c.requires.waits.theirs c.in_ok-child.child c.in_ok-child.ensures.node (c.requires.made known)

pub cards-preserved : goal.cards-preserved
cards-preserved c = record {
  left = subst (λ (found : List AfterReply). RepliesLeft c.args.node.now c.args.moves c.pop_first.new.self found) (sym c.in_ok-push.ensures.items)
      (reply_more c.cards.invariant.left c.in-Some.ensures.value (record { mask = c.in_ok-child.mask; front = c.in_ok-front.front }) c.in_ok-child.child c.in_ok-child.ensures.node c.in_ok-child.ensures.mask c.in_ok-front.ensures.front);
  paid = paid_more ⊥ c.args.node.now c.args.moves c.cards.invariant.paid (taken_first _ _ _ c.in-Some.ensures.value) c.in_ok-child.ensures.node c.in_ok-front.front c.in_ok-front.ensures.costs;
  same = same_more c.cards.invariant.same c.in_ok-front.ensures.same;
}

pub returns-clause-replies : goal.returns-clause-replies
returns-clause-replies c = replies_all c.cards.invariant.left c.in_default.ensures.value.0

pub returns-in_err-child-clause-costs : goal.returns-in_err-child-clause-costs
returns-in_err-child-clause-costs c =
    paid_memory ⊥ c.args.node.now c.args.moves c.cards.invariant.paid c.args.moves (size_waiting c.args.node.now c.args.moves c.width-width.ensures.a_node c.requires.waits) c.from_residual.result c.from_residual.ensures.1

pub returns-in_err-front-clause-costs : goal.returns-in_err-front-clause-costs
returns-in_err-front-clause-costs c =
    paid_below ⊥ c.args.node.now c.args.moves c.cards.invariant.paid c.args.moves (size_waiting c.args.node.now c.args.moves c.width-width.ensures.a_node c.requires.waits) (taken_first _ _ _ c.in-Some.ensures.value) c.in_ok-child.ensures.node
    c.from_residual-in_err-front.result c.in_err-front.field-0.0 c.in_err-front.ensures.costs c.from_residual-in_err-front.ensures.1

pub returns-in_err-push-clause-costs : goal.returns-in_err-push-clause-costs
returns-in_err-push-clause-costs c =
    let paid = paid_more ⊥ c.args.node.now c.args.moves c.cards.invariant.paid (taken_first _ _ _ c.in-Some.ensures.value) c.in_ok-child.ensures.node c.in_ok-front.front c.in_ok-front.ensures.costs in
    paid_memory ⊥ c.args.node.now c.args.moves paid c.args.moves (size_waiting c.args.node.now c.args.moves c.width-width.ensures.a_node c.requires.waits) c.from_residual-in_err-push.result c.from_residual-in_err-push.ensures.1

pub returns-in_err-push-clause-same : goal.returns-in_err-push-clause-same
returns-in_err-push-clause-same c = same_more c.cards.invariant.same c.in_ok-front.ensures.same

pub returns-clause-costs : goal.returns-clause-costs
returns-clause-costs c =
    paid_all ⊥ c.args.node.now c.args.moves c.cards.invariant.paid c.args.moves (size_waiting c.args.node.now c.args.moves c.width-width.ensures.a_node c.requires.waits) _ (λ each. absurd each)
