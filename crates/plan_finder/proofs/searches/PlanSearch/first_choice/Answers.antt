use Rattle.std.proofs.Common.{◌≡◌, ◌∙◌, ◌-◌, [], IfSome, sym, ap, subst, true≢false, Err}
use Rattle.strategy_tree.specs.declared.root_fault.RootFault.TheVariants.{Spent}
use Rattle.strategy_games.specs.Choosing.{IsPick}
use Rattle.strategy_tree.specs.Bridge.{bridge}
use Rattle.plan_finder.specs.Choices.{IsChoiceSpentAt}
use Rattle.plan_finder.proofs.SameSearch.{same_more, still_within, still_larger}
use Rattle.plan_finder.proofs.Passed.{some_keeps, spent_here, same_width, first_found, last_pick, none_more}
use Rattle.plan_finder.proofs.searches.PlanSearch.first_choice.Goals as goal
use Rattle.plan_finder.proofs.searches.PlanSearch.first_choice.Goals.{then-self, else-self}

pub returns-in-Err-clause-spent : goal.returns-in-Err-clause-spent
returns-in-Err-clause-spent g c = λ card e.
    let named : c.at_card.result ≡ Spent card = cc in
    let fault = c.at_card.ensures.only card named in
    let larger = c.in-Err.ensures.spent (ap Err fault.1) in
    subst (λ card. IsChoiceSpentAt c.args.node.now c.args.moves c.args.vector.now c.args.self.now.nodes card) (sym fault.0)
    (spent_here c.args.node.now c.args.moves c.args.vector.now c.cards.invariant.so c.in-Some.ensures.value c.in_ok-child.ensures.node c.args.self.now.nodes c.in-Some.ensures.a_set (still_larger c.cards.invariant.same _ larger))

pub pick_unless_known-requires-clause-width : goal.pick_unless_known-requires-clause-width
pick_unless_known-requires-clause-width g c =
    same_width c.args.node.now c.args.moves c.args.vector.now c.cards.invariant.so c.in-Some.ensures.value c.in_ok-child.ensures.node c.requires.ours c.requires.vector

pub pick_unless_known-requires-clause-known : goal.pick_unless_known-requires-clause-known
pick_unless_known-requires-clause-known g c = λ known.
    let ended : c.pop_first.new.self ≡ [] = elim c.if-self.branch as (λ _. c.pop_first.new.self ≡ []) [
      | then-self w ↦ w.is_empty-is_last.ensures.value.0 (sym w.is_last-is ∙ known)
      | else-self w ↦ absurd (true≢false (sym known ∙ w.is_last-is ∙ w.if-self.false))
    ] in
    last_pick c.args.node.now c.args.moves c.args.vector.now c.cards.invariant.so c.in-Some.ensures.value c.in_ok-child.ensures.node c.requires.a_node c.requires.goes_on c.requires.ours c.requires.vector ended

pub returns-in-Some-vector-clause-first : goal.returns-in-Some-vector-clause-first
returns-in-Some-vector-clause-first g c =
    let pick = subst (λ found. IfSome found (IsPick bridge c.in_ok-child.child (c.args.moves - 1) c.args.vector.now)) c.in-Some-vector.is c.in-Ok.ensures.picked in
    let found = first_found c.args.node.now c.args.moves c.args.vector.now c.cards.invariant.so c.in-Some.ensures.value c.in_ok-child.ensures.node c.in-Some-vector.above pick in
    record { first = found.0; after = c.in_ok-child.ensures.node; goes_on_with = found.1 }

pub returns-in-Some-vector-clause-same : goal.returns-in-Some-vector-clause-same
returns-in-Some-vector-clause-same g c = same_more g.met.S.FrontStore.grown_more c.cards.invariant.same c.pick_unless_known.ensures.same

pub returns-in-Some-vector-clause-within : goal.returns-in-Some-vector-clause-within
returns-in-Some-vector-clause-within g c = c.larger-entered.ensures.within c.args.self.now.nodes (still_within c.cards.invariant.same _ c.in-Ok.ensures.within) c.cards.invariant.most

pub cards-preserved : goal.cards-preserved
cards-preserved g c = record {
  so = none_more c.args.node.now c.args.moves c.args.vector.now c.cards.invariant.so c.in-Some.ensures.value c.in_ok-child.ensures.node (c.in-Ok.ensures.none c.in_default-vector.is);
  same = same_more g.met.S.FrontStore.grown_more c.cards.invariant.same c.pick_unless_known.ensures.same;
  most = c.larger-entered.ensures.within c.args.self.now.nodes (still_within c.cards.invariant.same _ c.in-Ok.ensures.within) c.cards.invariant.most;
}

pub unreachable-requires : goal.unreachable-requires
unreachable-requires g c =
    some_keeps c.args.node.now c.args.moves c.args.vector.now c.cards.invariant.so c.requires.a_node c.requires.goes_on c.requires.ours c.requires.vector c.in_default.ensures.value.0
