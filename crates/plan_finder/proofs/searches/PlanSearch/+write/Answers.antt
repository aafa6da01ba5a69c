use Rattle.std.proofs.Common.{◌≡◌, ◌∙◌, ℕ, List, Option, IfSome, length, sym, ap, subst, Err, arith}
use Rattle.std.proofs.lemmas.Result.{on_ok_weaker}
use Rattle.win_vectors.specs.Fronts.{Vector}
use Rattle.strategy_games.specs.Choosing.{IsPick}
use Rattle.strategy_tree.specs.Bridge.{bridge}
use Rattle.strategy_tree.proofs.CardLists.{has_card-from_Contains}
use Rattle.alphamu_core.specs.declared.answers.SearchFault.TheVariants.{Spent}
use Rattle.plan_finder.specs.Choices.{KeepsNone}
use Rattle.plan_finder.proofs.SameSearch.{same_none, same_more, still_within, most_within, still_larger}
use Rattle.plan_finder.proofs.Picks.{open_at, too_large_first, too_large_below, larger_than, node_after, fewer_after, vector_after, passed_on, some_picked}
use Rattle.plan_finder.proofs.Replied.{replied_none, next_reply, node_below, fewer_below, spent_below, mask_width, mask_some, part_width, part_kept, above_of, replied_more}
use Rattle.plan_finder.proofs.WrittenPlans.{stop_written, play_written, hear_written, none_written, so_far, all_written, one_more_written}
use Rattle.plan_finder.proofs.searches.PlanSearch.+write.Goals as goal

-- ---- any node

pub write_below-write_remembered-requires : goal.write_below-write_remembered-requires
write_below-write_remembered-requires g t c κs within =
    let goes_on = open_at c.args.node.now c.args.moves c.stops.result c.stops.ensures c.if-stops.false in
    (omega arith, (within, (c.requires.few_moves, (c.requires.a_node, (goes_on, (sym c.is_ours.ensures ∙ c.if-is_ours.true, c.requires.vector))))))

pub write_below-write_replies-requires : goal.write_below-write_replies-requires
write_below-write_replies-requires g t c κs within =
    let goes_on = open_at c.args.node.now c.args.moves c.stops.result c.stops.ensures c.if-stops.false in
    (omega arith, (within, (c.requires.few_moves, (c.requires.a_node, (goes_on, (sym c.is_ours.ensures ∙ c.if-is_ours.false, c.requires.vector))))))

pub write_below-returns-then-stops-clause-plan : goal.write_below-returns-then-stops-clause-plan
write_below-returns-then-stops-clause-plan g t c = stop_written c.args.node.now c.args.moves c.args.vector.now _ _ (sym c.stops.ensures ∙ c.if-stops.true) c.in_ok-push_stop.ensures

pub write_below-returns-clause-plan : goal.write_below-returns-clause-plan
write_below-returns-clause-plan g t c =
    let goes_on = open_at c.args.node.now c.args.moves c.stops.result c.stops.ensures c.if-stops.false in
    let counted = c.count.ensures.value ∙ ap (λ (cards : List ℕ). length cards) c.choices.ensures in
    on_ok_weaker c.write_replies.result
    (λ replies. hear_written c.args.node.now c.args.moves c.args.vector.now _ _ c.push_hear.new.out c.write_replies.new.out goes_on (sym c.is_ours.ensures ∙ c.if-is_ours.false) c.requires.vector counted c.in_ok-push_hear.ensures replies)
    c.write_replies.ensures.replies

-- ---- declarer's side

pub write_play-returns-in-Err-clause-spent : goal.write_play-returns-in-Err-clause-spent
write_play-returns-in-Err-clause-spent g t c = λ e.
    let spent : c.without_card.result ≡ Spent = cc in
    let fault = c.without_card.ensures.only spent in
    larger_than c.args.node.now c.args.moves c.args.vector.now c.args.self.now.nodes fault.0 c.requires.a_node c.requires.ours
    (too_large_first c.args.node.now c.args.moves c.args.vector.now c.args.self.now.nodes fault.0 c.requires.goes_on c.requires.vector (c.in-Err.ensures.spent fault.0 (ap Err fault.1)))

pub write_play-write_below-requires : goal.write_play-write_below-requires
write_play-write_below-requires g t c κs within =
    let first = c.in-Ok.ensures.first in
    let less = fewer_after c.args.node.now c.args.moves c.args.vector.now c.in-Ok.first first c.requires.a_node in
    (omega arith, (within, (omega (arith, c.requires.few_moves), (node_after c.args.node.now c.args.moves c.args.vector.now c.in-Ok.first first c.requires.a_node, vector_after c.args.node.now c.args.moves c.args.vector.now c.in-Ok.first first))))

pub write_play-returns-clause-plan : goal.write_play-returns-clause-plan
write_play-returns-clause-plan g t c =
    play_written c.args.node.now c.args.moves c.args.vector.now c.in-Ok.first _ _ _ c.requires.goes_on c.requires.ours c.requires.vector c.in-Ok.ensures.first c.in_ok-push_play.ensures c.in_ok-below.ensures.plan

pub write_play-returns-in_err-below-clause-spent : goal.write_play-returns-in_err-below-clause-spent
write_play-returns-in_err-below-clause-spent g t c = λ e.
    let fault = passed_on c.from_residual-in_err-below.result c.in_err-below.field-0.0 Spent c.from_residual-in_err-below.ensures.1 e in
    let larger = still_larger c.in-Ok.ensures.same _ (c.in_err-below.ensures.spent (ap Err fault)) in
    larger_than c.args.node.now c.args.moves c.args.vector.now c.args.self.now.nodes c.in-Ok.first.card c.requires.a_node c.requires.ours
    (too_large_below c.args.node.now c.args.moves c.args.vector.now c.args.self.now.nodes c.in-Ok.first c.requires.goes_on c.requires.vector c.in-Ok.ensures.first larger)

pub write_play-returns-clause-same : goal.write_play-returns-clause-same
write_play-returns-clause-same g t c = same_more g.met.S.FrontStore.grown_more c.in-Ok.ensures.same c.in_ok-below.ensures.same

pub write_play-returns-in_err-below-clause-same : goal.write_play-returns-in_err-below-clause-same
write_play-returns-in_err-below-clause-same g t c = same_more g.met.S.FrontStore.grown_more c.in-Ok.ensures.same c.in_err-below.ensures.same

-- ---- a defender

pub write_replies-cards-init : goal.write_replies-cards-init
write_replies-cards-init g t c = record {
  written = none_written c.args.node.now c.args.moves c.args.vector.now c.choices-cards.result c.args.out.now (replied_none c.args.node.now c.args.moves c.args.vector.now c.choices-cards.result c.choices-cards.ensures);
  same = same_none g.met.S.FrontStore.grown_none c.args.self.now;
  most = tt;
}

pub write_replies-child-requires : goal.write_replies-child-requires
write_replies-child-requires g t c = has_card-from_Contains _ _ (next_reply c.args.node.now c.args.moves c.args.vector.now (so_far c.args.node.now c.args.moves c.args.vector.now c.cards.invariant.written) c.in-Some.ensures.value)

pub write_replies-returns-in_err-picked-clause-spent : goal.write_replies-returns-in_err-picked-clause-spent
write_replies-returns-in_err-picked-clause-spent g t c = λ e.
    let fault = passed_on c.from_residual-in_err-picked.result c.in_err-picked.field-0.0 Spent c.from_residual-in_err-picked.ensures.1 e in
    spent_below c.args.node.now c.args.moves c.args.vector.now (so_far c.args.node.now c.args.moves c.args.vector.now c.cards.invariant.written) c.in-Some.ensures.value c.in_ok-child.ensures.node c.args.self.now.nodes c.requires.a_node c.requires.goes_on c.requires.theirs (still_larger c.cards.invariant.same _ (c.in_err-picked.ensures.spent (ap Err fault)))

pub write_replies-restrict-part-requires-clause-same_width : goal.write_replies-restrict-part-requires-clause-same_width
write_replies-restrict-part-requires-clause-same_width g t c =
    mask_width c.args.node.now c.args.moves c.args.vector.now (so_far c.args.node.now c.args.moves c.args.vector.now c.cards.invariant.written) c.in-Some.ensures.value c.in_ok-child.ensures.node _ c.in_ok-child.ensures.mask c.requires.vector

pub write_replies-restrict-part-requires-clause-not_empty : goal.write_replies-restrict-part-requires-clause-not_empty
write_replies-restrict-part-requires-clause-not_empty g t c =
    mask_some c.args.node.now c.args.moves c.args.vector.now (so_far c.args.node.now c.args.moves c.args.vector.now c.cards.invariant.written) c.in-Some.ensures.value c.in_ok-child.ensures.node _ c.in_ok-child.ensures.mask c.requires.a_node

pub write_replies-pick_kept-requires-clause-width : goal.write_replies-pick_kept-requires-clause-width
write_replies-pick_kept-requires-clause-width g t c =
    ap (λ (v : Vector). length v) c.restrict-part.ensures
    ∙ part_width c.args.node.now c.args.moves c.args.vector.now (so_far c.args.node.now c.args.moves c.args.vector.now c.cards.invariant.written) c.in-Some.ensures.value c.in_ok-child.ensures.node _ c.in_ok-child.ensures.mask c.requires.vector

pub write_replies-pick_kept-requires-clause-kept : goal.write_replies-pick_kept-requires-clause-kept
write_replies-pick_kept-requires-clause-kept g t c = λ none.
    part_kept c.args.node.now c.args.moves c.args.vector.now (so_far c.args.node.now c.args.moves c.args.vector.now c.cards.invariant.written) c.in-Some.ensures.value c.in_ok-child.ensures.node _ c.in_ok-child.ensures.mask
    c.requires.a_node c.requires.goes_on c.requires.theirs c.requires.vector
    (subst (λ (t : Vector). KeepsNone c.in_ok-child.child c.args.moves t) c.restrict-part.ensures none)

pub write_replies-unwrap-above-requires : goal.write_replies-unwrap-above-requires
write_replies-unwrap-above-requires g t c =
    some_picked c.in_ok-picked.picked.vector (λ none.
    part_kept c.args.node.now c.args.moves c.args.vector.now (so_far c.args.node.now c.args.moves c.args.vector.now c.cards.invariant.written) c.in-Some.ensures.value c.in_ok-child.ensures.node _ c.in_ok-child.ensures.mask
    c.requires.a_node c.requires.goes_on c.requires.theirs c.requires.vector
    (subst (λ (t : Vector). KeepsNone c.in_ok-child.child c.args.moves t) c.restrict-part.ensures (c.in_ok-picked.ensures.none none)))

pub write_replies-write_below-requires : goal.write_replies-write_below-requires
write_replies-write_below-requires g t c κs within =
    let so = so_far c.args.node.now c.args.moves c.args.vector.now c.cards.invariant.written in
    let less = fewer_below c.args.node.now c.args.moves c.args.vector.now so c.in-Some.ensures.value c.in_ok-child.ensures.node c.requires.a_node in
    let first = subst (λ (o : Option Vector). IfSome o (IsPick bridge c.in_ok-child.child c.args.moves c.restrict-part.result)) c.unwrap-above.ensures c.in_ok-picked.ensures.picked in
    let of = above_of c.args.node.now c.args.moves c.args.vector.now so c.in-Some.ensures.value c.in_ok-child.ensures.node _ c.in_ok-child.ensures.mask c.restrict-part.ensures first in
    (omega arith, (within, (c.requires.few_moves, (node_below c.args.node.now c.args.moves c.args.vector.now so c.in-Some.ensures.value c.in_ok-child.ensures.node c.requires.a_node, of))))

pub write_replies-returns-in_err-below-clause-spent : goal.write_replies-returns-in_err-below-clause-spent
write_replies-returns-in_err-below-clause-spent g t c = λ e.
    let fault = passed_on c.from_residual-in_err-below.result c.in_err-below.field-0.0 Spent c.from_residual-in_err-below.ensures.1 e in
    spent_below c.args.node.now c.args.moves c.args.vector.now (so_far c.args.node.now c.args.moves c.args.vector.now c.cards.invariant.written) c.in-Some.ensures.value c.in_ok-child.ensures.node c.args.self.now.nodes c.requires.a_node c.requires.goes_on c.requires.theirs (still_larger (same_more g.met.S.FrontStore.grown_more c.cards.invariant.same c.in_ok-picked.ensures.same) _ (c.in_err-below.ensures.spent (ap Err fault)))

pub write_replies-returns-in_err-picked-clause-same : goal.write_replies-returns-in_err-picked-clause-same
write_replies-returns-in_err-picked-clause-same g t c = same_more g.met.S.FrontStore.grown_more c.cards.invariant.same c.in_err-picked.ensures.same

pub write_replies-returns-in_err-push_on-clause-same : goal.write_replies-returns-in_err-push_on-clause-same
write_replies-returns-in_err-push_on-clause-same g t c = same_more g.met.S.FrontStore.grown_more c.cards.invariant.same c.in_ok-picked.ensures.same

pub write_replies-returns-in_err-below-clause-same : goal.write_replies-returns-in_err-below-clause-same
write_replies-returns-in_err-below-clause-same g t c =
    let more = g.met.S.FrontStore.grown_more in
    same_more more (same_more more c.cards.invariant.same c.in_ok-picked.ensures.same) c.in_err-below.ensures.same

pub write_replies-cards-preserved : goal.write_replies-cards-preserved
write_replies-cards-preserved g t c =
    let first = subst (λ (o : Option Vector). IfSome o (IsPick bridge c.in_ok-child.child c.args.moves c.restrict-part.result)) c.unwrap-above.ensures c.in_ok-picked.ensures.picked in
    let more = g.met.S.FrontStore.grown_more in
    let same = same_more more c.cards.invariant.same c.in_ok-picked.ensures.same in
    let so = so_far c.args.node.now c.args.moves c.args.vector.now c.cards.invariant.written in
    let plan = c.in_ok-below.ensures.plan in
    record {
      written = one_more_written c.args.node.now c.args.moves c.args.vector.now c.cards.invariant.written _ c.push_on.new.out c.write_below.new.out _ _ _ c.in_ok-push_on.ensures plan
          (replied_more c.args.node.now c.args.moves c.args.vector.now so c.in-Some.ensures.value c.in_ok-child.ensures.node _ c.in_ok-child.ensures.mask c.restrict-part.ensures first plan.plan plan.chosen);
      same = same_more more same c.in_ok-below.ensures.same;
      most = c.larger-in-Some.ensures.within c.args.self.now.nodes (c.larger.ensures.within c.args.self.now.nodes (still_within c.cards.invariant.same _ c.in_ok-picked.ensures.within) c.cards.invariant.most) (most_within same _ c.in_ok-below.ensures.within);
    }

pub write_replies-returns-clause-replies : goal.write_replies-returns-clause-replies
write_replies-returns-clause-replies g t c = all_written c.args.node.now c.args.moves c.args.vector.now c.cards.invariant.written c.in_default.ensures.value.0

pub write_replies-returns-clause-within : goal.write_replies-returns-clause-within
write_replies-returns-clause-within g t c = c.cards.invariant.most
