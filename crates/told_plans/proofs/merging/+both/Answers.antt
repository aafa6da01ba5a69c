use Rattle.std.proofs.Common.{◌≡◌, ◌∙◌, ◌≤◌, ◌==◌, ℕ, true, false, not, refl, IfOk, MatchOption, sym, ap, subst, arith}
use Rattle.std.specs.Prelude.{max, ⊤}
use Rattle.strategy_games.specs.Plans.{Play, Hear}
use Rattle.strategy_tree.specs.declared.plan.Reply.{Reply}
use Rattle.strategy_tree.specs.PlanMeaning.{plan_of, replies_of}
use Rattle.strategy_tree.specs.PlanText.{levels_of, levels_below}
use Rattle.strategy_tree.proofs.Meanings.{plan_of-Stop, plan_of-Play, plan_of-Hear}
use Rattle.told_plans.specs.Follows.{answer_to, Agree, IsBoth}
use Rattle.told_plans.proofs.Boths as boths
use Rattle.told_plans.proofs.Found.{none_found, some_found, answers_found, levels_found, copied_level}
use Rattle.told_plans.proofs.MergedReplies.{either_answered, neither, still_old, left_more, done_more, push_levels, all_done}
use Rattle.told_plans.proofs.merging.+both.Goals as goal

cards_same : (c d : ℕ) → not (c == d) ≡ false → c ≡ d
cards_same c d h = grind arith

cards_differ : (c d : ℕ) → not (c == d) ≡ true → c ≡ d → ⊥
cards_differ c d h = grind arith

-- ---- both

pub both-returns-in-Stop-clause-value : goal.both-returns-in-Stop-clause-value
both-returns-in-Stop-clause-value t c =
    let is = ap plan_of c.in-Stop.is ∙ plan_of-Stop in
    subst (λ p. MatchOption c.both_stop.result (Agree p (plan_of c.args.other.now) → ⊥) (λ both. IsBoth p (plan_of c.args.other.now) (plan_of both))) (sym is) c.both_stop.ensures.value

pub both-returns-in-Play-clause-value : goal.both-returns-in-Play-clause-value
both-returns-in-Play-clause-value t c =
    let is = ap plan_of c.in-Play.is ∙ plan_of-Play c.in-Play.card c.in-Play.rest ∙ ap (λ p. Play c.in-Play.card (plan_of p)) (sym c.deref.ensures) in
    subst (λ p. IfOk c.both_play.result (λ found. MatchOption found (Agree p (plan_of c.args.other.now) → ⊥) (λ both. IsBoth p (plan_of c.args.other.now) (plan_of both)))) (sym is) c.both_play.ensures.value

pub both-returns-in-Hear-clause-value : goal.both-returns-in-Hear-clause-value
both-returns-in-Hear-clause-value t c =
    let is = ap plan_of c.in-Hear.is ∙ plan_of-Hear c.in-Hear.replies ∙ ap (λ rs. Hear (replies_of rs)) (sym c.deref-in-Hear.ensures.value) in
    subst (λ p. IfOk c.both_hear.result (λ found. MatchOption found (Agree p (plan_of c.args.other.now) → ⊥) (λ both. IsBoth p (plan_of c.args.other.now) (plan_of both)))) (sym is) c.both_hear.ensures.value

pub both-returns-in-Hear-clause-levels : goal.both-returns-in-Hear-clause-levels
both-returns-in-Hear-clause-levels t c =
    let is = ap plan_of c.in-Hear.is ∙ plan_of-Hear c.in-Hear.replies ∙ ap (λ rs. Hear (replies_of rs)) (sym c.deref-in-Hear.ensures.value) in
    subst (λ p. IfOk c.both_hear.result (λ found. MatchOption found ⊤ (λ both. levels_of (plan_of both) ≤ max (levels_of p) (levels_of (plan_of c.args.other.now))))) (sym is) c.both_hear.ensures.levels

-- ---- the answers to one card

pub both_answers-returns-in_default-clause-levels : goal.both_answers-returns-in_default-clause-levels
both_answers-returns-in_default-clause-levels t c =
    copied_level c.copy_answer.result (replies_of c.args.replies.now) (replies_of c.args.others.now) c.args.card c.copy_answer.ensures

pub both_answers-returns-in_default-answer-clause-levels : goal.both_answers-returns-in_default-answer-clause-levels
both_answers-returns-in_default-answer-clause-levels t c =
    let below = boths.answer_level (replies_of c.args.replies.now) c.args.card (plan_of c.in-Some.plan.now) c.in-Some.ensures in
    omega (arith, below, ap levels_of c.in_ok-copy.ensures)

pub both_answers-both-requires : goal.both_answers-both-requires
both_answers-both-requires t c =
    let below = boths.answer_level (replies_of c.args.replies.now) c.args.card (plan_of c.in-Some.plan.now) c.in-Some.ensures in
    (omega (arith, below, c.decreases), tt)

pub both_answers-returns-clause-value : goal.both_answers-returns-clause-value
both_answers-returns-clause-value t c =
    answers_found c.both.result (replies_of c.args.replies.now) (replies_of c.args.others.now) c.args.card (plan_of c.in-Some.plan.now) (plan_of c.in-Some-answer.other.now) c.in-Some.ensures c.in-Some-answer.ensures c.both.ensures.value

pub both_answers-returns-clause-levels : goal.both_answers-returns-clause-levels
both_answers-returns-clause-levels t c =
    let one = boths.answer_level (replies_of c.args.replies.now) c.args.card (plan_of c.in-Some.plan.now) c.in-Some.ensures in
    let other = boths.answer_level (replies_of c.args.others.now) c.args.card (plan_of c.in-Some-answer.other.now) c.in-Some-answer.ensures in
    levels_found c.both.result (levels_of (plan_of c.in-Some.plan.now)) (levels_of (plan_of c.in-Some-answer.other.now)) (levels_below (replies_of c.args.replies.now)) (levels_below (replies_of c.args.others.now)) one other c.both.ensures.levels

-- ---- the first plan hears a card

pub both_hear-returns-in-Stop-clause-value : goal.both_hear-returns-in-Stop-clause-value
both_hear-returns-in-Stop-clause-value t c agree =
    let is = ap plan_of c.in-Stop.is ∙ plan_of-Stop in
    boths.hear_or_stop (replies_of c.args.replies.now) (subst (λ p. Agree (Hear (replies_of c.args.replies.now)) p) is agree)

pub both_hear-returns-in-Play-clause-value : goal.both_hear-returns-in-Play-clause-value
both_hear-returns-in-Play-clause-value t c agree =
    let is = ap plan_of c.in-Play.is ∙ plan_of-Play c.in-Play.field-0 c.in-Play.field-1 in
    boths.hear_or_play (replies_of c.args.replies.now) c.in-Play.field-0 (plan_of c.in-Play.field-1.value) (subst (λ p. Agree (Hear (replies_of c.args.replies.now)) p) is agree)

pub both_hear-returns-in_default-clause-value : goal.both_hear-returns-in_default-clause-value
both_hear-returns-in_default-clause-value t c agree =
    let is = ap plan_of c.in-Hear.is ∙ plan_of-Hear c.in-Hear.others ∙ ap (λ rs. Hear (replies_of rs)) (sym c.deref.ensures.value) in
    none_found c.in_ok-all-in-Hear.field-0 _ _ c.in_default.is c.in_ok-all-in-Hear.ensures.value (subst (λ p. Agree (Hear (replies_of c.args.replies.now)) p) is agree)

pub both_hear-returns-in-Some-clause-value : goal.both_hear-returns-in-Some-clause-value
both_hear-returns-in-Some-clause-value t c =
    let is = ap plan_of c.in-Hear.is ∙ plan_of-Hear c.in-Hear.others ∙ ap (λ rs. Hear (replies_of rs)) (sym c.deref.ensures.value) in
    let found = some_found c.in_ok-all-in-Hear.field-0 _ _ c.in-Some.all c.in-Some.is c.in_ok-all-in-Hear.ensures.value in
    subst (λ u. IsBoth (Hear (replies_of c.args.replies.now)) (plan_of c.args.other.now) u) (sym (plan_of-Hear c.in-Some.all))
    (subst (λ p. IsBoth (Hear (replies_of c.args.replies.now)) p (Hear (replies_of c.in-Some.all.items))) (sym is) found)

-- ---- the first plan plays a card

pub both_play-returns-in-Stop-clause-value : goal.both_play-returns-in-Stop-clause-value
both_play-returns-in-Stop-clause-value t c agree =
    let is = ap plan_of c.in-Stop.is ∙ plan_of-Stop in
    boths.play_or_stop c.args.card (plan_of c.args.rest.now) (subst (λ p. Agree (Play c.args.card (plan_of c.args.rest.now)) p) is agree)

pub both_play-returns-in-Hear-clause-value : goal.both_play-returns-in-Hear-clause-value
both_play-returns-in-Hear-clause-value t c agree =
    let is = ap plan_of c.in-Hear.is ∙ plan_of-Hear c.in-Hear.field-0 in
    boths.play_or_hear c.args.card (plan_of c.args.rest.now) (replies_of c.in-Hear.field-0.items) (subst (λ p. Agree (Play c.args.card (plan_of c.args.rest.now)) p) is agree)

pub both_play-returns-then-ne-clause-value : goal.both_play-returns-then-ne-clause-value
both_play-returns-then-ne-clause-value t c agree =
    let is = ap plan_of c.in-Play.is ∙ plan_of-Play c.in-Play.other_card c.in-Play.other_rest in
    boths.other_card c.args.card c.in-Play.other_card (plan_of c.args.rest.now) (plan_of c.in-Play.other_rest.value)
    (cards_differ c.args.card c.in-Play.other_card (sym c.ne.ensures ∙ c.if-ne.true)) (subst (λ p. Agree (Play c.args.card (plan_of c.args.rest.now)) p) is agree)

pub both_play-returns-in_default-clause-value : goal.both_play-returns-in_default-clause-value
both_play-returns-in_default-clause-value t c agree =
    let same = cards_same c.args.card c.in-Play.other_card (sym c.ne.ensures ∙ c.if-ne.false) in
    let is = ap plan_of c.in-Play.is ∙ plan_of-Play c.in-Play.other_card c.in-Play.other_rest ∙ ap (λ p. Play c.in-Play.other_card (plan_of p)) (sym c.deref.ensures) ∙ ap (λ d. Play d (plan_of c.deref.result.now)) (sym same) in
    boths.same_card c.args.card (plan_of c.args.rest.now) (plan_of c.deref.result.now) (none_found c.in_ok-all-in-Play.field-0 _ _ c.in_default.is c.in_ok-all-in-Play.ensures.value) (subst (λ p. Agree (Play c.args.card (plan_of c.args.rest.now)) p) is agree)

pub both_play-returns-in_ok-new-in-Play-clause-value : goal.both_play-returns-in_ok-new-in-Play-clause-value
both_play-returns-in_ok-new-in-Play-clause-value t c =
    let same = cards_same c.args.card c.in-Play.other_card (sym c.ne.ensures ∙ c.if-ne.false) in
    let is = ap plan_of c.in-Play.is ∙ plan_of-Play c.in-Play.other_card c.in-Play.other_rest ∙ ap (λ p. Play c.in-Play.other_card (plan_of p)) (sym c.deref.ensures) ∙ ap (λ d. Play d (plan_of c.deref.result.now)) (sym same) in
    let found = some_found c.in_ok-all-in-Play.field-0 _ _ c.in-Some.all c.in-Some.is c.in_ok-all-in-Play.ensures.value in
    let whole = plan_of-Play c.args.card c.in_ok-new-in-Play.field-0 ∙ ap (λ p. Play c.args.card (plan_of p)) c.in_ok-new-in-Play.ensures.ok in
    subst (λ u. IsBoth (Play c.args.card (plan_of c.args.rest.now)) (plan_of c.args.other.now) u) (sym whole)
    (subst (λ p. IsBoth (Play c.args.card (plan_of c.args.rest.now)) p (Play c.args.card (plan_of c.in-Some.all))) (sym is) (boths.both_play c.args.card (plan_of c.args.rest.now) (plan_of c.deref.result.now) (plan_of c.in-Some.all) found))

-- ---- the replies

pub both_replies-cards-init : goal.both_replies-cards-init
both_replies-cards-init t c =
    let rs = replies_of c.args.replies.now in
    let ss = replies_of c.args.others.now in
    let all = either_answered rs ss c.answered.result c.answered-2.result c.either-cards.result c.answered.ensures.value c.answered-2.ensures.value c.answered.ensures.each c.answered-2.ensures.each c.either-cards.ensures.value in
    let empty = ap replies_of c.new-all.ensures.items in
    record {
      answered = λ d held. sym (all d) ∙ held;
      left = λ d held. ap (λ us. answer_to us d) empty;
      done = λ d free. neither rs ss (replies_of c.new-all.result.items) d (sym (all d) ∙ free) (ap (λ us. answer_to us d) empty);
      levels = omega (arith, ap levels_below empty);
    }

pub both_replies-cards-preserved : goal.both_replies-cards-preserved
both_replies-cards-preserved t c =
    let rs = replies_of c.args.replies.now in
    let ss = replies_of c.args.others.now in
    let card = c.in-Some.card in
    let old = c.cards.cards in
    let new = c.pop_first.new.self in
    let xs = c.cards.all.items in
    let r : Reply = record { card = card; plan = c.in-Some-2.plan } in
    let pushed = c.in_ok-push.ensures.items in
    let both = some_found c.in_ok-plan.field-0 _ _ c.in-Some-2.plan c.in-Some-2.is c.in_ok-plan.ensures.value in
    let level = some_found c.in_ok-plan.field-0 _ _ c.in-Some-2.plan c.in-Some-2.is c.in_ok-plan.ensures.levels in
    record {
      answered = λ d held. c.cards.invariant.answered d (still_old rs ss old new card xs c.push.new.self.items r c.in-Some.ensures.a_set c.in-Some.ensures.value pushed refl d held);
      left = left_more rs ss old new card xs c.push.new.self.items r c.in-Some.ensures.a_set c.in-Some.ensures.value pushed refl c.cards.invariant.left;
      done = done_more rs ss old new card xs c.push.new.self.items r c.in-Some.ensures.a_set c.in-Some.ensures.value pushed refl c.cards.invariant.left c.cards.invariant.done both;
      levels = subst (λ us. levels_below (replies_of us) ≤ max (levels_below rs) (levels_below ss)) (sym pushed) (push_levels xs r (max (levels_below rs) (levels_below ss)) c.cards.invariant.levels level);
    }

pub both_replies-returns-clause-value : goal.both_replies-returns-clause-value
both_replies-returns-clause-value t c =
    all_done (replies_of c.args.replies.now) (replies_of c.args.others.now) (replies_of c.cards.all.items) c.cards.cards c.in_default.ensures.value.0 c.cards.invariant.done
