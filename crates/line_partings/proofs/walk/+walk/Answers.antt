use Rattle.std.proofs.Common.{◌≡◌, ◌∙◌, ◌≤◌, ◌<◌, ◌+◌, ◌-◌, ◌==◌, ℕ, false, not, Result, Ok, Err, drop, length, get_or, IfOk, sym, ap, subst, arith}
use Rattle.std.specs.Option.{option_map}
use Rattle.std.proofs.lemmas.List.{get_or_default}
use Rattle.strategy_games.specs.Plans.{Play, Hear}
use Rattle.strategy_tree.specs.declared.plan.Reply.{Reply}
use Rattle.strategy_tree.specs.PlanMeaning.{plan_of, replies_of}
use Rattle.strategy_tree.specs.PlanText.{levels_of}
use Rattle.strategy_tree.proofs.Meanings.{plan_of-Play, plan_of-Hear}
use Rattle.line_partings.specs.Partings.{FitOneNode, IsWhereTheyPart}
use Rattle.line_partings.specs.Nearest.{with_card, nearer}
use Rattle.line_partings.proofs.Apart.{same_card}
use Rattle.line_partings.proofs.Alike.{fit_after}
use Rattle.line_partings.proofs.Placed.{as_many, none_from, level_there, fit_there, nearest_from}
use Rattle.line_partings.proofs.walk.+walk.Goals as goal

cards_same : (c d : ℕ) → not (c == d) ≡ false → c ≡ d
cards_same c d h = grind arith

-- what is said of a value holds of the result that has it
of_value : {X E : Type 0} (r : Result X E) (x : X) (P : X → Type 0) → IfOk r (λ y. y ≡ x) → P x → IfOk r P
of_value (Ok y) x P is holds = subst P (sym is) holds
of_value (Err e) x P is holds = tt

-- ---- both play the same card

pub first_parting-first_parting-requires : goal.first_parting-first_parting-requires
first_parting-first_parting-requires t c =
    let same = cards_same c.in-Play.card c.in-Play-other.other_card (sym c.ne.ensures ∙ c.if-ne.false) in
    let mine = ap plan_of c.in-Play.is ∙ plan_of-Play c.in-Play.card c.in-Play.rest ∙ ap (λ p. Play c.in-Play.card (plan_of p)) (sym c.deref.ensures) in
    let theirs = ap plan_of c.in-Play-other.is ∙ plan_of-Play c.in-Play-other.other_card c.in-Play-other.other_rest ∙ ap (λ p. Play c.in-Play-other.other_card (plan_of p)) (sym c.deref-in-Play.ensures) ∙ ap (λ d. Play d (plan_of c.deref-in-Play.result.now)) (sym same) in
    let fewer : levels_of (plan_of c.args.plan.now) ≡ 1 + levels_of (plan_of c.deref.result.now) = ap levels_of mine in
    (omega (arith, c.decreases, fewer), fit_after _ _ _ (subst (λ p. FitOneNode p (Play c.in-Play.card (plan_of c.deref-in-Play.result.now))) mine (subst (λ p. FitOneNode (plan_of c.args.plan.now) p) theirs c.requires)))

pub first_parting-returns-in_ok-found-in-Play : goal.first_parting-returns-in_ok-found-in-Play
first_parting-returns-in_ok-found-in-Play t c =
    let found = c.in_ok-found-in-Play.found in
    let same = cards_same c.in-Play.card c.in-Play-other.other_card (sym c.ne.ensures ∙ c.if-ne.false) in
    let mine = ap plan_of c.in-Play.is ∙ plan_of-Play c.in-Play.card c.in-Play.rest ∙ ap (λ p. Play c.in-Play.card (plan_of p)) (sym c.deref.ensures) in
    let theirs = ap plan_of c.in-Play-other.is ∙ plan_of-Play c.in-Play-other.other_card c.in-Play-other.other_rest ∙ ap (λ p. Play c.in-Play-other.other_card (plan_of p)) (sym c.deref-in-Play.ensures) ∙ ap (λ d. Play d (plan_of c.deref-in-Play.result.now)) (sym same) in
    subst (λ p. IfOk c.after_card.result (IsWhereTheyPart p (plan_of c.args.other.now))) (sym mine)
    (subst (λ p. IfOk c.after_card.result (IsWhereTheyPart (Play c.in-Play.card (plan_of c.deref.result.now)) p)) (sym theirs)
    (of_value c.after_card.result (option_map (with_card c.in-Play.card) found) (IsWhereTheyPart (Play c.in-Play.card (plan_of c.deref.result.now)) (Play c.in-Play.card (plan_of c.deref-in-Play.result.now))) c.after_card.ensures
    (same_card c.in-Play.card (plan_of c.deref.result.now) (plan_of c.deref-in-Play.result.now) found c.in_ok-found-in-Play.ensures)))

-- ---- both hear

pub first_parting-returns-in-Hear-other : goal.first_parting-returns-in-Hear-other
first_parting-returns-in-Hear-other t c =
    let mine = ap plan_of c.in-Hear.is ∙ plan_of-Hear c.in-Hear.replies ∙ ap (λ rs. Hear (replies_of rs)) (sym c.deref-in-Hear.ensures.value) in
    let theirs = ap plan_of c.in-Hear-other.is ∙ plan_of-Hear c.in-Hear-other.others ∙ ap (λ rs. Hear (replies_of rs)) (sym c.deref-in-Hear-2.ensures.value) in
    subst (λ p. IfOk c.parting_replies.result (IsWhereTheyPart p (plan_of c.args.other.now))) (sym mine)
    (subst (λ p. IfOk c.parting_replies.result (IsWhereTheyPart (Hear (replies_of c.deref-in-Hear.result.now)) p)) (sym theirs) c.parting_replies.ensures)

pub parting_replies-replies-init : goal.parting_replies-replies-init
parting_replies-replies-init t c = record {
  within = omega arith;
  nearest = none_from c.args.replies.now c.args.others.now c.requires;
}

pub parting_replies-bounds-others-place : goal.parting_replies-bounds-others-place
parting_replies-bounds-others-place t c = omega (arith, as_many c.args.replies.now c.args.others.now c.requires, c.replies.invariant.within, c.replies-test.true)

pub parting_replies-first_parting-requires : goal.parting_replies-first_parting-requires
parting_replies-first_parting-requires t c =
    let xs = c.args.replies.now in
    let ys = c.args.others.now in
    let low : c.replies.place - 1 < length xs = omega (arith, c.replies.invariant.within, c.replies-test.true) in
    let level = level_there xs ys c.requires _ _ _ low c.index-replies-place.is c.index-others-place.is in
    (omega (arith, level, c.decreases), fit_there xs ys c.requires _ _ _ low c.index-replies-place.is c.index-others-place.is)

pub parting_replies-replies-preserved : goal.parting_replies-replies-preserved
parting_replies-replies-preserved t c =
    let xs = c.args.replies.now in
    let ys = c.args.others.now in
    let i = c.replies.place - 1 in
    let x = c.index-replies-place.result in
    let y = c.index-others-place.result in
    let again = c.index-replies-place-in-replies.result in
    let below = c.in_ok-below.below in
    let found = c.replies.found in
    let low : i < length xs = omega (arith, c.replies.invariant.within, c.replies-test.true) in
    let next : c.replies.place ≡ i + 1 = omega (arith, c.replies-test.true) in
    let is_below : IsWhereTheyPart (plan_of x.plan) (plan_of y.plan) below =
    subst (λ (r : Reply). IsWhereTheyPart (plan_of r.plan) (plan_of y.plan) below) (sym c.index-replies-place.is)
    (subst (λ (r : Reply). IsWhereTheyPart (plan_of (get_or xs i x).plan) (plan_of r.plan) below) (sym c.index-others-place.is) c.in_ok-below.ensures) in
    let is_found : IsWhereTheyPart (Hear (replies_of (drop (i + 1) xs))) (Hear (replies_of (drop (i + 1) ys))) found =
    subst (λ (k : ℕ). IsWhereTheyPart (Hear (replies_of (drop k xs))) (Hear (replies_of (drop k ys))) found) next c.replies.invariant.nearest in
    let here : c.in_ok-after_card.field-0 ≡ option_map (with_card x.card) below =
    cc (c.in_ok-after_card.ensures, get_or_default xs i again x low, c.index-replies-place.is) in
    let all : c.nearer-found.result ≡ nearer (option_map (with_card x.card) below) found = c.nearer-found.ensures ∙ ap (λ h. nearer h found) here in
    record {
      within = omega (arith, c.replies.invariant.within);
      nearest = subst (λ place. IsWhereTheyPart (Hear (replies_of (drop i xs))) (Hear (replies_of (drop i ys))) place) (sym all)
          (nearest_from xs ys c.requires i x y low c.index-replies-place.is c.index-others-place.is below found is_below is_found);
    }
