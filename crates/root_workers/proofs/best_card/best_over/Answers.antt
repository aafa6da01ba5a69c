use Rattle.std.proofs.Common.{◌≡◌, ◌∙◌, ◌-◌, ℕ, suc, List, length, arith, ap, refl, sym, subst, inl, inr}
use Rattle.trick_rules.specs.Nodes.{choices, child}
use Rattle.card_sets.proofs.SetCounts.{length-le_52}
use Rattle.card_sets.proofs.Sets.{IsCardSet-cards_where}
use Rattle.strategy_games.specs.Choosing.{IsBestWeight, IsNamedByWeight}
use Rattle.strategy_tree.specs.Bridge.{bridge}
use Rattle.front_table.specs.Proven.{IsFrontAt}
use Rattle.alphamu_core.specs.declared.answers.Found.{Found}
use Rattle.alphamu_core.specs.declared.answers.Found.TheVariants.{Exact, Below}
use Rattle.strategy_tree.specs.declared.root_fault.RootFault.TheVariants.{Spent}
use Rattle.alphamu_core.specs.Findings.{IsFound, IsExact}
use Rattle.root_workers.specs.Rounds.{IsPlainRound}
use Rattle.strategy_tree.specs.RootTrees.{IsSpentAt, IsFirstSpentAt}
use Rattle.root_workers.proofs.RootSoFar.{root_next, root_spent, root_here, root_won, root_below, root_none_at, root_with, root_with_at, root_covered_at, root_width, root_filled, root_front, root_some, best_of_all, front_here}
use Rattle.root_workers.proofs.KnownCards.{card_spent}
use Rattle.root_workers.proofs.Founds.{AreFoundSoFar, none_found, found_after}
use Rattle.root_workers.proofs.Stopped.{MakesCuts, founds_more, counted_push, founds_at_stop, founds_of_all}
use Rattle.root_workers.proofs.Stops.{passed_on, stop_front, stop_best}
use Rattle.root_workers.proofs.Seen.{seen_none, seen_more}
use Rattle.root_workers.proofs.best_card.best_over.Goals as goal

pub cards-init : goal.cards-init
cards-init g c =
    let r = c.args.round.now in record {
      pass = c.requires.pass;
      grown = seen_none c.args.pass.now;
      right = c.requires.right;
      founds = subst (λ (fs : List Found). AreFoundSoFar r.node.now r.moves (MakesCuts r) fs) (sym c.new-founds.ensures.items) (none_found r.node.now r.moves (MakesCuts r));
      counted = ap length c.new-founds.ensures.items;
      most = tt;
      searched = inl refl;
      so = root_none_at r.node.now (r.moves - 1) r.weights.now r.nodes (IsPlainRound r) c.choices-cards.result c.new-front.result c.choices-cards.ensures c.new-front.ensures.empty (c.new-front.ensures.width ∙ c.width.ensures.value);
    }

pub after_place-requires-clause-at : goal.after_place-requires-clause-at
after_place-requires-clause-at g c = λ κs outlives.
    let r = c.args.round.now in record {
      card = root_here r.node.now (r.moves - 1) r.weights.now c.cards.invariant.so.0 c.in-Some.ensures.value c.cards.place c.cards.invariant.so.1;
      won = root_won r.node.now (r.moves - 1) r.weights.now c.cards.invariant.so.0 c.in-Some.ensures.value c.cards.place c.cards.invariant.so.1;
      width = c.cards.invariant.so.0.width;
    }

pub overflow_add-place : goal.overflow_add-place
overflow_add-place g c =
    let n = c.args.round.now.node.now in
    omega (arith, root_below n (c.args.round.now.moves - 1) c.args.round.now.weights.now c.cards.invariant.so.0 c.in-Some.ensures.value c.cards.place c.cards.invariant.so.1, length-le_52 (choices n) (IsCardSet-cards_where _))

pub returns-in_err-below-clause-grown : goal.returns-in_err-below-clause-grown
returns-in_err-below-clause-grown g c = seen_more c.args.pass.now c.cards.pass c.after_place.new.pass c.cards.invariant.grown c.after_place.ensures.grown

pub returns-in_err-lead-in-Exact-clause-grown : goal.returns-in_err-lead-in-Exact-clause-grown
returns-in_err-lead-in-Exact-clause-grown g c = seen_more c.args.pass.now c.cards.pass c.after_place.new.pass c.cards.invariant.grown c.after_place.ensures.grown

pub returns-then-is_enough-clause-grown : goal.returns-then-is_enough-clause-grown
returns-then-is_enough-clause-grown g c = seen_more c.args.pass.now c.cards.pass c.after_place.new.pass c.cards.invariant.grown c.after_place.ensures.grown

pub returns-in_err-below-clause-spent : goal.returns-in_err-below-clause-spent
returns-in_err-below-clause-spent g c = λ card e.
    let fault = passed_on c.from_residual.result c.in_err-below.field-0.0 (Spent card) c.from_residual.ensures.1 e in
    let spent = card_spent c.args.round.now c.in-Some.card c.cards.front.vectors c.in_err-below.field-0.0 card fault c.in_err-below.ensures.end in
    subst (λ (named : ℕ). IsSpentAt c.args.round.now.node.now c.args.round.now.moves c.args.round.now.nodes named) (sym spent.0)
    (root_next c.args.round.now.node.now (c.args.round.now.moves - 1) c.args.round.now.weights.now c.cards.invariant.so.0 c.in-Some.ensures.value, spent.1)

pub with_card-requires-clause-width : goal.with_card-requires-clause-width
with_card-requires-clause-width g c =
    let n = c.args.round.now.node.now in
    root_width n (c.args.round.now.moves - 1) c.args.round.now.weights.now c.cards.invariant.so.0 c.in-Some.ensures.value (child n c.in-Some.card) c.in-Exact.won c.requires.round.asked.ours refl
    (subst (λ (f : Found). IsFound (child n c.in-Some.card) (c.args.round.now.moves - 1) c.cards.front.vectors f) c.in-Exact.is c.in_ok-below.ensures.end.0.found)

pub with_card-requires-clause-filled : goal.with_card-requires-clause-filled
with_card-requires-clause-filled g c =
    let n = c.args.round.now.node.now in
    root_filled n (c.args.round.now.moves - 1) c.args.round.now.weights.now c.cards.invariant.so.0 c.in-Some.ensures.value (child n c.in-Some.card) c.in-Exact.won c.width.ensures.a_node refl
    (subst (λ (f : Found). IsFound (child n c.in-Some.card) (c.args.round.now.moves - 1) c.cards.front.vectors f) c.in-Exact.is c.in_ok-below.ensures.end.0.found)

pub returns-then-is_enough-clause-front : goal.returns-then-is_enough-clause-front
returns-then-is_enough-clause-front g c = λ other.
    let n = c.args.round.now.node.now in
    let so = root_with n (c.args.round.now.moves - 1) c.args.round.now.weights.now c.cards.invariant.so.0 c.in-Some.ensures.value (child n c.in-Some.card) c.in-Exact.won c.with_card.new.front c.in_ok-lead-in-Exact.lead refl
    (subst (λ (f : Found). IsFound (child n c.in-Some.card) (c.args.round.now.moves - 1) c.cards.front.vectors f) c.in-Exact.is c.in_ok-below.ensures.end.0.found)
    c.in_ok-below.ensures.end.1 c.in_ok-lead-in-Exact.ensures.leads c.in_ok-lead-in-Exact.ensures.union c.in_ok-lead-in-Exact.ensures.width in
    let moves : suc (c.args.round.now.moves - 1) ≡ c.args.round.now.moves = omega arith in
    subst (λ front. IsFrontAt n c.args.round.now.moves front) (sym c.found.ensures.front)
    (front_here n (c.args.round.now.moves - 1) c.args.round.now.weights.now so c.width.ensures.a_node c.requires.round.asked.goes_on c.requires.round.asked.ours c.args.round.now.moves moves
    (stop_front n (c.args.round.now.moves - 1) c.args.round.now.weights.now so c.width.ensures.a_node c.requires.round.asked.goes_on c.requires.round.asked.ours c.in_ok-lead-in-Exact.lead refl c.args.round.now.previous.now.vectors c.args.round.now.rules.stop c.requires.round.previous c.is_enough.result c.if-is_enough.true
    c.is_enough.ensures.never c.is_enough.ensures.front other))

pub returns-then-is_enough-clause-weight : goal.returns-then-is_enough-clause-weight
returns-then-is_enough-clause-weight g c =
    let n = c.args.round.now.node.now in
    let so = root_with n (c.args.round.now.moves - 1) c.args.round.now.weights.now c.cards.invariant.so.0 c.in-Some.ensures.value (child n c.in-Some.card) c.in-Exact.won c.with_card.new.front c.in_ok-lead-in-Exact.lead refl
    (subst (λ (f : Found). IsFound (child n c.in-Some.card) (c.args.round.now.moves - 1) c.cards.front.vectors f) c.in-Exact.is c.in_ok-below.ensures.end.0.found)
    c.in_ok-below.ensures.end.1 c.in_ok-lead-in-Exact.ensures.leads c.in_ok-lead-in-Exact.ensures.union c.in_ok-lead-in-Exact.ensures.width in
    let moves : suc (c.args.round.now.moves - 1) ≡ c.args.round.now.moves = omega arith in
    let best = stop_best n (c.args.round.now.moves - 1) c.args.round.now.weights.now so c.width.ensures.a_node c.requires.round.asked.goes_on c.requires.round.asked.ours c.in_ok-lead-in-Exact.lead refl c.args.round.now.previous.now.vectors c.args.round.now.rules.stop c.requires.round.previous c.is_enough.result c.if-is_enough.true
    c.is_enough.ensures.never c.is_enough.ensures.front c.is_enough.ensures.weight c.args.round.now.moves moves in
    subst (λ (weight : ℕ). IsBestWeight bridge c.args.round.now.weights.now n c.args.round.now.moves weight) (sym c.found.ensures.weight) best.0

pub returns-then-is_enough-clause-card : goal.returns-then-is_enough-clause-card
returns-then-is_enough-clause-card g c =
    let n = c.args.round.now.node.now in
    let so = root_with n (c.args.round.now.moves - 1) c.args.round.now.weights.now c.cards.invariant.so.0 c.in-Some.ensures.value (child n c.in-Some.card) c.in-Exact.won c.with_card.new.front c.in_ok-lead-in-Exact.lead refl
    (subst (λ (f : Found). IsFound (child n c.in-Some.card) (c.args.round.now.moves - 1) c.cards.front.vectors f) c.in-Exact.is c.in_ok-below.ensures.end.0.found)
    c.in_ok-below.ensures.end.1 c.in_ok-lead-in-Exact.ensures.leads c.in_ok-lead-in-Exact.ensures.union c.in_ok-lead-in-Exact.ensures.width in
    let moves : suc (c.args.round.now.moves - 1) ≡ c.args.round.now.moves = omega arith in
    let best = stop_best n (c.args.round.now.moves - 1) c.args.round.now.weights.now so c.width.ensures.a_node c.requires.round.asked.goes_on c.requires.round.asked.ours c.in_ok-lead-in-Exact.lead refl c.args.round.now.previous.now.vectors c.args.round.now.rules.stop c.requires.round.previous c.is_enough.result c.if-is_enough.true
    c.is_enough.ensures.never c.is_enough.ensures.front c.is_enough.ensures.weight c.args.round.now.moves moves in
    subst (λ (card : ℕ). IsNamedByWeight bridge c.args.round.now.weights.now n c.args.round.now.moves card) (sym c.found.ensures.card) best.1

pub returns-in_err-below-clause-first_spent : goal.returns-in_err-below-clause-first_spent
returns-in_err-below-clause-first_spent g c = λ plain card e.
    let r = c.args.round.now in
    let n = r.node.now in
    let fault = passed_on c.from_residual.result c.in_err-below.field-0.0 (Spent card) c.from_residual.ensures.1 e in
    let spent = card_spent c.args.round.now c.in-Some.card c.cards.front.vectors c.in_err-below.field-0.0 card fault c.in_err-below.ensures.end in
    subst (λ (named : ℕ). IsFirstSpentAt n r.moves r.nodes named) (sym spent.0)
    (root_spent n (r.moves - 1) r.weights.now c.cards.invariant.so.0 c.in-Some.ensures.value plain (child n c.in-Some.card) refl spent.1)

pub with_card-requires-clause-weights : goal.with_card-requires-clause-weights
with_card-requires-clause-weights g c =
    let r = c.args.round.now in
    let n = r.node.now in
    let same = root_width n (r.moves - 1) r.weights.now c.cards.invariant.so.0 c.in-Some.ensures.value (child n c.in-Some.card) c.in-Exact.won c.requires.round.asked.ours refl
    (subst (λ (f : Found). IsFound (child n c.in-Some.card) (r.moves - 1) c.cards.front.vectors f) c.in-Exact.is c.in_ok-below.ensures.end.0.found) in
    c.requires.round.asked.weights ∙ sym (same ∙ c.cards.invariant.so.0.width)

pub returns-in_err-push-in-Exact-clause-grown : goal.returns-in_err-push-in-Exact-clause-grown
returns-in_err-push-in-Exact-clause-grown g c = seen_more c.args.pass.now c.cards.pass c.after_place.new.pass c.cards.invariant.grown c.after_place.ensures.grown

pub returns-in_err-push-in-Below-clause-grown : goal.returns-in_err-push-in-Below-clause-grown
returns-in_err-push-in-Below-clause-grown g c = seen_more c.args.pass.now c.cards.pass c.after_place.new.pass c.cards.invariant.grown c.after_place.ensures.grown

pub returns-then-is_enough-clause-founds : goal.returns-then-is_enough-clause-founds
returns-then-is_enough-clause-founds g c = λ other.
    let r = c.args.round.now in
    let n = r.node.now in
    let so = root_with_at n (r.moves - 1) r.weights.now c.cards.invariant.so.0 c.in-Some.ensures.value (child n c.in-Some.card) c.in-Exact.won c.with_card.new.front c.in_ok-lead-in-Exact.lead c.cards.place c.cards.invariant.so.1 refl
    (subst (λ (f : Found). IsFound (child n c.in-Some.card) (r.moves - 1) c.cards.front.vectors f) c.in-Exact.is c.in_ok-below.ensures.end.0.found)
    c.in_ok-below.ensures.end.1 c.in_ok-lead-in-Exact.ensures.leads c.in_ok-lead-in-Exact.ensures.union c.in_ok-lead-in-Exact.ensures.width in
    let here = found_after n r.moves (MakesCuts r) c.cards.place c.in-Some.card c.cards.front.vectors (Exact c.in-Exact.won)
    (root_here n (r.moves - 1) r.weights.now c.cards.invariant.so.0 c.in-Some.ensures.value c.cards.place c.cards.invariant.so.1)
    (root_won n (r.moves - 1) r.weights.now c.cards.invariant.so.0 c.in-Some.ensures.value c.cards.place c.cards.invariant.so.1)
    (subst (λ (f : Found). IsFound (child n c.in-Some.card) (r.moves - 1) c.cards.front.vectors f) c.in-Exact.is c.in_ok-below.ensures.end.0.found)
    (λ e. let no : Exact c.in-Exact.won ≡ Below = e in cc) in
    let more = founds_more r c.cards.founds.items c.push.new.self.items (Exact c.in-Exact.won) c.cards.place c.in_ok-push-in-Exact.ensures.items c.cards.invariant.founds c.cards.invariant.counted here in
    let counted = counted_push r c.cards.founds.items c.push.new.self.items (Exact c.in-Exact.won) c.cards.place c.in_ok-push-in-Exact.ensures.items c.cards.invariant.counted in
    rw (c.found.ensures.founds)
    (founds_at_stop r so.0 c.push.new.self.items more (counted ∙ so.1) c.is_enough.result c.if-is_enough.true c.is_enough.ensures.never c.is_enough.ensures.front c.requires.round.previous other)

pub cards-preserved-in-Exact : goal.cards-preserved-in-Exact
cards-preserved-in-Exact g c =
    let r = c.args.round.now in
    let n = r.node.now in
    let here = found_after n r.moves (MakesCuts r) c.cards.place c.in-Some.card c.cards.front.vectors (Exact c.in-Exact.won)
    (root_here n (r.moves - 1) r.weights.now c.cards.invariant.so.0 c.in-Some.ensures.value c.cards.place c.cards.invariant.so.1)
    (root_won n (r.moves - 1) r.weights.now c.cards.invariant.so.0 c.in-Some.ensures.value c.cards.place c.cards.invariant.so.1)
    (subst (λ (f : Found). IsFound (child n c.in-Some.card) (r.moves - 1) c.cards.front.vectors f) c.in-Exact.is c.in_ok-below.ensures.end.0.found)
    (λ e. let no : Exact c.in-Exact.won ≡ Below = e in cc) in record {
      pass = c.after_place.ensures.pass;
      grown = seen_more c.args.pass.now c.cards.pass c.after_place.new.pass c.cards.invariant.grown c.after_place.ensures.grown;
      right = c.after_place.ensures.right;
      founds = founds_more r c.cards.founds.items c.push.new.self.items (Exact c.in-Exact.won) c.cards.place c.in_ok-push-in-Exact.ensures.items c.cards.invariant.founds c.cards.invariant.counted here;
      counted = counted_push r c.cards.founds.items c.push.new.self.items (Exact c.in-Exact.won) c.cards.place c.in_ok-push-in-Exact.ensures.items c.cards.invariant.counted;
      most = c.larger-entered.ensures.within r.nodes c.in_ok-below.ensures.end.0.within c.cards.invariant.most;
      searched = inr refl;
      so = root_with_at n (r.moves - 1) r.weights.now c.cards.invariant.so.0 c.in-Some.ensures.value (child n c.in-Some.card) c.in-Exact.won c.with_card.new.front c.in_ok-lead-in-Exact.lead c.cards.place c.cards.invariant.so.1 refl
          (subst (λ (f : Found). IsFound (child n c.in-Some.card) (r.moves - 1) c.cards.front.vectors f) c.in-Exact.is c.in_ok-below.ensures.end.0.found)
          c.in_ok-below.ensures.end.1 c.in_ok-lead-in-Exact.ensures.leads c.in_ok-lead-in-Exact.ensures.union c.in_ok-lead-in-Exact.ensures.width;
    }

pub cards-preserved : goal.cards-preserved
cards-preserved g c =
    let r = c.args.round.now in
    let n = r.node.now in
    let below = subst (λ (f : Found). IsFound (child n c.in-Some.card) (r.moves - 1) c.cards.front.vectors f) c.in-Below.is c.in_ok-below.ensures.end.0.found in
    let cut : MakesCuts r = λ none. subst (λ (f : Found). IsExact f) c.in-Below.is (c.in_ok-below.ensures.end.0.exact none) in
    let here = found_after n r.moves (MakesCuts r) c.cards.place c.in-Some.card c.cards.front.vectors Below
    (root_here n (r.moves - 1) r.weights.now c.cards.invariant.so.0 c.in-Some.ensures.value c.cards.place c.cards.invariant.so.1)
    (root_won n (r.moves - 1) r.weights.now c.cards.invariant.so.0 c.in-Some.ensures.value c.cards.place c.cards.invariant.so.1)
    below (λ _. cut) in record {
      pass = c.after_place.ensures.pass;
      grown = seen_more c.args.pass.now c.cards.pass c.after_place.new.pass c.cards.invariant.grown c.after_place.ensures.grown;
      right = c.after_place.ensures.right;
      founds = founds_more r c.cards.founds.items c.push-in-Below.new.self.items Below c.cards.place c.in_ok-push-in-Below.ensures.items c.cards.invariant.founds c.cards.invariant.counted here;
      counted = counted_push r c.cards.founds.items c.push-in-Below.new.self.items Below c.cards.place c.in_ok-push-in-Below.ensures.items c.cards.invariant.counted;
      most = c.larger-entered.ensures.within r.nodes c.in_ok-below.ensures.end.0.within c.cards.invariant.most;
      searched = inr refl;
      so = root_covered_at n (r.moves - 1) r.weights.now c.cards.invariant.so.0 c.in-Some.ensures.value c.width.ensures.a_node (child n c.in-Some.card) c.cards.place c.cards.invariant.so.1 refl
          below (λ plain. cut plain.cuts);
    }

pub unreachable-requires : goal.unreachable-requires
unreachable-requires g c =
    root_some c.args.round.now.node.now (c.args.round.now.moves - 1) c.args.round.now.weights.now c.cards.invariant.so.0 c.width.ensures.a_node c.requires.round.asked.goes_on c.requires.round.asked.ours c.in_default.ensures.value.0 c.in-None.is

pub returns-clause-front : goal.returns-clause-front
returns-clause-front g c = λ other.
    let n = c.args.round.now.node.now in
    let so = c.cards.invariant.so.0 in
    let moves : suc (c.args.round.now.moves - 1) ≡ c.args.round.now.moves = omega arith in
    subst (λ front. IsFrontAt n c.args.round.now.moves front) (sym c.found-in-Some-best.ensures.front)
    (front_here n (c.args.round.now.moves - 1) c.args.round.now.weights.now so c.width.ensures.a_node c.requires.round.asked.goes_on c.requires.round.asked.ours c.args.round.now.moves moves
    (root_front n (c.args.round.now.moves - 1) c.args.round.now.weights.now so c.width.ensures.a_node c.requires.round.asked.goes_on c.requires.round.asked.ours c.in_default.ensures.value.0))

pub returns-clause-weight : goal.returns-clause-weight
returns-clause-weight g c =
    let n = c.args.round.now.node.now in
    let so = c.cards.invariant.so.0 in
    let moves : suc (c.args.round.now.moves - 1) ≡ c.args.round.now.moves = omega arith in
    let best = best_of_all n (c.args.round.now.moves - 1) c.args.round.now.weights.now so c.width.ensures.a_node c.requires.round.asked.goes_on c.requires.round.asked.ours c.in-Some-best.best c.in-Some-best.is c.in_default.ensures.value.0 in
    subst (λ (weight : ℕ). IsBestWeight bridge c.args.round.now.weights.now n c.args.round.now.moves weight) (sym c.found-in-Some-best.ensures.weight)
    (subst (λ m. IsBestWeight bridge c.args.round.now.weights.now n m c.in-Some-best.best.1) moves best.0)

pub returns-clause-card : goal.returns-clause-card
returns-clause-card g c =
    let n = c.args.round.now.node.now in
    let so = c.cards.invariant.so.0 in
    let moves : suc (c.args.round.now.moves - 1) ≡ c.args.round.now.moves = omega arith in
    let best = best_of_all n (c.args.round.now.moves - 1) c.args.round.now.weights.now so c.width.ensures.a_node c.requires.round.asked.goes_on c.requires.round.asked.ours c.in-Some-best.best c.in-Some-best.is c.in_default.ensures.value.0 in
    subst (λ (card : ℕ). IsNamedByWeight bridge c.args.round.now.weights.now n c.args.round.now.moves card) (sym c.found-in-Some-best.ensures.card)
    (subst (λ m. IsNamedByWeight bridge c.args.round.now.weights.now n m c.in-Some-best.best.0) moves best.1)

pub returns-clause-founds : goal.returns-clause-founds
returns-clause-founds g c = λ other.
    rw (c.found-in-Some-best.ensures.founds)
    (founds_of_all c.args.round.now c.cards.invariant.so.0 c.cards.founds.items c.cards.invariant.founds (c.cards.invariant.counted ∙ c.cards.invariant.so.1) c.in_default.ensures.value.0)

pub unwrap-requires : goal.unwrap-requires
unwrap-requires g c = elim c.cards.invariant.searched [
  | inl none ↦ absurd (let no = sym none ∙ c.in-Some-best.is in cc)
  | inr some ↦ some
]

pub returns-then-is_enough-clause-within : goal.returns-then-is_enough-clause-within
returns-then-is_enough-clause-within g c =
    rw (c.found.ensures.most) (c.larger-entered.ensures.within c.args.round.now.nodes c.in_ok-below.ensures.end.0.within c.cards.invariant.most)
