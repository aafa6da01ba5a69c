use Rattle.std.proofs.Common.{◌≡◌, ◌≤◌, ◌+◌, ◌∙◌, ◌++◌, ◌∷◌, [], List, ℕ, true, replicate, length, take, take_all, refl, sym, ap, subst, rules, arith}
use Rattle.std.proofs.lemmas.List.{length-replicate}
use Rattle.win_vectors.specs.Fronts.{Vector}
use Rattle.trick_rules.specs.Nodes.{choices}
use Rattle.assured_fronts.specs.AfterReplies.{IsAfterReply}
use Rattle.card_brackets.proofs.HeavyVectors.{QuickSoFar, pair_at, as_many, quick_none, quick_more, quick_all, mask_width, child_width, filled}
use Rattle.card_brackets.proofs.heaviest.quick_vector.Goals as goal

pub loop-after-preserved : goal.loop-after-preserved
loop-after-preserved c =
    let n = c.args.node.now in
    let place = c.loop-after.after-index in
    let p = pair_at (IsAfterReply n c.args.moves) (choices n) c.args.replies.now place c.after-item.result c.requires.replies c.loop-after-test.true c.after-item.is in
    subst (λ (cards : List ℕ). QuickSoFar n c.args.moves cards c.in_ok-quick.quick) (sym p.1)
    (quick_more n c.args.moves c.width-width.ensures.a_node p.0 p.2 c.after-item.result p.3 (take place (choices n)) c.loop-after.quick c.in_ok-quick.quick c.loop-after.invariant c.in_ok-quick.ensures.met (c.in_ok-quick.ensures.width ∙ c.requires.weights))

pub returns-clause-assured : goal.returns-clause-assured
returns-clause-assured c =
    let n = c.args.node.now in
    let past : length c.args.replies.now ≤ c.loop-after.after-index = search rules in
    let all : take c.loop-after.after-index (choices n) ≡ choices n = take_all c.loop-after.after-index (choices n) (omega (arith, past, as_many (IsAfterReply n c.args.moves) (choices n) c.args.replies.now c.requires.replies)) in
    quick_all n c.args.moves c.width-width.ensures.a_node c.requires.waits c.loop-after.quick (subst (λ (cards : List ℕ). QuickSoFar n c.args.moves cards c.loop-after.quick) all c.loop-after.invariant)

pub loop-after-init : goal.loop-after-init
loop-after-init c =
    let all : c.all-quick.result ≡ replicate (length c.args.node.now.lefts) true = c.all-quick.ensures ∙ ap (λ (w : ℕ). replicate w true) (c.width.ensures.value ∙ c.requires.weights) in
    quick_none c.args.node.now c.args.moves c.all-quick.result all (ap (λ (v : Vector). length v) all ∙ length-replicate (length c.args.node.now.lefts) true)

pub best_meet-requires : goal.best_meet-requires
best_meet-requires c =
    let n = c.args.node.now in
    let p = pair_at (IsAfterReply n c.args.moves) (choices n) c.args.replies.now c.loop-after.after-index c.after-item.result c.requires.replies c.loop-after-test.true c.after-item.is in
    record {
      vector = c.loop-after.invariant.wide ∙ sym c.requires.weights;
      mask = mask_width n c.args.moves c.width-width.ensures.a_node p.0 p.2 c.after-item.result p.3 ∙ sym c.requires.weights;
      child = child_width n c.args.moves c.width-width.ensures.a_node p.0 p.2 c.after-item.result p.3;
      filled = filled n c.args.moves c.width-width.ensures.a_node p.0 p.2 c.after-item.result p.3;
    }
