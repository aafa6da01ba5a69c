use Rattle.std.proofs.Common.{◌≡◌, ◌≤◌, ◌+◌, ◌∙◌, ◌++◌, ◌∷◌, [], List, ℕ, true, replicate, length, take, take_all, refl, sym, ap, subst, rules, arith}
use Rattle.win_vectors.specs.Fronts.{Vector, IsReduced}
use Rattle.trick_rules.specs.Nodes.{choices}
use Rattle.assured_fronts.specs.AfterReplies.{IsAfterReply}
use Rattle.card_brackets.proofs.HeavyVectors.{HeavySoFar, pair_at, as_many, heavy_none, heavy_more, heavy_all, mask_width, child_width}
use Rattle.card_brackets.proofs.heaviest.heavy_assured.Goals as goal

pub loop-after-preserved : goal.loop-after-preserved
loop-after-preserved c =
    let n = c.args.node.now in
    let place = c.loop-after.after-index in
    let p = pair_at (IsAfterReply n c.args.moves) (choices n) c.args.replies.now place c.after-item.result c.requires.replies c.loop-after-test.true c.after-item.is in
    subst (λ (cards : List ℕ). HeavySoFar n c.args.moves c.args.weights.now c.args.floor cards c.in_ok-kept.kept) (sym p.1)
    (heavy_more n c.args.moves c.width-width.ensures.a_node p.0 p.2 c.after-item.result p.3 c.args.weights.now c.args.floor (take place (choices n)) c.loop-after.kept c.in_ok-kept.kept c.loop-after.invariant c.in_ok-kept.ensures.heavy c.in_ok-kept.ensures.width)

pub returns-clause-heavy : goal.returns-clause-heavy
returns-clause-heavy c =
    let n = c.args.node.now in
    let past : length c.args.replies.now ≤ c.loop-after.after-index = search rules in
    let all : take c.loop-after.after-index (choices n) ≡ choices n = take_all c.loop-after.after-index (choices n) (omega (arith, past, as_many (IsAfterReply n c.args.moves) (choices n) c.args.replies.now c.requires.replies)) in
    heavy_all n c.args.moves c.width-width.ensures.a_node c.requires.waits c.args.weights.now c.args.floor c.loop-after.kept
    (subst (λ (cards : List ℕ). HeavySoFar n c.args.moves c.args.weights.now c.args.floor cards c.loop-after.kept) all c.loop-after.invariant)

pub loop-after-init : goal.loop-after-init
loop-after-init c =
    let ones : c.all.result ≡ replicate (length c.args.node.now.lefts) true = c.all.ensures ∙ ap (λ (w : ℕ). replicate w true) (c.width-2.ensures.value ∙ c.requires.weights) in
    heavy_none c.args.node.now c.args.moves c.args.weights.now c.args.floor c.insert.new.self
    (subst (λ (old : List Vector). IsReduced (replicate (length c.args.node.now.lefts) true ∷ old) c.insert.new.self.vectors) c.new-kept.ensures.empty
    (subst (λ (v : Vector). IsReduced (v ∷ c.new-kept.result.vectors) c.insert.new.self.vectors) ones c.in_ok-insert.ensures.ok))
    (c.in_ok-insert.ensures.width ∙ c.new-kept.ensures.width ∙ c.width.ensures.value ∙ c.requires.weights)

pub heavy_meets-requires : goal.heavy_meets-requires
heavy_meets-requires c =
    let n = c.args.node.now in
    let p = pair_at (IsAfterReply n c.args.moves) (choices n) c.args.replies.now c.loop-after.after-index c.after-item.result c.requires.replies c.loop-after-test.true c.after-item.is in
    record {
      mask = mask_width n c.args.moves c.width-width.ensures.a_node p.0 p.2 c.after-item.result p.3 ∙ sym c.loop-after.invariant.wide;
      child = child_width n c.args.moves c.width-width.ensures.a_node p.0 p.2 c.after-item.result p.3;
      weights = c.requires.weights ∙ sym c.loop-after.invariant.wide;
    }
