use Rattle.std.proofs.Common.{◌≡◌, ◌+◌, ◌≤◌, ◌∙◌, true, List, ℕ, sym, ap, subst, length, map, filter, arith}
use Rattle.card_sets.specs.SetWords.{has_card}
use Rattle.trick_rules.specs.Play.{CanPlay, take_out}
use Rattle.trick_rules.specs.Nodes.{NodeValue, IsNode, is_legal, choices}
use Rattle.trick_rules.proofs.PlayLaws.{a_choice_can_be_played, a_choice_leads_to_a_node}
use Rattle.trick_rules.proofs.KeptLayouts.{kept_upto, kept_set, kept_keep, kept_all}
use Rattle.strategy_check.proofs.inline_node.InlineNode.child.Goals as goal
use Rattle.strategy_check.proofs.inline_node.InlineNode.child.Goals.{then-has, else-has}

pub loop-left-preserved : goal.loop-left-preserved
loop-left-preserved c =
    let t = c.self.inside.position in
    let card = c.args.card in
    let xs = c.as_slice-left-items.result.now in
    let i = c.loop-left.left-index in
    let x = c.left-item.result in
    let low = c.loop-left-test.true in
    let here = c.left-item.is in
    let legal : is_legal t card x ≡ c.has.result = sym (c.has.ensures.value ∙ ap (λ cards. has_card cards card) c.legal_in.ensures) in
    elim c.if-has.branch as (λ _. record { kept : c.if-has.lefts.items ≡ kept_upto (is_legal t card) card xs (i + 1); room : length c.if-has.lefts.items ≤ i + 1 }) [
      | then-has w ↦
          (let yes' = legal ∙ w.if-has.true in
          record {
            kept = ap (λ v. v.items) w.lefts-is ∙ w.push.ensures.items ∙ rw (w.without.ensures.value, c.loop-left.invariant.kept) (kept_set (is_legal t card) card xs i x low here yes');
            room = omega (arith, ap (λ v. length v.items) w.lefts-is, w.push.ensures.len, c.loop-left.invariant.room);
          })
      | else-has w ↦
          (let no' = legal ∙ w.if-has.false in
          record {
            kept = ap (λ v. v.items) w.lefts-is ∙ c.loop-left.invariant.kept ∙ kept_keep (is_legal t card) card xs i x low here no';
            room = omega (arith, ap (λ v. length v.items) w.lefts-is, c.loop-left.invariant.room);
          })
    ]

pub play-requires : goal.play-requires
play-requires c =
    subst (λ (n : NodeValue). CanPlay n.position c.args.card) (sym c.self.view_is)
    (a_choice_can_be_played c.args.self.now c.args.card (subst (λ n. IsNode n) c.self.view_is c.self.invariant) c.requires)

pub invariant_of-result : goal.invariant_of-result
invariant_of-result c =
    let t = c.self.inside.position in
    let card = c.args.card in
    let here : NodeValue = record { position = t; lefts = c.self.inside.lefts.items } in
    let lefts = c.loop-left.invariant.kept ∙ kept_all (is_legal t card) card c.as_slice-left-items.result.now c.loop-left.left-index c.loop-left-test.false
    ∙ ap (λ (ys : List (List ℕ)). map (take_out card) (filter (is_legal t card) ys)) c.as_slice-left-items.ensures.value in
    rw (c.play.ensures.value, lefts) (a_choice_leads_to_a_node here card c.self.invariant (subst (λ n. has_card (choices n) card ≡ true) (sym c.self.view_is) c.requires))
