use Rattle.std.proofs.Common.{◌≡◌, ◌+◌, ◌<◌, ◌∙◌, sym, ap, subst, length, get_or, arith}
use Rattle.std.proofs.lemmas.Option.{slice_get-get_or}
use Rattle.card_sets.specs.SetWords.{has_card}
use Rattle.trick_rules.specs.Play.{CanPlay, after_card}
use Rattle.trick_rules.specs.Nodes.{NodeValue, is_legal}
use Rattle.trick_rules.proofs.NodeLemmas.{choice_can_play, child-IsNode}
use Rattle.trick_rules.proofs.KeptLayouts.{kept_upto, mask_upto, kept_set, kept_keep, mask_set, mask_keep, kept_all, mask_all}
use Rattle.trick_rules.proofs.node.Node.child.Goals as goal
use Rattle.trick_rules.proofs.node.Node.child.Goals.{then-has+in_ok-push, else-has}

pub loop-place-preserved : goal.loop-place-preserved
loop-place-preserved c =
    let n : NodeValue = c.args.self.now in
    let card = c.args.card in
    let place = c.loop-place.place in
    let x = c.left-left.result in
    let low : place < length n.lefts = omega (arith, c.width-place-end.ensures.value, c.loop-place-test.true) in
    let here : x ≡ get_or n.lefts place x = (let at = slice_get-get_or n.lefts place x low in cc) in
    let legal : is_legal n.position card x ≡ c.has.result =
    sym (c.has.ensures.value ∙ ap (λ cards. has_card cards card) c.legal_in.ensures ∙ ap (λ m. is_legal m.position card x) c.self.view_is) in
    elim c.if-has.branch as (λ _. record { kept : c.if-has.lefts.items ≡ kept_upto (is_legal n.position card) card n.lefts (place + 1); mask : c.if-has.mask ≡ mask_upto (is_legal n.position card) n.lefts (place + 1) }) [
      | then-has+in_ok-push w ↦
          (let yes' = legal ∙ w.if-has.true in
          record {
            kept = ap (λ v. v.items) w.lefts-is ∙ w.in_ok-push.ensures.items
                ∙ rw (w.without.ensures.value, c.loop-place.invariant.kept) (kept_set (is_legal n.position card) card n.lefts place x low here yes');
            mask = w.mask-is ∙ w.set-mask.ensures ∙ rw c.loop-place.invariant.mask (mask_set (is_legal n.position card) card n.lefts place x low here yes');
          })
      | else-has w ↦
          (let no' = legal ∙ w.if-has.false in
          record {
            kept = ap (λ v. v.items) w.lefts-is ∙ c.loop-place.invariant.kept ∙ kept_keep (is_legal n.position card) card n.lefts place x low here no';
            mask = w.mask-is ∙ c.loop-place.invariant.mask ∙ mask_keep (is_legal n.position card) card n.lefts place x low here no';
          })
    ]

pub play-requires : goal.play-requires
play-requires c =
    subst (λ (n : NodeValue). CanPlay n.position c.args.card) (sym c.self.view_is) (choice_can_play c.args.self.now c.args.card c.width.ensures.a_node c.requires)

pub invariant_of-node : goal.invariant_of-node
invariant_of-node c =
    let n : NodeValue = c.args.self.now in
    let card = c.args.card in
    let table = c.play.ensures.value ∙ ap (λ (m : NodeValue). after_card m.position card) c.self.view_is in
    let lefts = c.loop-place.invariant.kept ∙ kept_all (is_legal n.position card) card n.lefts c.loop-place.place (omega (arith, c.width-place-end.ensures.value, c.loop-place-test.false)) in
    rw (table, lefts) (child-IsNode n card c.width.ensures.a_node c.requires)

pub returns-clause-mask : goal.returns-clause-mask
returns-clause-mask c =
    let n : NodeValue = c.args.self.now in
    c.loop-place.invariant.mask ∙ mask_all (is_legal n.position c.args.card) n.lefts c.loop-place.place (omega (arith, c.width-place-end.ensures.value, c.loop-place-test.false))
