use Rattle.std.proofs.Common.{◌≡◌, ◌<◌, ◌∙◌, ◌+◌, ℕ, true, false, [], List, length, replicate, get_or, sym, ap, subst, ⊎_elim, arith}
use Rattle.std.proofs.lemmas.Bool.{false≢true, cases_Bool}
use Rattle.card_sets.specs.SetWords.{has_card}
use Rattle.win_vectors.specs.Fronts.{Vector}
use Rattle.trick_rules.specs.Play.{legal_in}
use Rattle.set_nodes.specs.SetNodes.{legal_at}
use Rattle.set_nodes.proofs.Legal.{AreLegalBefore, length-legal_at, legal_there, none_before, one_more_place, passed_over, all_found}
use Rattle.set_nodes.proofs.Places.{HasOne}
use Rattle.set_search.proofs.Marked.{one_of_many, got_bit}
use Rattle.set_search.proofs.legal_sets.legal_sets.Goals as goal
use Rattle.set_search.proofs.legal_sets.legal_sets.Goals.{then-get, else-get}

pub loop-place-init : goal.loop-place-init
loop-place-init c = λ card low. none_before c.args.set (legal_at c.args.layouts.now c.args.position.now card) _
    (one_of_many 52 card c.none-legal.result low ∙ c.none-legal.ensures ∙ ap (λ (w : ℕ). replicate w false) c.width.ensures.value)

pub loop-place-preserved : goal.loop-place-preserved
loop-place-preserved c = λ card low.
    let L = c.args.layouts.now in
    let P = c.args.position.now in
    let S = c.args.set in
    let place = c.loop-place.place in
    let old = c.loop-place.invariant card low in
    let within : place < length S = omega (arith, c.loop-place-test.true, c.width-place-end.ensures.value) in
    let bit : get_or S place false ≡ c.get.result = got_bit S place c.get.result c.get.ensures in
    elim c.if-get.branch as (λ _. AreLegalBefore S (legal_at L P card) (get_or c.if-get.legal card []) (place + 1)) [
      | then-get w ↦
          (let here : HasOne S place = bit ∙ w.if-get.true in
          let there : has_card w.legal_in-cards.result card ≡ get_or (legal_at L P card) place false =
          ap (λ (cards : List ℕ). has_card cards card) (w.legal_in-cards.ensures ∙ ap (λ (left : List ℕ). legal_in (record { position = P; left = left })) w.left_at.ensures) ∙ sym (legal_there L P card place [] (omega (arith, within, c.requires))) in
          let now : get_or c.if-get.legal card [] ≡ get_or w.mark.new.legal card [] = ap (λ (vs : List Vector). get_or vs card []) w.legal-is in
          subst (λ (v : Vector). AreLegalBefore S (legal_at L P card) v (place + 1)) (sym now)
          (⊎_elim
          (λ (yes : has_card w.legal_in-cards.result card ≡ true).
          subst (λ (v : Vector). AreLegalBefore S (legal_at L P card) v (place + 1)) (sym (w.mark.ensures.marked card yes))
          (one_more_place S (legal_at L P card) (get_or c.loop-place.legal card []) place within here (sym there ∙ yes) old))
          (λ (no : has_card w.legal_in-cards.result card ≡ false).
          subst (λ (v : Vector). AreLegalBefore S (legal_at L P card) v (place + 1)) (sym (w.mark.ensures.others card no))
          (passed_over S (legal_at L P card) (get_or c.loop-place.legal card []) place (λ h l. false≢true (sym no ∙ there ∙ l)) old))
          (cases_Bool (has_card w.legal_in-cards.result card))))
      | else-get w ↦
          (let out : HasOne S place → ⊥ = λ h. false≢true (sym w.if-get.false ∙ sym bit ∙ h) in
          let now : get_or c.if-get.legal card [] ≡ get_or c.loop-place.legal card [] = ap (λ (vs : List Vector). get_or vs card []) w.legal-is in
          subst (λ (v : Vector). AreLegalBefore S (legal_at L P card) v (place + 1)) (sym now)
          (passed_over S (legal_at L P card) (get_or c.loop-place.legal card []) place (λ h l. out h) old))
    ]

pub returns : goal.returns
returns c = λ card low.
    let L = c.args.layouts.now in
    let P = c.args.position.now in
    all_found c.args.set (legal_at L P card) (get_or c.loop-place.legal card []) c.loop-place.place (c.requires ∙ sym (length-legal_at L P card))
    (omega (arith, c.width-place-end.ensures.value, c.loop-place-test.false)) (c.loop-place.invariant card low)
