use Rattle.std.proofs.Common.{◌+◌, take, sym, subst, refl}
use Rattle.card_brackets.specs.declared.rows.CardRow.{CardRow}
use Rattle.exact_cards.proofs.FirstRows.{IsFirstSafest, safest_first, safest_taken, safest_kept, safest_all}
use Rattle.exact_cards.proofs.safest.safest_card.Goals as goal
use Rattle.exact_cards.proofs.safest.safest_card.Goals.{then-row-best, else-row-best}

pub loop-place-init : goal.loop-place-init
loop-place-init c = safest_first c.args.rows.now c.index-rows-0.result c.requires c.index-rows-0.is

pub loop-place-preserved : goal.loop-place-preserved
loop-place-preserved c =
    let rows = c.args.rows.now in
    let row = c.index-rows-place.result in
    let place = c.loop-place.place in
    let best = c.loop-place.best in
    let so = c.loop-place.invariant in
    elim c.if-row-best.branch [
      | then-row-best w ↦ subst (λ (r : CardRow). IsFirstSafest (take (place + 1) rows) r) (sym w.best-is) (safest_taken rows row place best c.loop-place-test.true c.index-rows-place.is so w.if-row-best.true)
      | else-row-best w ↦ subst (λ (r : CardRow). IsFirstSafest (take (place + 1) rows) r) (sym w.best-is) (safest_kept rows row place best c.loop-place-test.true c.index-rows-place.is so w.if-row-best.false)
    ]

pub returns : goal.returns
returns c = (c.loop-place.best, safest_all c.args.rows.now c.loop-place.place c.loop-place.best c.loop-place-test.false c.loop-place.invariant, refl)
