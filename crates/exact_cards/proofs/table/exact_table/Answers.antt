use Rattle.std.proofs.Common.{◌≡◌, ◌∙◌, ◌+◌, ◌<◌, ◌++◌, ◌∷◌, [], List, length, sym, ap, subst}
use Rattle.std.specs.List.{AllZip}
use Rattle.alphamu_core.specs.declared.budget.Entered.{Entered}
use Rattle.fusion_base.proofs.Entries.{within, entry_card, entry_vector}
use Rattle.card_brackets.specs.declared.rows.CardRow.{CardRow}
use Rattle.card_brackets.proofs.Sampled.{entry_choice, all_entries}
use Rattle.exact_cards.specs.ExactRows.{IsFinalUnlessSpent, IsSafestCard}
use Rattle.exact_cards.proofs.SideBySide.{AreFirstRows, zip_more, rows_more, rows_all, some_row}
use Rattle.exact_cards.proofs.table.exact_table.Goals as goal

pub row_after-requires-clause-card : goal.row_after-requires-clause-card
row_after-requires-clause-card c =
    entry_choice c.args.node.now c.deref-entry-items.result.now c.loop-entry.entry-index c.entry-item.result (c.deref-entry-items.ensures.value ∙ c.in_ok-believed.ensures) c.loop-entry-test.true c.entry-item.is

pub row_after-requires-clause-believed : goal.row_after-requires-clause-believed
row_after-requires-clause-believed c =
    entry_vector c.args.node.now c.deref-entry-items.result.now c.loop-entry.entry-index c.entry-item.result (c.deref-entry-items.ensures.value ∙ c.in_ok-believed.ensures) c.loop-entry-test.true c.entry-item.is

pub loop-entry-preserved : goal.loop-entry-preserved
loop-entry-preserved c =
    let n = c.args.node.now in
    let weights = c.args.weights.now in
    let believed = c.deref-entry-items.result.now in
    let place = c.loop-entry.entry-index in
    let entry = c.entry-item.result in
    let is = c.deref-entry-items.ensures.value ∙ c.in_ok-believed.ensures in
    let found = c.in_ok-found.found in
    let rows = c.loop-entry.rows.items in
    let entered = c.loop-entry.entered.items in
    record {
      rows =
          subst (λ (later : List CardRow). AreFirstRows n weights (place + 1) later) (sym c.in_ok-push.ensures.items)
          (rows_more n weights place entry.card found.row rows (within n believed place entry is c.loop-entry-test.true c.entry-item.is)
          (entry_card n believed place entry is c.loop-entry-test.true c.entry-item.is) c.in_ok-found.ensures.row c.loop-entry.invariant.rows);
      entered =
          subst (λ (later : List Entered). AllZip (IsFinalUnlessSpent c.args.nodes) c.push.new.self.items later) (sym c.in_ok-push-2.ensures.items)
          (subst (λ (later : List CardRow). AllZip (IsFinalUnlessSpent c.args.nodes) later (entered ++ found.entered ∷ [])) (sym c.in_ok-push.ensures.items)
          (zip_more (IsFinalUnlessSpent c.args.nodes) rows entered found.row found.entered c.loop-entry.invariant.entered c.in_ok-found.ensures.spent));
      memo = c.row_after.ensures.memo ∙ c.loop-entry.invariant.memo;
    }

pub safest_card-named-requires : goal.safest_card-named-requires
safest_card-named-requires c =
    let n = c.args.node.now in
    let is = c.deref-entry-items.ensures.value ∙ c.in_ok-believed.ensures in
    let past = all_entries n c.deref-entry-items.result.now c.loop-entry.entry-index is c.loop-entry-test.false in
    let all = rows_all n c.args.weights.now c.loop-entry.entry-index c.loop-entry.rows.items past c.loop-entry.invariant.rows in
    subst (λ (rows : List CardRow). 0 < length rows) (sym c.as_slice.ensures.value) (some_row n c.args.weights.now c.loop-entry.rows.items c.width-width.ensures.a_node c.requires.goes_on all)

pub returns-clause-table : goal.returns-clause-table
returns-clause-table c =
    let n = c.args.node.now in
    let is = c.deref-entry-items.ensures.value ∙ c.in_ok-believed.ensures in
    let past = all_entries n c.deref-entry-items.result.now c.loop-entry.entry-index is c.loop-entry-test.false in
    record {
      rows = rows_all n c.args.weights.now c.loop-entry.entry-index c.loop-entry.rows.items past c.loop-entry.invariant.rows;
      named = subst (λ (rows : List CardRow). IsSafestCard rows c.safest_card-named.result) c.as_slice.ensures.value c.safest_card-named.ensures;
    }
