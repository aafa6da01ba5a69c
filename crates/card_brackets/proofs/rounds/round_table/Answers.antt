use Rattle.std.proofs.Common.{◌≡◌, ◌∙◌, not, true, ◌+◌, ◌≤◌, List, ℕ, [], Some, Err, ap, take, length, refl, sym, subst, rules}
use Rattle.std.specs.List.{AllZip}
use Rattle.std.proofs.lemmas.Bool.{and_parts, not-true}
use Rattle.std.proofs.lemmas.List.{take_all}
use Rattle.trick_rules.specs.Nodes.{choices}
use Rattle.strategy_tree.proofs.CardLists.{Contains-from_has_card}
use Rattle.strategy_tree.specs.RootTrees.{IsSpentAt, IsFirstSpentAt}
use Rattle.strategy_tree.specs.declared.root_fault.RootFault.TheVariants.{Spent}
use Rattle.root_workers.proofs.Stops.{passed_on}
use Rattle.card_brackets.specs.declared.rows.CardRow.{CardRow}
use Rattle.card_brackets.specs.Rows.{IsRow, is_final, are_final}
use Rattle.fusion_base.proofs.Entries.{within, entry_card, entry_vector}
use Rattle.card_brackets.proofs.Fitting.{small_more, small_all, first_too_large}
use Rattle.card_brackets.proofs.Sampled.{entry_choice, all_entries}
use Rattle.card_brackets.proofs.Leading.{finals_more, final_if_not_open, Leads, RowsSoFar, rows_none, rows_more, named_of, some_leads}
use Rattle.card_brackets.proofs.rounds.round_table.Goals as goal

pub row_after-requires-clause-card : goal.row_after-requires-clause-card
row_after-requires-clause-card c =
    entry_choice c.args.question.now.node.now c.args.believed.now c.loop-entry.entry-index c.entry-item.result c.requires.believed c.loop-entry-test.true c.entry-item.is

pub row_after-requires-clause-believed : goal.row_after-requires-clause-believed
row_after-requires-clause-believed c =
    entry_vector c.args.question.now.node.now c.args.believed.now c.loop-entry.entry-index c.entry-item.result c.requires.believed c.loop-entry-test.true c.entry-item.is

pub loop-entry-preserved : goal.loop-entry-preserved
loop-entry-preserved c =
    let n = c.args.question.now.node.now in
    let ws = c.args.question.now.weights.now in
    let moves = c.args.question.now.moves in
    let believed = c.args.believed.now in
    let place = c.loop-entry.entry-index in
    let entry = c.entry-item.result in
    let is = c.requires.believed in
    record {
      so =
          subst (λ rows. RowsSoFar n ws moves (place + 1) rows (Some c.leader.result)) (sym c.in_ok-push.ensures.items)
          (rows_more n ws moves place entry.card c.in_ok-row.row c.leader.result c.loop-entry.rows.items c.loop-entry.best
          (within n believed place entry is c.loop-entry-test.true c.entry-item.is) (entry_card n believed place entry is c.loop-entry-test.true c.entry-item.is)
          c.in_ok-row.ensures.row c.loop-entry.invariant.so c.leader.ensures);
      finals = λ wanted.
          subst (λ (rows : List CardRow). are_final rows ≡ true) (sym c.in_ok-push.ensures.items)
          (finals_more c.loop-entry.rows.items c.in_ok-row.row (c.loop-entry.invariant.finals wanted) (final_if_not_open (is_final c.in_ok-row.row) c.args.only_final (sym c.ends.ensures ∙ c.if-ends.false) wanted));
      small = λ plain.
          small_more n moves c.args.question.now.options.now.nodes place entry.card
          (within n believed place entry is c.loop-entry-test.true c.entry-item.is) (entry_card n believed place entry is c.loop-entry-test.true c.entry-item.is)
          (c.loop-entry.invariant.small plain) (c.in_ok-row.ensures.fits plain);
      pass = c.row_after.ensures.pass;
    }

pub returns-then-ends-clause-end : goal.returns-then-ends-clause-end
returns-then-ends-clause-end c =
    let n = c.args.question.now.node.now in
    let entry = c.entry-item.result in
    let choice = entry_choice n c.args.believed.now c.loop-entry.entry-index entry c.requires.believed c.loop-entry-test.true c.entry-item.is in
    let both = and_parts c.args.only_final (not (is_final c.in_ok-row.row)) (sym c.ends.ensures ∙ c.if-ends.true) in
    (both.0, (entry.card, c.in_ok-row.row, Contains-from_has_card (choices n) entry.card choice, c.in_ok-row.ensures.row, not-true (is_final c.in_ok-row.row) both.1))

pub returns-clause-end : goal.returns-clause-end
returns-clause-end c =
    let n = c.args.question.now.node.now in
    let ws = c.args.question.now.weights.now in
    let moves = c.args.question.now.moves in
    let place = c.loop-entry.entry-index in
    let so = c.loop-entry.invariant.so in
    let past : length c.args.believed.now ≤ place = search rules in
    let all : take place (choices n) ≡ choices n = take_all place (choices n) (all_entries n c.args.believed.now place c.requires.believed past) in
    let leads = subst (λ best. Leads n ws moves best (take place (choices n))) c.in-Some.is so.leads in (
      record {
        moves_are = refl;
        rows = subst (λ cards. AllZip (IsRow n ws moves) cards c.loop-entry.rows.items) all so.rows_are;
        named = named_of n ws moves c.in-Some.best c.requires.question.some_moves c.width-width.ensures.a_node c.requires.question.goes_on c.requires.question.ours (subst (λ tried. Leads n ws moves (Some c.in-Some.best) tried) all leads);
      },
      c.loop-entry.invariant.finals,
    )

pub unreachable-requires : goal.unreachable-requires
unreachable-requires c =
    let n = c.args.question.now.node.now in
    let ws = c.args.question.now.weights.now in
    let moves = c.args.question.now.moves in
    let place = c.loop-entry.entry-index in
    let past : length c.args.believed.now ≤ place = search rules in
    let all : take place (choices n) ≡ choices n = take_all place (choices n) (all_entries n c.args.believed.now place c.requires.believed past) in
    let leads = subst (λ best. Leads n ws moves best (take place (choices n))) c.in-None.is c.loop-entry.invariant.so.leads in
    some_leads n ws moves c.width-width.ensures.a_node c.requires.question.goes_on (subst (λ tried. tried ≡ []) all leads)

pub returns-clause-fits : goal.returns-clause-fits
returns-clause-fits c =
    let n = c.args.question.now.node.now in
    let place = c.loop-entry.entry-index in
    let past : length c.args.believed.now ≤ place = search rules in
    let all : take place (choices n) ≡ choices n = take_all place (choices n) (all_entries n c.args.believed.now place c.requires.believed past) in
    λ plain. small_all n c.args.question.now.moves c.args.question.now.options.now.nodes place all (c.loop-entry.invariant.small plain)

pub returns-in_err-row-clause-spent : goal.returns-in_err-row-clause-spent
returns-in_err-row-clause-spent c = λ card e.
    let n = c.args.question.now.node.now in
    let moves = c.args.question.now.moves in
    let nodes = c.args.question.now.options.now.nodes in
    let entry = c.entry-item.result in
    let choice = entry_choice n c.args.believed.now c.loop-entry.entry-index entry c.requires.believed c.loop-entry-test.true c.entry-item.is in
    let (same, large) = c.in_err-row.ensures.spent card (ap Err (passed_on c.from_residual.result c.in_err-row.field-0.0 (Spent card) c.from_residual.ensures.1 e)) in
    subst (IsSpentAt n moves nodes) (sym same) (Contains-from_has_card (choices n) entry.card choice, large)

pub returns-in_err-row-clause-first : goal.returns-in_err-row-clause-first
returns-in_err-row-clause-first c = λ plain card e.
    let n = c.args.question.now.node.now in
    let moves = c.args.question.now.moves in
    let nodes = c.args.question.now.options.now.nodes in
    let believed = c.args.believed.now in
    let place = c.loop-entry.entry-index in
    let entry = c.entry-item.result in
    let is = c.requires.believed in
    let (same, large) = c.in_err-row.ensures.spent card (ap Err (passed_on c.from_residual.result c.in_err-row.field-0.0 (Spent card) c.from_residual.ensures.1 e)) in
    subst (IsFirstSpentAt n moves nodes) (sym same)
    (first_too_large n moves nodes place entry.card (within n believed place entry is c.loop-entry-test.true c.entry-item.is) (entry_card n believed place entry is c.loop-entry-test.true c.entry-item.is)
    (c.loop-entry.invariant.small plain) large)
