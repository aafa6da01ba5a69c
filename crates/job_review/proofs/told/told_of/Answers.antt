use Rattle.std.proofs.Common.{Err, ap, sym, refl, rules}
use Rattle.strategy_tree.specs.declared.root_fault.RootFault.TheVariants.{Spent}
use Rattle.am_answer.proofs.Passed.{passed_on}
use Rattle.job_review.proofs.Rows.{row_of_choice, row_of_named}
use Rattle.job_review.proofs.told.told_of.Goals as goal

pub returns-in_err-table-clause-spent : goal.returns-in_err-table-clause-spent
returns-in_err-table-clause-spent c = λ card e.
    c.in_err-table.ensures.spent card (ap Err (passed_on c.from_residual.result c.in_err-table.field-0.0 (Spent card) c.from_residual.ensures.1 e))

pub row_of-row-requires : goal.row_of-row-requires
row_of-row-requires c =
    let q = c.args.question.now in
    row_of_choice q.node.now q.weights.now q.moves c.in_ok-table.table c.args.decision.now.played.card c.in_ok-table.ensures.table c.requires.legal

pub row_of-named-requires : goal.row_of-named-requires
row_of-named-requires c =
    let q = c.args.question.now in
    row_of_named q.node.now q.weights.now q.moves c.in_ok-table.table c.in_ok-table.ensures.table

pub returns-clause-told : goal.returns-clause-told
returns-clause-told c =
    let q = c.args.question.now in
    record {
      number = refl;
      trick = c.trick_of.ensures;
      seat = c.compass.ensures;
      card = refl;
      at_node = record {
        table = c.in_ok-table.table;
        played = c.row_of-row.result;
        named = c.row_of-named.result;
        is_table = rw (sym c.requires.node, sym c.requires.weights) c.in_ok-table.ensures.table;
        is_played = c.row_of-row.ensures;
        most = refl;
        least = refl;
        is_named = c.row_of-named.ensures;
        named_card = refl;
        named_most = refl;
        named_least = refl;
        sure = search rules;
        layouts = search rules;
        weight = search rules;
      };
    }
