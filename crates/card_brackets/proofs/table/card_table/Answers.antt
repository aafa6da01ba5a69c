use Rattle.std.specs.Prelude.{IfSome}
use Rattle.std.proofs.Common.{◌<◌, ◌≤◌, true, false, true≢false, Option, Err, refl, ap, sym, subst, rules, arith}
use Rattle.strategy_tree.specs.RootTrees.{AllFit}
use Rattle.strategy_tree.specs.declared.root_fault.RootFault.TheVariants.{Spent}
use Rattle.root_workers.proofs.Stops.{passed_on}
use Rattle.card_brackets.specs.declared.table.CardTable.{CardTable}
use Rattle.card_brackets.specs.Rows.{IsRoundWith}
use Rattle.card_brackets.proofs.Tables.{open_none, open_more, open_within, table_up_to, round_up_to}
use Rattle.card_brackets.proofs.table.card_table.Goals as goal

pub loop-moves-init : goal.loop-moves-init
loop-moves-init c = record {
  below = open_none c.args.question.now.node.now c.args.question.now.weights.now 1 (omega arith);
  pass = c.requires.pass;
}

pub returns-in-Some-clause-table : goal.returns-in-Some-clause-table
returns-in-Some-clause-table c =
    let q = c.args.question.now in
    let some : 1 ≤ c.loop-moves.moves = search rules in
    let few : c.loop-moves.moves < q.moves = search rules in
    let end = subst (IsRoundWith q.node.now q.weights.now c.loop-moves.moves true) c.in-Some.is c.in_ok-found.ensures.end in
    table_up_to q.node.now q.weights.now q.moves c.loop-moves.moves c.in-Some.table some (omega (arith, few)) c.loop-moves.invariant.below end.0 (λ less. end.1 refl)

pub loop-moves-preserved : goal.loop-moves-preserved
loop-moves-preserved c =
    let q = c.args.question.now in
    record {
      below = open_more q.node.now q.weights.now c.loop-moves.moves c.loop-moves.invariant.below (subst (IsRoundWith q.node.now q.weights.now c.loop-moves.moves true) c.in_default.is c.in_ok-found.ensures.end).1;
      pass = c.table_with.ensures.pass;
    }

pub returns-clause-table : goal.returns-clause-table
returns-clause-table c =
    let q = c.args.question.now in
    let past : q.moves ≤ c.loop-moves.moves = search rules in
    let end = subst (IsRoundWith q.node.now q.weights.now q.moves false) c.in-Some-last.is c.in_ok-last.ensures.end in
    table_up_to q.node.now q.weights.now q.moves q.moves c.in-Some-last.table c.requires.question.some_moves (omega arith) (open_within q.node.now q.weights.now c.loop-moves.moves q.moves past c.loop-moves.invariant.below) end.0
    (λ less. absurd (omega (arith, less)))

pub unreachable-requires : goal.unreachable-requires
unreachable-requires c =
    let q = c.args.question.now in
    let end = subst (IsRoundWith q.node.now q.weights.now q.moves false) c.in-None.is c.in_ok-last.ensures.end in
    absurd (true≢false (sym end.0))

pub returns-in-Some-clause-fits : goal.returns-in-Some-clause-fits
returns-in-Some-clause-fits c = λ plain.
    let q = c.args.question.now in
    let moves = c.loop-moves.moves in
    let end = subst (IsRoundWith q.node.now q.weights.now moves true) c.in-Some.is c.in_ok-found.ensures.end in
    let fit = subst (λ (found : Option CardTable). IfSome found (λ _. AllFit q.node.now moves q.options.now.nodes)) c.in-Some.is (c.in_ok-found.ensures.fits plain) in
    subst (λ m. AllFit q.node.now m q.options.now.nodes) (sym end.0.moves_are) fit

pub returns-clause-fits : goal.returns-clause-fits
returns-clause-fits c = λ plain.
    let q = c.args.question.now in
    let end = subst (IsRoundWith q.node.now q.weights.now q.moves false) c.in-Some-last.is c.in_ok-last.ensures.end in
    let fit = subst (λ (found : Option CardTable). IfSome found (λ _. AllFit q.node.now q.moves q.options.now.nodes)) c.in-Some-last.is (c.in_ok-last.ensures.fits plain) in
    subst (λ m. AllFit q.node.now m q.options.now.nodes) (sym end.0.moves_are) fit

pub returns-in_err-found-clause-spent : goal.returns-in_err-found-clause-spent
returns-in_err-found-clause-spent c =
    let q = c.args.question.now in
    let moves = c.loop-moves.moves in
    let some : 1 ≤ moves = search rules in
    let few : moves < q.moves = search rules in
    let below = c.loop-moves.invariant.below in
    λ card e. (moves, round_up_to q.node.now q.weights.now q.moves moves some (omega (arith, few)) below, c.in_err-found.ensures.spent card (ap Err (passed_on c.from_residual-in_err-found.result c.in_err-found.field-0.0 (Spent card) c.from_residual-in_err-found.ensures.1 e)))

pub returns-in_err-found-clause-first : goal.returns-in_err-found-clause-first
returns-in_err-found-clause-first c =
    let q = c.args.question.now in
    let moves = c.loop-moves.moves in
    let some : 1 ≤ moves = search rules in
    let few : moves < q.moves = search rules in
    let below = c.loop-moves.invariant.below in
    λ plain card e. (moves, round_up_to q.node.now q.weights.now q.moves moves some (omega (arith, few)) below, c.in_err-found.ensures.first plain card (ap Err (passed_on c.from_residual-in_err-found.result c.in_err-found.field-0.0 (Spent card) c.from_residual-in_err-found.ensures.1 e)))

pub returns-in_err-last-clause-spent : goal.returns-in_err-last-clause-spent
returns-in_err-last-clause-spent c =
    let q = c.args.question.now in
    let past : q.moves ≤ c.loop-moves.moves = search rules in
    let below = open_within q.node.now q.weights.now c.loop-moves.moves q.moves past c.loop-moves.invariant.below in
    λ card e. (q.moves, round_up_to q.node.now q.weights.now q.moves q.moves c.requires.question.some_moves (omega arith) below, c.in_err-last.ensures.spent card (ap Err (passed_on c.from_residual-in_err-last.result c.in_err-last.field-0.0 (Spent card) c.from_residual-in_err-last.ensures.1 e)))

pub returns-in_err-last-clause-first : goal.returns-in_err-last-clause-first
returns-in_err-last-clause-first c =
    let q = c.args.question.now in
    let past : q.moves ≤ c.loop-moves.moves = search rules in
    let below = open_within q.node.now q.weights.now c.loop-moves.moves q.moves past c.loop-moves.invariant.below in
    λ plain card e. (q.moves, round_up_to q.node.now q.weights.now q.moves q.moves c.requires.question.some_moves (omega arith) below, c.in_err-last.ensures.first plain card (ap Err (passed_on c.from_residual-in_err-last.result c.in_err-last.field-0.0 (Spent card) c.from_residual-in_err-last.ensures.1 e)))
