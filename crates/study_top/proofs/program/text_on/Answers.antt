use Rattle.std.proofs.Common.{inr, subst}
use Rattle.std.proofs.lemmas.Result.{IfOk-weaker, IfErr-weaker}
use Rattle.text_forms.specs.declared.form.Form.{Form}
use Rattle.job_cards.specs.Cards.{IsCardsText, IsExactText}
use Rattle.study_top.proofs.RootBoard.{board_of_root}
use Rattle.study_top.proofs.RootWeights.{weights_of_root}
use Rattle.study_top.proofs.program.text_on.Goals as goal

pub text_of-requires-clause-board : goal.text_of-requires-clause-board
text_of-requires-clause-board g c =
    board_of_root c.args.deal.now c.args.layouts.now c.in_ok-root-in_default-Check.root c.in_ok-root-in_default-Check.ensures.root

pub text_by_search-requires-clause-board : goal.text_by_search-requires-clause-board
text_by_search-requires-clause-board g c = λ κs lives.
    board_of_root c.args.deal.now c.args.layouts.now c.in_ok-root-in_default-Solve.root c.in_ok-root-in_default-Solve.ensures.root

pub text_by_search-requires-clause-weights : goal.text_by_search-requires-clause-weights
text_by_search-requires-clause-weights g c = λ κs lives.
    weights_of_root c.args.deal.now c.args.layouts.now c.in_ok-root-in_default-Solve.root c.in_ok-root-in_default-Solve.ensures.root

pub returns-in_ok-root-in_default-Solve-clause-refused : goal.returns-in_ok-root-in_default-Solve-clause-refused
returns-in_ok-root-in_default-Solve-clause-refused g c =
    rw (c.in_default-Solve.is-1) (IfErr-weaker c.text_by_search.result _ _ (λ status refused. inr (c.in_ok-root-in_default-Solve.root, c.in_ok-root-in_default-Solve.ensures.root, refused)) c.text_by_search.ensures.refused)

pub returns-in_ok-root-in-Cards-Card-clause-text : goal.returns-in_ok-root-in-Cards-Card-clause-text
returns-in_ok-root-in-Cards-Card-clause-text g c =
    let root = c.in_ok-root-in-Cards-Card.root in
    rw (c.in-Cards-Card.is-0) (rw (c.in-Cards-Card.is-1) (IfOk-weaker c.tell_cards.result _ _
    (λ text told. (root, c.in_ok-root-in-Cards-Card.ensures.root, subst (λ (form : Form). IsCardsText root c.in-Cards-Card.moves form text) c.form_of.ensures told))
    c.tell_cards.ensures.text))

pub returns-in_ok-root-in-ExactCards-Card-clause-text : goal.returns-in_ok-root-in-ExactCards-Card-clause-text
returns-in_ok-root-in-ExactCards-Card-clause-text g c =
    let root = c.in_ok-root-in-ExactCards-Card.root in
    rw (c.in-ExactCards-Card.is-0) (rw (c.in-ExactCards-Card.is-1) (IfOk-weaker c.tell_exact.result _ _
    (λ text told. (root, c.in_ok-root-in-ExactCards-Card.ensures.root, subst (λ (form : Form). IsExactText root c.in-ExactCards-Card.search.nodes form text) c.form_of-in-ExactCards-Card.ensures told))
    c.tell_exact.ensures.text))
