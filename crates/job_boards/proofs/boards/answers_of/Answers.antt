use Rattle.std.proofs.Common.{Ok, Err, All, length, sym, ap, subst, arith}
use Rattle.board_batch.specs.Problems.{IsProblem, AreAnswers, AllProblemsFit, IsSpentIn, IsFirstSpentIn}
use Rattle.am_answer.specs.Endings.{AllGamesFit}
use Rattle.am_answer.specs.Tasks.{Boards}
use Rattle.am_answer.specs.Stages.{IsTaskRefusal}
use Rattle.am_answer.proofs.Passed.{refused_by}
use Rattle.job_boards.proofs.Roots.{problems-are, problems-few}
use Rattle.job_boards.proofs.Batched.{answers-of-games, games-fit, plain-as, nodes-as, batch-refused}
use Rattle.job_boards.proofs.boards.answers_of.Goals as goal

pub run_boards-requires-clause-problems : goal.run_boards-requires-clause-problems
run_boards-requires-clause-problems g c κs within =
    subst (All IsProblem) (sym c.deref.ensures.value) (problems-are c.args.games.now c.in_ok-problems.problems.items c.in_ok-problems.ensures c.requires.roots)

pub run_boards-requires-clause-few : goal.run_boards-requires-clause-few
run_boards-requires-clause-few g c κs within =
    omega (arith, ap length c.deref.ensures.value, problems-few c.args.games.now c.in_ok-problems.problems.items c.in_ok-problems.ensures, c.requires.few)

pub returns-clause-answers : goal.returns-clause-answers
returns-clause-answers g c =
    answers-of-games c.args.games.now c.in_ok-problems.problems.items c.args.moves c.in_ok-run_boards.field-0.items c.in_ok-problems.ensures
    (subst (λ ps. AreAnswers ps c.args.moves c.in_ok-run_boards.field-0.items) c.deref.ensures.value c.in_ok-run_boards.ensures.answers)

pub returns-clause-fits : goal.returns-clause-fits
returns-clause-fits g c = λ plain.
    subst (AllGamesFit c.args.games.now c.args.moves) (nodes-as c.options_of-options.result c.args.search.now c.options_of-options.ensures)
    (games-fit c.args.games.now c.in_ok-problems.problems.items c.args.moves c.options_of-options.result.nodes c.in_ok-problems.ensures
    (subst (λ ps. AllProblemsFit ps c.args.moves c.options_of-options.result.nodes) c.deref.ensures.value
    (c.in_ok-run_boards.ensures.fits (plain-as c.options_of-options.result c.args.search.now c.options_of-options.ensures plain))))

pub returns-in_err-run_boards-clause-refused : goal.returns-in_err-run_boards-clause-refused
returns-in_err-run_boards-clause-refused g c =
    refused_by (IsTaskRefusal (Ok (Boards c.args.games.now c.args.moves c.args.search.now))) c.from_residual-in_err-run_boards.result _ c.from_residual-in_err-run_boards.ensures.1
    (batch-refused c.args.games.now c.in_ok-problems.problems.items c.args.moves c.args.search.now c.options_of-options.result.nodes
    (nodes-as c.options_of-options.result c.args.search.now c.options_of-options.ensures) c.in_ok-problems.ensures c.in_err-run_boards.field-0.0
    (λ number card is. subst (λ ps. IsSpentIn ps c.args.moves c.options_of-options.result.nodes number card) c.deref.ensures.value (c.in_err-run_boards.ensures.spent number card (ap Err is)))
    (λ number card is plain. subst (λ ps. IsFirstSpentIn ps c.args.moves c.options_of-options.result.nodes number card) c.deref.ensures.value
    (c.in_err-run_boards.ensures.first_spent (plain-as c.options_of-options.result c.args.search.now c.options_of-options.ensures plain) number card (ap Err is))))
