use Rattle.std.proofs.Common.{◌≡◌, Result, sym, subst}
use Rattle.std.specs.Prelude.{IfErr}
use Rattle.std.specs.Result.{IsErrAnd}
use Rattle.std.proofs.lemmas.Result.{err_from_is_err_and}
use Rattle.bit_questions.specs.declared.fault.QuestionFault.{QuestionFault}
use Rattle.bit_questions.specs.Causes.{HasCause}
use Rattle.bit_questions.proofs.asked.read.Goals as goal

-- what a `?` passes on
passed_on : {A : Type 0} (P : QuestionFault → Type 0) (result : Result A QuestionFault) (fault : QuestionFault) → IsErrAnd result (λ found. found ≡ fault) → P fault → IfErr result P
passed_on P result fault is holds =
    let found = err_from_is_err_and result is in
    rw found.1 (subst P (sym found.2) holds)

pub returns-in_err-moves-clause-refused : goal.returns-in_err-moves-clause-refused
returns-in_err-moves-clause-refused c =
    passed_on (HasCause c.args.question.now c.args.lefts.now c.args.weights.now) c.from_residual.result c.in_err-moves.field-0.0 c.from_residual.ensures.1
    (c.in_err-moves.ensures.refused c.args.lefts.now c.args.weights.now)

pub returns-in_err-position-clause-refused : goal.returns-in_err-position-clause-refused
returns-in_err-position-clause-refused c =
    passed_on (HasCause c.args.question.now c.args.lefts.now c.args.weights.now) c.from_residual-in_err-position.result c.in_err-position.field-0.0 c.from_residual-in_err-position.ensures.1
    (c.in_err-position.ensures.refused c.args.lefts.now c.args.weights.now)
