-- What `?` passes on.
use Rattle.std.proofs.Common.{◌≡◌, ◌∙◌, Result, Ok, Err, IsErrAnd, IsErrOf, sym, subst}
use Rattle.std.specs.Prelude.{IfErr}
use Rattle.am_answer.specs.declared.status.Status.{Status}

-- the error is the one that was passed on
pub passed_on : {T E : Type 0} (result : Result T E) (fault named : E) → IsErrAnd result (λ e. e ≡ fault) → IsErrOf result named → fault ≡ named
passed_on (Ok x) fault named is e = absurd is
passed_on (Err e) fault named is same = sym is ∙ (let inner : e ≡ named = cc in inner)

-- what holds of the status that is passed on
pub refused_by : {T : Type 0} (P : Status → Type 0) (result : Result T Status) (status : Status) → IsErrAnd result (λ e. e ≡ status) → P status → IfErr result P
refused_by P (Ok x) status is holds = tt
refused_by P (Err e) status is holds = subst P (sym is) holds
