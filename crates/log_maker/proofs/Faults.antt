-- Errors that are passed on.
use Rattle.std.proofs.Common.{◌≡◌, ◌∙◌, Result, Ok, Err, IsErrAnd, IsErrOf, sym}

-- the error that `?` passes on
pub passed_on : {T E : Type 0} (result : Result T E) (fault named : E) → IsErrAnd result (λ e. e ≡ fault) → IsErrOf result named → fault ≡ named
passed_on (Ok x) fault named is e = absurd is
passed_on (Err e) fault named is same = sym is ∙ (let inner : e ≡ named = cc in inner)
