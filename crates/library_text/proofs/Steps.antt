-- What no refusal is.
use Rattle.std.proofs.Common.{◌≡◌, Result, arith}
use Rattle.am_answer.specs.declared.status.Status.{Status}
use Rattle.am_answer.specs.declared.status.Status.TheVariants.{Done, Unwritten}
use Rattle.am_answer.specs.Codes.{code_of}
use Rattle.am_answer.specs.Tasks.{TaskValue}
use Rattle.library_text.specs.Requests.{IsCallRefusal}

-- no refusal has the number of a text that is there, or of one that has no room
pub no_text : (found : Result TaskValue Status) (status : Status) → IsCallRefusal found status → (code_of status ≡ 0 → ⊥) × (code_of status ≡ 8 → ⊥)
no_text found Done is = absurd is
no_text found Unwritten is = absurd is
no_text found status is = (λ same. omega (arith, same), λ same. omega (arith, same))
