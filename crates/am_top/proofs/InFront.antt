-- What was written before stays in front.
use Rattle.std.proofs.Common.{◌≡◌, ◌⊎◌, ⊎_elim, ℕ, List, [], ◌++◌, Option, Some, None, take, refl, sym, subst}
use Rattle.std.specs.Prelude.{IsSomeAnd}
use Rattle.std.proofs.lemmas.List.{append-nil}
use Rattle.std.specs.Io.KnownBytes.{append_known}
use Rattle.am_outside.specs.Sink.{AppendsPart}
use Rattle.am_answer.specs.declared.status.Status.{Status}
use Rattle.am_answer.specs.declared.status.Status.TheVariants.{Done, Unwritten}
use Rattle.am_answer.specs.Endings.{IsKeptInFront}

appended : (before now : Option (List ℕ)) (text : List ℕ) → now ≡ append_known before text → IsKeptInFront before now
appended None now text e = tt
appended (Some bytes) now text e = subst (λ n. IsSomeAnd n (λ all. (more : List ℕ) × (all ≡ bytes ++ more))) (sym e) (text, refl)

-- nothing was written
pub in_front-same : (before now : Option (List ℕ)) → now ≡ before → IsKeptInFront before now
in_front-same None now e = tt
in_front-same (Some bytes) now e = subst (λ n. IsSomeAnd n (λ all. (more : List ℕ) × (all ≡ bytes ++ more))) (sym e) ([], sym (append-nil bytes))

-- a text was written, whole or in part
pub in_front-written : (before now : Option (List ℕ)) (text : List ℕ) (status : Status) → (status ≡ Done) ⊎ (status ≡ Unwritten) → (status ≡ Done → now ≡ append_known before text) → (status ≡ Unwritten → AppendsPart before text now) → IsKeptInFront before now
in_front-written before now text status ends whole part =
    ⊎_elim
    (λ (e : status ≡ Done). appended before now text (whole e))
    (λ (e : status ≡ Unwritten). let some = part e in appended before now (take some.0 text) some.2)
    ends
