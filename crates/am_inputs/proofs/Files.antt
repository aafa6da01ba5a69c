-- Files that are longer than the limit.
use Rattle.std.proofs.Common.{◌≡◌, ℕ, ◌<◌, List, Option, Some, None, Err, length, arith, true, refl}
use Rattle.std.specs.Prelude.{IfSome, IsSomeAnd, nat_lt}
use Rattle.std.proofs.lemmas.Bool.Decides.{nat_tests}
use Rattle.std.specs.FinMap.{get}
use Rattle.am_outside.specs.Shelf.{Files, IsLonger}
use Rattle.am_answer.specs.declared.status.FileWord.{FileWord}
use Rattle.am_answer.specs.declared.status.Status.TheVariants.{TooLong}
use Rattle.am_answer.specs.Files.{limit_of, within_limit, file_read}

longer : (file : FileWord) (found : Option (List ℕ)) → IsSomeAnd found (λ bytes. limit_of file < length bytes) → within_limit file found ≡ Err (TooLong file)
longer file None is = absurd is
longer file (Some bytes) is =
    let long : nat_lt (limit_of file) (length bytes) ≡ true = grind (arith, nat_tests, is) in
    rw long refl

-- a file that is too long is refused as such
pub file_read-longer : (files : Files) (file : FileWord) (name : List ℕ) → IsSomeAnd (get files name) (λ bytes. limit_of file < length bytes) → file_read files file name ≡ Err (TooLong file)
unfolding file_read
file_read-longer files file name is = longer file (get files name) is

-- where the shelf tells its files
pub told_too_long : (told : Option Files) (file : FileWord) (name : List ℕ) (Exact : Files → Type 0) → ((files : Files) → Exact files → IsLonger files name (limit_of file)) → IfSome told Exact
    → IfSome told (λ files. file_read files file name ≡ Err (TooLong file))
told_too_long None file name Exact longer is = tt
told_too_long (Some files) file name Exact longer is = file_read-longer files file name (longer files is)
