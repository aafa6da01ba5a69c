-- What clap's parse by the command says.
use Rattle.std.proofs.Common.{◌≡◌, ◌∙◌, true, false, List, [], ◌∷◌, Some, None, refl, sym, ap, inl, inr, length, arith}
use Rattle.std.proofs.lemmas.Bool.{ne_eqb}
use Rattle.clap.specs.Words.{App, Text, HasKind, HasMatchesOf, IsAmong, Kinds, fault_of, found_of, is_simple, is_simple_and_free, kind_of, matches_of, rows_of}
use Rattle.clap.specs.Walk.{is_empty}
use Rattle.clap.specs.declared.parser.matches.ArgMatches.{ArgMatches}
use Rattle.clap.specs.declared.error.Error.{Error}
use Rattle.clap.specs.declared.error.kind.ErrorKind.{ErrorKind}
use Rattle.clap.specs.declared.error.kind.ErrorKind.TheVariants.{OutOfMemory}
use Rattle.clap.proofs.OnLiterals.{clap_on_literals}
use Rattle.job_words.specs.Command.{list_command, option_command, value_command}
use Rattle.job_words.specs.Options.{options_at, options_read}

is_plain : is_simple option_command ≡ true
unfolding option_command list_command value_command clap_on_literals
is_plain = refl

is_free : is_simple_and_free option_command ≡ true
unfolding option_command list_command value_command clap_on_literals
is_free = refl

-- words that clap takes
pub taken : (a : App) (words : List Text) (m : ArgMatches) → a ≡ option_command → (is_simple_and_free a ≡ true → fault_of a words ≡ []) → HasMatchesOf a words m
    → Some (options_at (rows_of (found_of m))) ≡ options_read words
unfolding options_read
taken a words m is faults rows =
    let none : fault_of option_command words ≡ [] = ap (λ x. fault_of x words) (sym is) ∙ faults (ap is_simple_and_free is ∙ is_free) in
    let found : rows_of (found_of m) ≡ matches_of option_command words = (rows (ap is_simple is ∙ is_plain)).0 ∙ ap (λ x. matches_of x words) is in
    rw (none, found) refl

some_fault : (k : ErrorKind) (kinds : Kinds) → IsAmong k kinds → is_empty kinds ≡ false
some_fault k [] h = absurd h
some_fault k (x ∷ xs) h = ne_eqb (length (x ∷ xs)) 0 (λ e. omega (arith, e))

-- words that clap refuses
pub refused : (a : App) (words : List Text) (e : Error) → a ≡ option_command → (is_simple_and_free a ≡ true → HasKind (fault_of a words) e) → (kind_of e ≡ OutOfMemory → ⊥)
    → None ≡ options_read words
unfolding options_read
refused a words e is faults other =
    let some : is_empty (fault_of a words) ≡ false = elim (faults (ap is_simple_and_free is ∙ is_free)) [
      | inl memory ↦ absurd (other memory)
      | inr among ↦ some_fault (kind_of e) (fault_of a words) among
    ] in
    rw (ap (λ x. is_empty (fault_of x words)) (sym is) ∙ some) refl
