-- One write after another.
use Rattle.std.proofs.Common.{◌≡◌, ℕ, ◌+◌, ◌≤◌, List, [], ◌++◌, length, take, drop, Option, Some, None, refl, ap, sym, ◌∙◌, arith, append_assoc, append-nil, length-append}
use Rattle.std.proofs.Math.Seq.{take-add, take-append-add}
use Rattle.std.proofs.lemmas.List.{take-append-le}
use Rattle.std.specs.Io.KnownBytes.{append_known}
use Rattle.am_outside.specs.Sink.{AppendsPart}

-- nothing more
pub append_known-nothing : (told : Option (List ℕ)) → append_known told [] ≡ told
append_known-nothing None = refl
append_known-nothing (Some bytes) = ap Some (append-nil bytes)

-- two pieces are their join
pub append_known-append_known : (told : Option (List ℕ)) (first second : List ℕ) → append_known (append_known told first) second ≡ append_known told (first ++ second)
append_known-append_known None first second = refl
append_known-append_known (Some bytes) first second = ap Some (append_assoc bytes first second)

-- the next n bytes of a piece, of which m are written
pub append_known-take : (told : Option (List ℕ)) (m n : ℕ) (piece : List ℕ) → append_known (append_known told (take m piece)) (take n (drop m piece)) ≡ append_known told (take (m + n) piece)
append_known-take told m n piece = append_known-append_known told (take m piece) (take n (drop m piece)) ∙ ap (append_known told) (sym (take-add m n piece))

-- part of the first of two pieces is part of both
pub AppendsPart-first : (told : Option (List ℕ)) (first second : List ℕ) (now : Option (List ℕ)) → AppendsPart told first now → AppendsPart told (first ++ second) now
AppendsPart-first told first second now (n, short, is) =
    let less : n ≤ length first = omega arith in
    (n, omega (arith, length-append first second), rw (take-append-le n first second less) is)

-- the whole of the first piece, and part of the second, is part of both
pub AppendsPart-second : (told : Option (List ℕ)) (first second : List ℕ) (now : Option (List ℕ)) → AppendsPart (append_known told first) second now → AppendsPart told (first ++ second) now
AppendsPart-second told first second now (n, short, is) =
    (length first + n, omega (arith, length-append first second), rw (take-append-add first second n) (is ∙ append_known-append_known told first (take n second)))

-- the laws of one write after another, for tactics
pub ruleset one_after_another = (append_known-append_known, AppendsPart-first, AppendsPart-second)
