-- Pieces that are written one after another.
use Rattle.std.proofs.Common.{◌≡◌, ℕ, zero, suc, ◌+◌, ◌<◌, List, [], ◌∷◌, ◌++◌, Result, Ok, Err, map, length, take, drop, Option, sym, ap, subst, ◌∙◌, arith, rules, append_assoc, append-nil, take-append-drop}
use Rattle.std.specs.Prelude.{slice_index_or, IsErr}
use Rattle.std.proofs.lemmas.List.Folds.{concat-append}
use Rattle.std.specs.Io.KnownBytes.{append_known}
use Rattle.am_outside.specs.Sink.{AppendsPart}
use Rattle.am_outside.specs.declared.sink.SinkFailed.{SinkFailed}
use Rattle.am_outside.proofs.Written.{AppendsPart-first, AppendsPart-second, append_known-append_known}
use Rattle.am_answer.specs.Lines.{joined_pieces}
use Rattle.am_line.specs.Said.{IsWritten}

joined_suc : {B : Type 0} (now : B → List ℕ) (pieces : List B) (i : ℕ) (d : B) → i < length pieces
    → joined_pieces (take (suc i) (map now pieces)) ≡ joined_pieces (take i (map now pieces)) ++ now (slice_index_or pieces i d)
joined_suc now [] i d inside = absurd (omega arith)
joined_suc now (p ∷ pieces) zero d inside = append-nil (now p)
joined_suc now (p ∷ pieces) (suc i) d inside =
    let less : i < length pieces = omega arith in
    ap (λ more. now p ++ more) (joined_suc now pieces i d less) ∙ sym (append_assoc (now p) (joined_pieces (take i (map now pieces))) (now (slice_index_or pieces i d)))

-- with one piece more
pub joined_next : {B : Type 0} (now : B → List ℕ) (pieces : List B) (i : ℕ) (d : B) → i < length pieces
    → joined_pieces (take (i + 1) (map now pieces)) ≡ joined_pieces (take i (map now pieces)) ++ now (slice_index_or pieces i d)
joined_next now pieces i d inside =
    let next : i + 1 ≡ suc i = omega arith in
    ap (λ n. joined_pieces (take n (map now pieces))) next ∙ joined_suc now pieces i d inside

-- the pieces up to a place, and the others
joined_parts : (pieces : List (List ℕ)) (n : ℕ) → joined_pieces (take n pieces) ++ joined_pieces (drop n pieces) ≡ joined_pieces pieces
joined_parts pieces n = sym (concat-append (take n pieces) (drop n pieces)) ∙ ap joined_pieces (take-append-drop n pieces)

-- the whole of one more piece was written
pub told_next : {B : Type 0} (now : B → List ℕ) (pieces : List B) (i : ℕ) (d : B) (before told after : Option (List ℕ)) → i < length pieces
    → told ≡ append_known before (joined_pieces (take i (map now pieces))) → after ≡ append_known told (now (slice_index_or pieces i d))
    → after ≡ append_known before (joined_pieces (take (i + 1) (map now pieces)))
told_next now pieces i d before told after inside so_far more =
    let first = joined_pieces (take i (map now pieces)) in
    let piece = now (slice_index_or pieces i d) in
    more ∙ ap (λ t. append_known t piece) so_far ∙ append_known-append_known before first piece ∙ ap (append_known before) (sym (joined_next now pieces i d inside))

-- part of one more piece was written, and so a part of all
pub told_part : {B : Type 0} (now : B → List ℕ) (pieces : List B) (i : ℕ) (d : B) (before told after : Option (List ℕ)) → i < length pieces
    → told ≡ append_known before (joined_pieces (take i (map now pieces))) → AppendsPart told (now (slice_index_or pieces i d)) after
    → AppendsPart before (joined_pieces (map now pieces)) after
told_part now pieces i d before told after inside so_far part =
    let first = joined_pieces (take i (map now pieces)) in
    let piece = now (slice_index_or pieces i d) in
    let rest = joined_pieces (drop (i + 1) (map now pieces)) in
    let whole : (first ++ piece) ++ rest ≡ joined_pieces (map now pieces) =
    ap (λ text. text ++ rest) (sym (joined_next now pieces i d inside)) ∙ joined_parts (map now pieces) (i + 1) in
    subst (λ all. AppendsPart before all after) whole
    (AppendsPart-first before (first ++ piece) rest after
    (AppendsPart-second before first piece after (subst (λ t. AppendsPart t piece after) so_far part)))

-- an error is answered where a part was written
pub written_in_part : (before now : Option (List ℕ)) (text : List ℕ) (result : Result (Unit {0}) SinkFailed) → IsErr result → AppendsPart before text now → IsWritten before text now result
written_in_part before now text (Ok done) is part = absurd (search (rules, is))
written_in_part before now text (Err failed) is part = part
