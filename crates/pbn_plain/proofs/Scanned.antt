-- The pieces of a text behind its first.
use Rattle.std.proofs.Common.{◌≡◌, ℕ, ◌+◌, ◌-◌, Bool, true, false, cond, List, [], ◌∷◌, ◌++◌, length, count_by, refl, ap, ◌∙◌, arith}
use Rattle.std.proofs.lemmas.List.{length-append}
use Rattle.std.proofs.lemmas.List.Sums.{sum_by-cons}
use Rattle.byte_text.specs.Lines.{is_line_end}
use Rattle.pbn_text.specs.Pieces.{Piece, Ahead, ahead_of, piece_ahead, pieces, is_skipped_line, is_blank_line}
use Rattle.pbn_plain.specs.Numbered.{line_after}

-- whether what follows these bytes begins a line
abbrev pub front_after : Bool → List ℕ → Bool
front_after at_front [] = at_front
front_after at_front (byte ∷ rest) = front_after (is_line_end byte) rest

line-cons : (line byte : ℕ) (rest : List ℕ) → line + cond (is_line_end byte) 1 0 + count_by is_line_end rest ≡ line_after line (byte ∷ rest)
line-cons line byte rest = omega (arith, sum_by-cons (λ b. cond (is_line_end b) 1 0) byte rest)

pieces-skip : (at_front : Bool) (line : ℕ) (xs rest : List ℕ) → pieces at_front line (length xs) (xs ++ rest) ≡ pieces (front_after at_front xs) (line_after line xs) 0 rest
unfolding pieces
pieces-skip at_front line [] rest = ap (λ n. pieces at_front n 0 rest) (omega arith)
pieces-skip at_front line (byte ∷ xs) rest =
    pieces-skip (is_line_end byte) (line + cond (is_line_end byte) 1 0) xs rest
    ∙ ap (λ n. pieces (front_after (is_line_end byte) xs) n 0 rest) (line-cons line byte xs)

-- one piece, and those behind it
pub one_piece : (at_front : Bool) (line byte : ℕ) (xs rest : List ℕ) (piece : Piece) → piece_ahead at_front line (byte ∷ xs ++ rest) ≡ ahead_of piece rest
    → pieces at_front line 0 (byte ∷ xs ++ rest) ≡ piece ∷ pieces (front_after at_front (byte ∷ xs)) (line_after line (byte ∷ xs)) 0 rest
unfolding pieces
one_piece at_front line byte xs rest piece ahead =
    let next = line + cond (is_line_end byte) 1 0 in
    let len : length (xs ++ rest) - length rest ≡ length xs = omega (arith, length-append xs rest) in
    ap (λ (a : Ahead). a.piece ∷ pieces (is_line_end byte) next (length (xs ++ rest) - length a.rest) (xs ++ rest)) ahead
    ∙ ap (λ n. piece ∷ pieces (is_line_end byte) next n (xs ++ rest)) len
    ∙ ap (λ more. piece ∷ more) (pieces-skip (is_line_end byte) next xs rest ∙ ap (λ n. pieces (front_after (is_line_end byte) xs) n 0 rest) (line-cons line byte xs))

-- the front of a line that is neither skipped nor of blanks alone
pub front_inside : (line byte : ℕ) (rest : List ℕ) → is_skipped_line (byte ∷ rest) ≡ false → is_blank_line (byte ∷ rest) ≡ false → pieces true line 0 (byte ∷ rest) ≡ pieces false line 0 (byte ∷ rest)
unfolding pieces piece_ahead
front_inside line byte rest kept some = rw (kept, some) refl

pub front_after-append : (at_front : Bool) (xs ys : List ℕ) → front_after at_front (xs ++ ys) ≡ front_after (front_after at_front xs) ys
front_after-append at_front [] ys = refl
front_after-append at_front (x ∷ xs) ys = front_after-append (is_line_end x) xs ys
