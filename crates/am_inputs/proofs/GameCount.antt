-- A text has no more games than bytes, and one game besides.
use Rattle.std.proofs.Common.{◌≡◌, ◌≤◌, ◌+◌, ◌-◌, ℕ, zero, suc, Bool, true, false, List, [], ◌∷◌, Option, Some, None, Ok, length, map, sym, subst, arith}
use Rattle.std.specs.Prelude.{if◌then◌else◌}
use Rattle.std.specs.List.{slice_split}
use Rattle.std.proofs.lemmas.List.{length-map}
use Rattle.std.proofs.lemmas.List.Sums.{length-filter, count_by-le-length}
use Rattle.std.proofs.lemmas.List.Splits.{length-slice_split}
use Rattle.pbn_text.specs.declared.fault.Syntax.{Syntax}
use Rattle.pbn_text.specs.Games.{GameValue}
use Rattle.byte_text.specs.Lines.{is_line_end}
use Rattle.pbn_text.specs.Pieces.{Piece, pieces, piece_ahead}
use Rattle.pbn_text.specs.Grammar.{games_in, games_read, text_read, game_of, has_tag, is_game_end, first_fault, or_fault, unless_fault, no_text_fault, without_mark}

piece-count : (at_front : Bool) (line skip : ℕ) (text : List ℕ) → length (pieces at_front line skip text) ≤ length text
unfolding pieces
piece-count at_front line skip [] = omega arith
piece-count at_front line (suc skip) (byte ∷ rest) =
    omega (arith, piece-count (is_line_end byte) (line + (if is_line_end byte then 1 else 0)) skip rest)
piece-count at_front line zero (byte ∷ rest) =
    omega (arith, piece-count (is_line_end byte) (line + (if is_line_end byte then 1 else 0)) (length rest - length (piece_ahead at_front line (byte ∷ rest)).rest) rest)

game-count : (all : List Piece) → length (games_in all) ≤ length all + 1
unfolding games_in
game-count all =
    let groups = map game_of (slice_split is_game_end all) in
    omega (arith, length-filter has_tag groups, count_by-le-length has_tag groups, length-map (slice_split is_game_end all) game_of, length-slice_split is_game_end all, count_by-le-length is_game_end all)

no_more : (text : List ℕ) → length (without_mark text) ≤ length text
no_more [] = omega arith
no_more (a ∷ []) = omega arith
no_more (a ∷ b ∷ []) = omega arith
no_more (a ∷ b ∷ c ∷ rest) = grind arith

same-games : {A : Type 0} (found : Option (ℕ × Syntax)) (value other : A) → or_fault found value ≡ Ok other → other ≡ value
same-games None value other is = cc
same-games (Some reason) value other is = absurd cc

text-count : (text : List ℕ) (games : List GameValue) → text_read text ≡ Ok games → length games ≤ length text + 1
unfolding text_read
text-count text games is =
    let all = pieces true 1 0 text in
    let same = same-games (first_fault false all) (games_in all) games is in
    subst (λ (found : List GameValue). length found ≤ length text + 1) (sym same) (omega (arith, game-count all, piece-count true 1 0 text))

pub games-count : (bytes : List ℕ) (games : List GameValue) → games_read bytes ≡ Ok games → length games ≤ length bytes + 1
unfolding games_read
games-count bytes games is = unless (no_text_fault bytes) is where
  unless : (found : Option (ℕ × Syntax)) → unless_fault found (text_read (without_mark bytes)) ≡ Ok games → length games ≤ length bytes + 1
  unless None read = omega (arith, text-count (without_mark bytes) games read, no_more bytes)
  unless (Some found) read = absurd cc
