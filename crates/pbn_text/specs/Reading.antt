-- What the reader has found and what is left to read.
use Rattle.std.specs.Prelude.{◌≡◌, ◌<◌, ℕ, ◌-◌, Bool, slice_index, List, [], ◌∷◌, ◌++◌, Result, Ok, Err, Option, Some, None, length, option_to_list, if◌then◌else◌}
use Rattle.std.specs.Borrow.{Bor}
use Rattle.std.specs.Global.{Vec}
use Rattle.pbn_text.specs.declared.collector.Collector.{Collector}
use Rattle.pbn_text.specs.declared.fault.Syntax.{Syntax}
use Rattle.pbn_text.specs.declared.fault.Syntax.TheVariants.{StrayToken}
use Rattle.pbn_text.specs.declared.fault.TextFault.{TextFault}
use Rattle.pbn_text.specs.declared.fault.TextFault.TheVariants as faults
use Rattle.pbn_text.specs.declared.game.Game.{Game}
use Rattle.pbn_text.specs.declared.items.Item.{Item}
use Rattle.pbn_text.specs.declared.items.Item.TheVariants as items
use Rattle.pbn_text.specs.declared.reader.Reader.{Reader}
use Rattle.pbn_text.specs.Pieces.{Piece, passed, game_end, tag, token, fault, Ahead, pieces}
use Rattle.byte_text.specs.Lines.{is_line_end}
use Rattle.pbn_text.specs.Games.{TokenValue, TagValue, GameValue}
use Rattle.pbn_text.specs.Grammar.{has_tag}

-- what was found, whatever its place in memory
abbrev pub piece_of : Item → Piece
piece_of items.Passed = passed
piece_of items.GameEnd = game_end
piece_of (items.Tag name value line) = tag name value line
piece_of (items.Token found) = token found

-- a fault is the one that the text begins with, or memory ran out
abbrev pub IsFault : TextFault → Piece → Type 0
IsFault faults.Memory piece = Unit {0}
IsFault (faults.Syntax line kind) piece = piece ≡ fault line kind

-- what was found and what follows it is what the text begins with; else a fault
abbrev pub Finds : Result (Item × Bor (List ℕ)) TextFault → Ahead → Type 0
Finds (Ok found) ahead = (ahead.piece ≡ piece_of found.0) × (ahead.rest ≡ found.1.now)
Finds (Err reason) ahead = IsFault reason ahead.piece

-- whether the last byte ends a line
abbrev pub ends_line : List ℕ → Bool
ends_line bytes = is_line_end (slice_index bytes (length bytes - 1))

-- the pieces that are left to read
abbrev pub pieces_left : Reader → List Piece
pieces_left reader = pieces reader.at_front reader.line 0 reader.rest.now

-- the first of the pieces left was found; else it is a fault
abbrev pub Reads : Reader → Reader → Result Item TextFault → Type 0
Reads old new (Ok item) = (pieces_left old ≡ piece_of item ∷ pieces_left new) × (length new.rest.now < length old.rest.now)
Reads old new (Err reason) = (piece : Piece) × (more : List Piece) × (pieces_left old ≡ piece ∷ more) × IsFault reason piece

-- ---- the games that are being collected

-- a tag pair with tokens added at its end
abbrev pub with_token : TagValue → TokenValue → TagValue
with_token pair more = record pair { tokens = pair.tokens ++ more ∷ [] }

-- the tag pairs of the game that is being collected, the last one apart
abbrev pub open_tags : List TagValue → Option TagValue → List TagValue
open_tags tags last = tags ++ option_to_list last

-- games with one more, if it has a tag pair
abbrev pub with_game : List GameValue → List TagValue → List GameValue
with_game games tags = if has_tag (record { tags = tags }) then games ++ record { tags = tags } ∷ [] else games

-- the games of a text of which these were read, with these pieces left
abbrev pub games_with : List GameValue → List TagValue → Option TagValue → List Piece → Result (List GameValue) (ℕ × Syntax)
games_with games tags last [] = Ok (with_game games (open_tags tags last))
games_with games tags last (passed ∷ rest) = games_with games tags last rest
games_with games tags last (game_end ∷ rest) = games_with (with_game games (open_tags tags last)) [] None rest
games_with games tags last (tag name value line ∷ rest) = games_with games (open_tags tags last) (Some (record { name = name; value = value; line = line; tokens = [] })) rest
games_with games tags None (token found ∷ rest) = Err (found.line, StrayToken)
games_with games tags (Some pair) (token found ∷ rest) = games_with games tags (Some (with_token pair found)) rest
games_with games tags last (fault line kind ∷ rest) = Err (line, kind)

-- the games that a collector comes to, where these pieces are left
abbrev pub games_after : Collector → List Piece → Result (List GameValue) (ℕ × Syntax)
games_after c left = games_with c.games.items c.tags.items c.last left

-- a fault is the text's, or memory ran out
abbrev pub IsTextFaultOf : TextFault → Result (List GameValue) (ℕ × Syntax) → Type 0
IsTextFaultOf faults.Memory read = Unit {0}
IsTextFaultOf (faults.Syntax line kind) read = read ≡ Err (line, kind)

-- the last tag pair was put to the others; else memory ran out
abbrev pub Closes : Collector → Collector → Result (Unit {0}) TextFault → Type 0
Closes old new (Ok done) = (new.games.items ≡ old.games.items) × (new.tags.items ≡ open_tags old.tags.items old.last) × (new.last ≡ None)
Closes old new (Err reason) = reason ≡ faults.Memory

-- the game was added to the others, if it has a tag pair; otherwise memory ran out
abbrev pub Ends : Collector → Collector → Result (Unit {0}) TextFault → Type 0
Ends old new (Ok done) =
    (new.games.items ≡ with_game old.games.items (open_tags old.tags.items old.last)) × (new.tags.items ≡ []) × (new.last ≡ None)
Ends old new (Err reason) = reason ≡ faults.Memory

-- the piece was collected; else it is a fault
abbrev pub Collects : Collector → Collector → Piece → List Piece → Result (Unit {0}) TextFault → Type 0
Collects old new piece left (Ok done) = games_after new left ≡ games_after old (piece ∷ left)
Collects old new piece left (Err reason) = IsTextFaultOf reason (games_after old (piece ∷ left))

-- what was read is what the grammar gives, or its first fault, or memory ran out
abbrev pub GivesGames : Result (Vec Game) TextFault → Result (List GameValue) (ℕ × Syntax) → Type 0
GivesGames (Ok games) read = read ≡ Ok games.items
GivesGames (Err reason) read = IsTextFaultOf reason read
