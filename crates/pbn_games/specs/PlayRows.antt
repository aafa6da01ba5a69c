-- The play of a game as it is written: a line for each trick.
use Rattle.std.specs.Prelude.{ℕ, ◌+◌, List, [], ◌∷◌, ◌++◌, take, drop, codes, if◌then◌else◌}
use Rattle.std.specs.List.{join_by}
use Rattle.byte_text.specs.Lines.{line_of}
use Rattle.card_letters.specs.Letters.{letters_of}
use Rattle.card_sets.specs.declared.seat.Seat.{Seat}
use Rattle.trick_rules.specs.declared.trump.Trump.{Trump}
use Rattle.trick_rules.specs.Positions.{places_on}
use Rattle.trick_rules.specs.Play.{winner_of, is_declarers}

-- the cards of a trick by columns, which belong to the seats clockwise from the one that leads first
abbrev pub by_columns : Seat → Seat → List ℕ → List ℕ
by_columns first leader trick = drop (places_on leader first) trick ++ take (places_on leader first) trick

-- who wins these four cards
abbrev pub winner_from : Trump → Seat → List ℕ → Seat
winner_from trump leader trick = winner_of trump (record { leader = leader; cards = trick })

-- cards on a line of their own
unfoldable pub row_text : List ℕ → List ℕ
row_text cards = line_of (join_by letters_of (codes " ") cards)

-- a line for each trick of a play, which this seat leads
abbrev pub rows_text : Trump → Seat → Seat → List ℕ → List ℕ
rows_text trump first leader (a ∷ b ∷ c ∷ d ∷ rest) =
    row_text (by_columns first leader (a ∷ b ∷ c ∷ d ∷ [])) ++ rows_text trump first (winner_from trump leader (a ∷ b ∷ c ∷ d ∷ [])) rest
rows_text trump first leader _ = []

abbrev pub one_if_ours : Seat → ℕ
one_if_ours seat = if is_declarers seat then 1 else 0

-- how many tricks of the play declarer's side wins
abbrev pub tricks_won : Trump → Seat → List ℕ → ℕ
tricks_won trump leader (a ∷ b ∷ c ∷ d ∷ rest) =
    let winner = winner_from trump leader (a ∷ b ∷ c ∷ d ∷ []) in one_if_ours winner + tricks_won trump winner rest
tricks_won trump leader _ = 0
