-- What defenders may play, what they are told, and who sits where.
use Rattle.std.specs.Prelude.{◌≡◌, ◌≤◌, ℕ, true, false, List, [], ◌∷◌, ◌++◌, Option, None, Some, option_map, slice_get, nat_lt, if◌then◌else◌, ◌==◌, suc, length}
use Rattle.card_sets.specs.SetWords.{has_card}
use Rattle.card_sets.specs.declared.seat.Seat.{Seat}
use Rattle.card_sets.specs.declared.seat.Seat.TheVariants.{Declarer, Left, Dummy, Right}
use Rattle.trick_rules.specs.Positions.{PositionValue}
use Rattle.trick_rules.specs.Play.{legal_cards, is_declarers}

-- whether a card of a hand may be played to the present trick
abbrev pub IsLegalFrom : PositionValue → List ℕ → ℕ → Type 0
IsLegalFrom t hand card = has_card (legal_cards t.trick.cards hand) card ≡ true

-- a defender of style 1 plays the first legal card of its hand in card order, one of style 2 the
-- last, and one of any other style some legal card
pub record MayPlay (style : ℕ) (t : PositionValue) (hand : List ℕ) (card : ℕ) : Type 0 where
  pub legal : IsLegalFrom t hand card
  pub first : style ≡ 1 → (other : ℕ) → IsLegalFrom t hand other → card ≤ other
  pub last : style ≡ 2 → (other : ℕ) → IsLegalFrom t hand other → other ≤ card

-- what is known of a defender: its style, and the cards that it has heard if it keeps a record
pub record Sitter : Type 0 where
  pub style : ℕ
  pub heard : Option (List ℕ)

abbrev pub sitter : ℕ → Option (List ℕ) → Sitter
sitter style heard = record { style = style; heard = heard }

-- a record with more cards at its end
abbrev pub with_told : List ℕ → Option (List ℕ) → Option (List ℕ)
with_told cards heard = option_map (λ earlier. earlier ++ cards) heard

-- a defender that was told these cards
abbrev pub tell : List ℕ → Sitter → Sitter
tell cards who = record { style = who.style; heard = with_told cards who.heard }

-- the two defenders who sit at a table are told these cards, and no others
abbrev pub tell_table : List ℕ → List Sitter → List Sitter
tell_table cards [] = []
tell_table cards (left ∷ []) = tell cards left ∷ []
tell_table cards (left ∷ right ∷ others) = tell cards left ∷ tell cards right ∷ others

-- who sits at a seat: the first at Left, the second at Right
abbrev pub at_seat : List Sitter → Seat → Option Sitter
at_seat table Left = slice_get table 0
at_seat table Right = slice_get table 1
at_seat table Declarer = None
at_seat table Dummy = None

-- another defender takes a seat
abbrev pub seat : Seat → Sitter → List Sitter → List Sitter
seat Left who [] = []
seat Left who (left ∷ others) = who ∷ others
seat Right who [] = []
seat Right who (left ∷ []) = left ∷ []
seat Right who (left ∷ right ∷ others) = left ∷ who ∷ others
seat Declarer who table = table
seat Dummy who table = table

-- a defender takes a seat before the card of a number
pub record Change : Type 0 where
  pub at : ℕ
  pub seat : Seat
  pub who : Sitter

abbrev pub change_at : ℕ → Seat → Sitter → Change
change_at at seat who = record { at = at; seat = seat; who = who }

-- the table as the card of a number is played; the cards are numbered from 1
abbrev pub table_at : List Sitter → Option Change → ℕ → List Sitter
table_at table None number = table
table_at table (Some change) number = if nat_lt number change.at then table else seat change.seat change.who table

-- before the next card a change that is due is made, and the newcomer hears the cards so far
abbrev pub table_for_next : Option Change → List ℕ → List Sitter → List Sitter
table_for_next None cards table = table
table_for_next (Some change) cards table = if change.at == suc (length cards) then seat change.seat (tell cards change.who) table else table

-- the change that is left to wait for
abbrev pub left_waiting : Option Change → ℕ → Option Change
left_waiting None played = None
left_waiting (Some change) played = if change.at == suc played then None else Some change

-- a seat of the defenders', from the first card on
pub record IsChange (change : Change) : Type 0 where
  pub numbered : 1 ≤ change.at
  pub theirs : is_declarers change.seat ≡ false
