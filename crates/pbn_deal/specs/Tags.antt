-- What the tags of a game say: the deal, the contract, declarer, and how much of the play is left.
use Rattle.std.specs.Prelude.{ℕ, ◌+◌, ◌-◌, ◌*◌, Bool, false, ◌&&◌, ◌==◌, nat_le, Option, None, Some, Result, Ok, Err, List, [], ◌∷◌, length, find, option_map, ok_or, codes, bytes_eq, if◌then◌else◌}
use Rattle.std.specs.Option.{option_or}
use Rattle.std.specs.Char.{is_ascii_digit}
use Rattle.card_sets.specs.declared.card.Suit.{Suit}
use Rattle.card_sets.specs.declared.seat.Seat.TheVariants.{Left}
use Rattle.card_sets.specs.declared.seat.Compass.{Compass}
use Rattle.card_letters.specs.Letters.{is_letter, suit_read, compass_read}
use Rattle.trick_rules.specs.declared.trump.Trump.{Trump}
use Rattle.trick_rules.specs.declared.trump.Trump.TheVariants.{NoTrump, Suit as Suited}
use Rattle.byte_text.specs.Steps.{◌>>=◌}
use Rattle.byte_text.specs.Blanks.{after_blanks}
use Rattle.pbn_text.specs.Games.{TagValue, GameValue}
use Rattle.pbn_deal.specs.declared.deal.DealValue.{DealValue}
use Rattle.pbn_deal.specs.declared.deal.DealFault.{DealFault}
use Rattle.pbn_deal.specs.declared.fault.BoardFault.{BoardFault}
use Rattle.pbn_deal.specs.declared.fault.BoardFault.TheVariants.{NoDeal, NoDeclarer, NoContract, PassedOut, BadContract, EndTags, Deal}
use Rattle.pbn_deal.specs.declared.fault.BoardRefusal.{BoardRefusal}
use Rattle.pbn_deal.specs.declared.fault.BoardRefusal.TheVariants.{Fault}
use Rattle.pbn_deal.specs.declared.tags.Contract.{Contract}
use Rattle.pbn_deal.specs.declared.tags.Ending.{Ending}
use Rattle.pbn_deal.specs.Deal.{deal_read}
use Rattle.pbn_deal.specs.Boards.{seat_of}

-- ---- tags

-- the first tag of a name
abbrev pub tag_named : List ℕ → GameValue → Option TagValue
tag_named name game = find (λ tag. bytes_eq tag.name name) game.tags

-- the line of the first tag
abbrev pub first_line : List TagValue → ℕ
first_line [] = 0
first_line (tag ∷ tags) = tag.line

-- the first tag of a name, or else a fault at the game's first tag
abbrev pub tag_or : BoardFault → List ℕ → GameValue → Result TagValue BoardRefusal
tag_or fault name game = ok_or (tag_named name game) (Fault (first_line game.tags) fault)

-- ---- inherited values

-- a value that begins with a hash sign
abbrev pub is_inherited : List ℕ → Bool
is_inherited [] = false
is_inherited (byte ∷ rest) = byte == 35

-- the line of a tag whose value is inherited
abbrev pub line_if_inherited : Option TagValue → Option ℕ
line_if_inherited None = None
line_if_inherited (Some tag) = if is_inherited tag.value then Some tag.line else None

-- the line of the first of these four tags whose value is inherited
abbrev pub inherited_line : GameValue → Option ℕ
inherited_line game =
    option_or (line_if_inherited (tag_named (codes "Deal") game)) (option_or (line_if_inherited (tag_named (codes "Contract") game)) (option_or (line_if_inherited (tag_named (codes "Declarer") game)) (line_if_inherited (tag_named (codes "Play") game))))

-- ---- the deal

-- the hands that were read, or the fault of the deal at this line
abbrev pub deal_at : ℕ → Result DealValue DealFault → Result DealValue BoardRefusal
deal_at line (Ok deal) = Ok deal
deal_at line (Err fault) = Err (Fault line (Deal fault))

-- the hands of the Deal tag
abbrev pub deal_in : GameValue → Result DealValue BoardRefusal
deal_in game = do
  tag ← tag_or NoDeal (codes "Deal") game
  deal_at tag.line (deal_read tag.value)

-- ---- the contract

-- the word Pass in any case
abbrev pub is_pass : List ℕ → Bool
is_pass (p ∷ a ∷ s ∷ t ∷ []) = is_letter 80 p && is_letter 65 a && is_letter 83 s && is_letter 83 t
is_pass _ = false

-- what follows a letter, if the text begins with it
abbrev pub past_letter : ℕ → List ℕ → List ℕ
past_letter letter [] = []
past_letter letter (byte ∷ rest) = if is_letter letter byte then rest else byte ∷ rest

-- nothing, X or XX, and then blanks alone
abbrev pub is_risk : List ℕ → Bool
is_risk text = length (after_blanks (past_letter 88 (past_letter 88 text))) == 0

-- these trumps, if nothing follows but X, XX and blanks
abbrev pub if_risk : Trump → List ℕ → Option Trump
if_risk trump text = if is_risk text then Some trump else None

-- a suit, N or NT, and what may follow it
abbrev pub trump_read : List ℕ → Option Trump
trump_read [] = None
trump_read (byte ∷ rest) = if is_letter 78 byte then if_risk NoTrump (past_letter 84 rest) else suited_read (suit_read byte) rest where
  suited_read : Option Suit → List ℕ → Option Trump
  suited_read None rest = None
  suited_read (Some suit) rest = if_risk (Suited suit) rest

-- a level from 1 to 7 and the trumps, with blanks at both ends
abbrev pub contract_read : List ℕ → Option Contract
contract_read value = at_level (after_blanks value) where
  at_level : List ℕ → Option Contract
  at_level [] = None
  at_level (level ∷ rest) =
      if nat_le 49 level && nat_le level 55 then option_map (λ trump. record { level = level - 48; trump = trump }) (trump_read rest) else None

-- the contract of the Contract tag
abbrev pub contract_in : GameValue → Result Contract BoardRefusal
contract_in game = do
  tag ← tag_or NoContract (codes "Contract") game
  if is_pass tag.value then Err (Fault tag.line PassedOut) else ok_or (contract_read tag.value) (Fault tag.line BadContract)

-- ---- declarer

-- one seat letter
abbrev pub seat_named : List ℕ → Option Compass
seat_named [] = None
seat_named (letter ∷ []) = compass_read letter
seat_named (letter ∷ second ∷ rest) = None

-- the seat of the Declarer tag
abbrev pub declarer_in : GameValue → Result Compass BoardRefusal
declarer_in game = do
  tag ← tag_or NoDeclarer (codes "Declarer") game
  ok_or (seat_named tag.value) (Fault tag.line NoDeclarer)

-- ---- how much of the play is left

-- a decimal number from 0 to 13 of one or two digits
abbrev pub need_read : List ℕ → Option ℕ
need_read (digit ∷ []) = if is_ascii_digit digit then Some (digit - 48) else None
need_read (tens ∷ ones ∷ []) =
    if is_ascii_digit tens && is_ascii_digit ones && nat_le (10 * (tens - 48) + (ones - 48)) 13 then Some (10 * (tens - 48) + (ones - 48)) else None
need_read _ = None

-- the need and the first leader: by both tags of an ending, or by the contract if there is neither and no card is missing
abbrev pub ending_read : ℕ → Compass → Contract → ℕ → Option TagValue → Option TagValue → Result Ending BoardRefusal
ending_read line declarer contract tricks None None =
    if tricks == 13 then Ok (record { need = contract.level + 6; leader = Left }) else Err (Fault line EndTags)
ending_read line declarer contract tricks (Some need) None = Err (Fault need.line EndTags)
ending_read line declarer contract tricks None (Some lead) = Err (Fault lead.line EndTags)
ending_read line declarer contract tricks (Some need) (Some lead) = do
  number ← ok_or (need_read need.value) (Fault need.line EndTags)
  seat ← ok_or (seat_named lead.value) (Fault lead.line EndTags)
  Ok (record { need = number; leader = seat_of declarer seat })
