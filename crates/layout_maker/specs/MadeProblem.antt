-- The problem of a number: an ending of five tricks with the honours of each suit, and forty layouts of it.
use Rattle.std.specs.Prelude.{◌≡◌, ℕ, ◌%◌, ◌≤◌, true, false, nat_le, Some, None, Ok, List, [], ◌∷◌, ◌++◌, length, take, drop, flat_map, codes}
use Rattle.card_sets.specs.Cards.{rank_of}
use Rattle.card_sets.specs.SetWords.{has_card, cards_where}
use Rattle.trick_rules.specs.Positions.{to_play}
use Rattle.trick_rules.specs.Play.{is_over, is_declarers}
use Rattle.pbn_text.specs.Games.{GameValue}
use Rattle.pbn_text.specs.Grammar.{games_read}
use Rattle.pbn_deal.specs.Boards.{BoardValue}
use Rattle.pbn_deal.specs.BoardRead.{board_read}
use Rattle.pbn_deal.specs.Writing.{deal_text}
use Rattle.layout_list.specs.Kept.{KeptValue}
use Rattle.layout_list.specs.Layouts.{layouts_read}
use Rattle.layout_maker.specs.Generator.{Shuffle, shuffled, orders}

-- ---- the hands

-- the tens, jacks, queens, kings and aces, in card order
abbrev pub short_pack : List ℕ
short_pack = cards_where (λ card. nat_le 10 (rank_of card))

-- the short pack after its shuffle
abbrev pub dealt : ℕ → Shuffle
dealt number = shuffled (record { items = short_pack; state = number % 65537 })

-- the set of these cards
abbrev pub set_of : List ℕ → List ℕ
set_of cards = cards_where (has_card cards)

-- South, who is declarer, has the first five cards
abbrev pub south_hand : ℕ → List ℕ
south_hand number = set_of (take 5 (dealt number).items)

-- North has the next five
abbrev pub north_hand : ℕ → List ℕ
north_hand number = set_of (take 5 (drop 5 (dealt number).items))

-- the other ten cards as they come out of the shuffle, and the generator's number then
abbrev pub undealt : ℕ → Shuffle
undealt number = record { items = drop 10 (dealt number).items; state = (dealt number).state }

-- West has the first five of the ten cards in an order of them
abbrev pub west_hand : List ℕ → List ℕ
west_hand order = set_of (take 5 order)

-- East has the others
abbrev pub east_hand : List ℕ → List ℕ
east_hand order = set_of (drop 5 order)

-- ---- the texts

-- a tag pair on a line of its own
abbrev pub tag_line : List ℕ → List ℕ → List ℕ
tag_line name value = codes "[" ++ name ++ codes " \"" ++ value ++ codes "\"]\n"

-- the deal file of these hands of North and South: two tricks are to be made in no trump, with South to lead
unfoldable pub deal_file : List ℕ → List ℕ → List ℕ
deal_file north south =
    tag_line (codes "Deal") (deal_text (Some north ∷ None ∷ Some south ∷ None ∷ []))
    ++ tag_line (codes "Declarer") (codes "S") ++ tag_line (codes "Contract") (codes "1NT") ++ tag_line (codes "EndNeed") (codes "2")
    ++ tag_line (codes "EndLead") (codes "S")

-- the line of a layout: North's and South's hands, and the defenders' cards in this order
unfoldable pub order_line : List ℕ → List ℕ → List ℕ → List ℕ
order_line north south order = deal_text (Some north ∷ Some (east_hand order) ∷ Some south ∷ Some (west_hand order) ∷ []) ++ codes "\n"

-- a layout file with a line for each order of the defenders' cards
abbrev pub layout_file : List ℕ → List ℕ → List (List ℕ) → List ℕ
layout_file north south all = flat_map (order_line north south) all

-- the deal file of a number
unfoldable pub made_deal : ℕ → List ℕ
made_deal number = deal_file (north_hand number) (south_hand number)

-- the layout file of a number: forty lines, for the ten cards shuffled forty times over
unfoldable pub made_layouts : ℕ → List ℕ
made_layouts number = layout_file (north_hand number) (south_hand number) (orders 40 (undealt number))

-- ---- the texts as they are read

-- the texts of a number's problem are short files that are accepted: the deal file has one game, which is a board; all
-- forty layouts are layouts of that board, and none of them is dropped; the play isn't over, and declarer's side is to play
pub record IsAcceptedProblem (number : ℕ) : Type 0 where
  pub game : GameValue
  pub board : BoardValue
  pub kept : KeptValue
  pub one_game : games_read (made_deal number) ≡ Ok (game ∷ [])
  pub its_board : board_read game ≡ Ok board
  pub its_layouts : layouts_read (made_layouts number) board ≡ Ok kept
  pub forty : length kept.numbers ≡ 40
  pub none_dropped : kept.dropped ≡ []
  pub is_on : is_over kept.node.position ≡ false
  pub own_turn : is_declarers (to_play kept.node.position) ≡ true
  pub short_deal : length (made_deal number) ≤ 10000
  pub short_layouts : length (made_layouts number) ≤ 10000
