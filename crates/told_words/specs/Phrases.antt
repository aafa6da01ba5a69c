-- The words for what a seat does.
use Rattle.std.specs.Prelude.{ℕ, Bool, true, false, Option, None, Some, List, [], ◌∷◌, ◌++◌, map, flat_map, codes, if◌then◌else◌}
use Rattle.std.specs.List.{list_all}
use Rattle.std.proofs.Math.Bool.{beq}
use Rattle.card_sets.specs.declared.seat.Seat.{Seat}
use Rattle.card_sets.specs.declared.seat.Seat.TheVariants.{Declarer, Left, Dummy, Right}
use Rattle.card_sets.specs.declared.seat.Compass.{Compass}
use Rattle.card_sets.specs.declared.seat.Compass.TheVariants.{N, E, S, W}
use Rattle.card_letters.specs.Letters.{letters_of}
use Rattle.pbn_deal.specs.Boards.{compass_of}
use Rattle.trick_rules.specs.Play.{decided}
use Rattle.trick_rules.specs.Nodes.{NodeValue}
use Rattle.told_words.specs.declared.turns.Manner.{Manner}
use Rattle.told_words.specs.declared.turns.Manner.TheVariants.{Lead, Follow, Ruff, Throw}
use Rattle.told_words.specs.declared.phrases.Turn.{Turn}
use Rattle.told_words.specs.Turns.{played_so}

abbrev pub compass_name : Compass → List ℕ
compass_name N = codes "North"
compass_name E = codes "East"
compass_name S = codes "South"
compass_name W = codes "West"

-- a seat by its place at the table
abbrev pub seat_name : Compass → Seat → List ℕ
seat_name declarer seat = compass_name (compass_of declarer seat)

-- the cards after the first: `, D6 or D9`
abbrev pub more_cards : List ℕ → List ℕ
more_cards [] = []
more_cards (card ∷ []) = codes " or " ++ letters_of card
more_cards (card ∷ next ∷ cards) = codes ", " ++ letters_of card ++ more_cards (next ∷ cards)

-- `D2, D6 or D9`
abbrev pub cards_text : List ℕ → List ℕ
cards_text [] = []
cards_text (card ∷ cards) = letters_of card ++ more_cards cards

-- the words for a manner: those of an order to declarer, and those of what a defender does
abbrev pub words : Manner → List ℕ × List ℕ
words Lead = (codes "lead ", codes " leads ")
words Follow = (codes "play ", codes " plays ")
words Ruff = (codes "ruff with ", codes " ruffs with ")
words Throw = (codes "throw ", codes " throws ")

-- what declarer is to do
abbrev pub order_word : Manner → List ℕ
order_word manner = (words manner).0

-- what a defender does
abbrev pub verb : Manner → List ℕ
verb manner = (words manner).1

-- a seat and what it plays: `play DA from hand`, `West plays D2 or D6`
abbrev pub phrase : Compass → Seat → Manner → List ℕ → List ℕ
phrase declarer Declarer manner cards = order_word manner ++ cards_text cards ++ codes " from hand"
phrase declarer Dummy manner cards = order_word manner ++ cards_text cards ++ codes " from dummy"
phrase declarer Left manner cards = seat_name declarer Left ++ verb manner ++ cards_text cards
phrase declarer Right manner cards = seat_name declarer Right ++ verb manner ++ cards_text cards

-- the phrase of a turn, if it has a card, after `, or ` if it isn't the first
abbrev pub next_phrase : Compass → Turn → List ℕ → Bool → List ℕ
next_phrase declarer turn [] begun = []
next_phrase declarer turn (card ∷ cards) begun = (if begun then codes ", or " else []) ++ phrase declarer turn.seat turn.manner (card ∷ cards)

-- whether there is a phrase by now
abbrev pub has_begun : List ℕ → Bool → Bool
has_begun [] begun = begun
has_begun (card ∷ cards) begun = true

-- the phrases of these turns
abbrev pub phrases : Compass → List ℕ → List NodeValue → Bool → List Turn → List ℕ
phrases declarer cards places begun [] = []
phrases declarer cards places begun (turn ∷ turns) =
    let own = played_so turn.seat turn.manner cards places in
    next_phrase declarer turn own begun ++ phrases declarer cards places (has_begun own begun) turns

-- declarer's side and then the defenders, each with every manner
abbrev pub turns : List Turn
turns = flat_map (λ seat. map (λ manner. record { seat = seat; manner = manner }) (Lead ∷ Follow ∷ Ruff ∷ Throw ∷ [])) (Declarer ∷ Dummy ∷ Left ∷ Right ∷ [])

-- who plays one of the cards at these nodes, and how
abbrev pub turn_text : Compass → List ℕ → List NodeValue → List ℕ
turn_text declarer cards places = phrases declarer cards places false turns

-- whether the result is decided, and is this one
abbrev pub is_result : Bool → Option Bool → Bool
is_result made None = false
is_result made (Some result) = beq made result

-- how a plan stops
abbrev pub end_text : List NodeValue → List ℕ
end_text places =
    if list_all (λ n. is_result true (decided n.position)) places then codes "the contract is made"
    else if list_all (λ n. is_result false (decided n.position)) places then codes "the contract is down"
    else codes "the plan ends here"
