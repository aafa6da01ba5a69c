-- The decisions of declarer's side in the play of a board. A card's place in the play is counted from 0.
use Rattle.std.specs.Prelude.{◌≡◌, ◌⊎◌, ℕ, ◌+◌, ◌/◌, ◌<◌, ◌≤◌, true, false, List, length, map, Contains, Option, Some, IfSome, IsSome, Result, Ok, Err, slice_get}
use Rattle.std.specs.List.{All, AllPairs}
use Rattle.card_sets.specs.SetWords.{has_card}
use Rattle.trick_rules.specs.Positions.{to_play}
use Rattle.trick_rules.specs.Play.{is_declarers, is_over}
use Rattle.trick_rules.specs.Nodes.{NodeValue, choices}
use Rattle.equal_cards.specs.Equals.{IsLowest}
use Rattle.pbn_deal.specs.declared.board.Played.{Played}
use Rattle.pbn_deal.specs.Boards.{BoardValue}
use Rattle.pbn_deal.specs.Moments.{board_before}
use Rattle.layout_list.specs.declared.fault.LayoutFault.{LayoutFault}
use Rattle.layout_list.specs.declared.fault.LayoutFault.TheVariants.{Memory}
use Rattle.layout_list.specs.Kept.{KeptValue}
use Rattle.layout_list.specs.Layouts.{layouts_read}
use Rattle.board_decisions.specs.declared.list.Decision.{Decision}

-- the trick of a card, counted from 1
abbrev pub trick_of : ℕ → ℕ
trick_of place = place / 4 + 1

-- declarer's or dummy's card at a place of the play, in this trick or a later one
pub record IsTurn (board : BoardValue) (from place : ℕ) (played : Played) : Type 0 where
  pub is_played : slice_get board.plays place ≡ Some played
  pub ours : is_declarers played.seat ≡ true
  pub late : from ≤ trick_of place

-- the layouts of a file just before a card: those that the play up to there allows
abbrev pub kept_before : BoardValue → List ℕ → ℕ → Result KeptValue LayoutFault
kept_before board layouts place = layouts_read layouts (board_before board place)

-- two legal cards that aren't equal: of equal cards the lowest stands for all
abbrev pub HasTwoCards : NodeValue → Type 0
HasTwoCards n = (low : ℕ) × (high : ℕ) × IsLowest n low × IsLowest n high × (low < high)

-- declarer's side is to play, and the card is legal
pub record IsOurs (n : NodeValue) (card : ℕ) : Type 0 where
  pub goes_on : is_over n.position ≡ false
  pub ours : is_declarers (to_play n.position) ≡ true
  pub legal : has_card (choices n) card ≡ true

-- the card was chosen: declarer's side is to play, the card is legal, and two legal cards aren't equal
abbrev pub IsChosen : NodeValue → ℕ → Type 0
IsChosen n card = IsOurs n card × HasTwoCards n

-- a decision: a card of declarer's side in this trick or a later one, chosen at the node just before it
pub record IsDecision (board : BoardValue) (layouts : List ℕ) (from place : ℕ) (played : Played) (kept : KeptValue) : Type 0 where
  pub turn : IsTurn board from place played
  pub kept_is : kept_before board layouts place ≡ Ok kept
  pub chosen : IsChosen kept.node played.card

-- ---- all decisions

-- the decisions of a board from a trick on, in the order of play, and nothing else; before each card of declarer's side some
-- layout is left
pub record AreDecisions (board : BoardValue) (layouts : List ℕ) (from : ℕ) (decisions : List Decision) : Type 0 where
  pub each : All (λ d. IsDecision board layouts from d.place d.played d.kept) decisions
  pub in_order : AllPairs (λ earlier later. earlier.place < later.place) decisions
  pub all : (place : ℕ) (played : Played) → IsTurn board from place played
      → (kept : KeptValue) × (kept_before board layouts place ≡ Ok kept)
      × (IsChosen kept.node played.card → Contains (map (λ d. d.place) decisions) place)

-- a weight for each layout
abbrev pub IsWeighed : Decision → Type 0
IsWeighed decision = length decision.kept.weights ≡ length decision.kept.node.lefts

-- the layout file is refused just before some card of declarer's side, or an allocation failed
abbrev pub IsFaultBefore : BoardValue → List ℕ → ℕ → LayoutFault → Type 0
IsFaultBefore board layouts from fault = (fault ≡ Memory)
    ⊎ ((place : ℕ) × (played : Played) × IsTurn board from place played × (kept_before board layouts place ≡ Err fault))

-- the decision at a place, if the card there is one
pub record IsFoundAt (board : BoardValue) (layouts : List ℕ) (from place : ℕ) (found : Option Decision) : Type 0 where
  pub some : IfSome found (λ d. (d.place ≡ place) × IsDecision board layouts from d.place d.played d.kept)
  pub all : (played : Played) → IsTurn board from place played
      → (kept : KeptValue) × (kept_before board layouts place ≡ Ok kept) × (IsChosen kept.node played.card → IsSome found)
