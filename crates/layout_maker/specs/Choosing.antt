-- Hands of Left's that fit: which cards each defender may hold, and how many hands there are.
use Rattle.std.specs.Prelude.{ℕ, zero, suc, ◌+◌, Bool, false, not, ◌&&◌, ◌||◌, Option, None, Some, List, [], ◌∷◌, filter, if◌then◌else◌}
use Rattle.std.specs.List.{list_all}
use Rattle.card_sets.specs.declared.seat.Seat.{Seat}
use Rattle.card_sets.specs.declared.seat.Seat.TheVariants.{Declarer, Left, Dummy, Right}
use Rattle.card_sets.specs.Cards.{suit_of, same_suit}
use Rattle.card_sets.specs.SetWords.{has_card}
use Rattle.trick_rules.specs.declared.trump.Trump.{Trump}
use Rattle.trick_rules.specs.Positions.{TrickValue}
use Rattle.trick_rules.specs.Play.{is_declarers, take_out, next_trick}
use Rattle.pbn_deal.specs.declared.board.Played.{Played}
use Rattle.layout_maker.specs.declared.allowed.MayHold.{MayHold}
use Rattle.layout_maker.specs.Divisions.{hands_of_size}

-- ---- the cards that a defender may hold

-- whether a seat that plays the first card to this trick shows that it doesn't hold the other: one of the suit led, where its own is of another suit
abbrev pub shows_void : List ℕ → ℕ → ℕ → Bool
shows_void [] played card = false
shows_void (led ∷ rest) played card = same_suit (suit_of card) (suit_of led) && not (same_suit (suit_of played) (suit_of led))

-- the cards of a set that the other doesn't have
abbrev pub without : List ℕ → List ℕ → List ℕ
without others cards = filter (λ card. not (has_card others card)) cards

-- what each defender may hold after a card: the other one didn't hold it, and its player may have shown a void
abbrev pub narrowed : Seat → List ℕ → List ℕ → ℕ → MayHold → MayHold
narrowed Declarer trick unseen card may = may
narrowed Left trick unseen card may = record { left = without (filter (shows_void trick card) unseen) may.left; right = take_out card may.right }
narrowed Dummy trick unseen card may = may
narrowed Right trick unseen card may = record { left = take_out card may.left; right = without (filter (shows_void trick card) unseen) may.right }

-- the same after all cards; none if a defender played a card that wasn't unseen
abbrev pub after_plays : Trump → TrickValue → List ℕ → MayHold → List Played → Option MayHold
after_plays trump trick unseen may [] = Some may
after_plays trump trick unseen may (play ∷ plays) =
    if is_declarers play.seat || has_card unseen play.card then after_plays trump (next_trick trump trick play.card) (take_out play.card unseen) (narrowed play.seat trick.cards unseen play.card may) plays
    else None

-- ---- the hands that fit

-- each card of a hand may be Left's, and each other card may be Right's
abbrev pub fits : MayHold → List ℕ → List ℕ → Bool
fits may cards hand = list_all (λ card. if has_card hand card then has_card may.left card else has_card may.right card) cards

-- the hands of a size that fit
unfoldable pub fitting_hands : MayHold → ℕ → List ℕ → List (List ℕ)
fitting_hands may size cards = filter (fits may cards) (hands_of_size size cards)

-- the number of ways to choose this many of some things
abbrev pub ways : ℕ → ℕ → ℕ
ways things zero = 1
ways zero (suc chosen) = 0
ways (suc things) (suc chosen) = ways things chosen + ways things (suc chosen)
