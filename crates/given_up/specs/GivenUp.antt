-- The card of a play-out that gives its layout up.
use Rattle.std.specs.Prelude.{◌≡◌, ℕ, ◌+◌, Bool, true, not, ⊤, Option, None, List, [], ◌∷◌, length, take, get_or, find, if◌then◌else◌}
use Rattle.std.specs.Option.{option_map}
use Rattle.std.specs.List.{range_with_len}
use Rattle.card_sets.specs.SetWords.{has_card}
use Rattle.trick_rules.specs.Positions.{State}
use Rattle.trick_rules.specs.Play.{legal_in, after, makes}
use Rattle.am_match.specs.PlayOuts.{state_after}

-- each of these cards is legal when it is played
abbrev pub AreLegal : State → List ℕ → Type 0
AreLegal s [] = ⊤
AreLegal s (card ∷ cards) = (has_card (legal_in s) card ≡ true) × AreLegal (after s card) cards

-- whether double dummy makes after this many of the cards
abbrev pub makes_after : State → List ℕ → ℕ → Bool
makes_after s cards played = makes (state_after s (take played cards))

-- the place, counted from 0, of the first card after which double dummy no longer makes
unfoldable pub giving_place : State → List ℕ → Option ℕ
giving_place s cards = find (λ place. not (makes_after s cards (place + 1))) (range_with_len 0 (length cards))

-- the card of that place, if double dummy makes at first
unfoldable pub giving_card : State → List ℕ → Option ℕ
giving_card s cards = if makes s then option_map (λ place. get_or cards place 0) (giving_place s cards) else None
