-- What each seat plays is told as what it is.
use Rattle.std.proofs.Common.{◌≡◌, ◌≢◌, ◌∙◌, ℕ, Bool, false, cond, List, [], ◌∷◌, ◌++◌, take, drop, refl, sym, ap, append_assoc}
use Rattle.std.specs.Prelude.{codes}
use Rattle.card_sets.specs.declared.seat.Seat.{Seat}
use Rattle.card_sets.specs.declared.seat.Seat.TheVariants.{Declarer, Left, Dummy, Right}
use Rattle.card_sets.specs.declared.seat.Compass.{Compass}
use Rattle.trick_rules.specs.Nodes.{NodeValue}
use Rattle.told_words.specs.declared.turns.Manner.{Manner}
use Rattle.told_words.specs.declared.turns.Manner.TheVariants.{Lead, Follow, Ruff, Throw}
use Rattle.told_words.specs.declared.phrases.Turn.{Turn}
use Rattle.told_words.specs.Turns.{played_so}
use Rattle.told_words.specs.Phrases.{phrase, next_phrase, has_begun, phrases, turns}
use Rattle.told_words.specs.TurnLaws.{EachTurnIsOnce, HasPart, EachTurnIsTold}

pub each_turn_is_once : EachTurnIsOnce
each_turn_is_once Declarer Lead = refl
each_turn_is_once Declarer Follow = refl
each_turn_is_once Declarer Ruff = refl
each_turn_is_once Declarer Throw = refl
each_turn_is_once Dummy Lead = refl
each_turn_is_once Dummy Follow = refl
each_turn_is_once Dummy Ruff = refl
each_turn_is_once Dummy Throw = refl
each_turn_is_once Left Lead = refl
each_turn_is_once Left Follow = refl
each_turn_is_once Left Ruff = refl
each_turn_is_once Left Throw = refl
each_turn_is_once Right Lead = refl
each_turn_is_once Right Follow = refl
each_turn_is_once Right Ruff = refl
each_turn_is_once Right Throw = refl

-- ---- a part of a text

later : (front text part : List ℕ) → HasPart text part → HasPart (front ++ text) part
later front text part h = (
  front ++ h.0,
  h.1,
  ap (λ rest. front ++ rest) h.2 ∙ sym (append_assoc front (h.0 ++ part) h.1) ∙ ap (λ begun. begun ++ h.1) (sym (append_assoc front h.0 part)),
)

module _ (declarer : Compass) (cards : List ℕ) (places : List NodeValue) where
  first : (turn : Turn) (own more : List ℕ) (begun : Bool) → own ≢ [] → HasPart (next_phrase declarer turn own begun ++ more) (phrase declarer turn.seat turn.manner own)
  first turn [] more begun some = absurd (some refl)
  first turn (card ∷ own) more begun some = (
    cond begun (codes ", or ") [],
    more,
    refl,
  )

  -- the phrase of a turn among others
  among : (front back : List Turn) (turn : Turn) (begun : Bool) → played_so turn.seat turn.manner cards places ≢ []
      → HasPart (phrases declarer cards places begun (front ++ turn ∷ back)) (phrase declarer turn.seat turn.manner (played_so turn.seat turn.manner cards places))
  among [] back turn begun some =
      let own = played_so turn.seat turn.manner cards places in
      first turn own (phrases declarer cards places (has_begun own begun) back) begun some
  among (one ∷ front) back turn begun some =
      let own = played_so one.seat one.manner cards places in
      later (next_phrase declarer one own begun) (phrases declarer cards places (has_begun own begun) (front ++ turn ∷ back)) _ (among front back turn (has_begun own begun) some)

-- where a turn stands
split : (seat : Seat) (manner : Manner) → (front back : List Turn) × (turns ≡ front ++ record { seat = seat; manner = manner } ∷ back)
split Declarer Lead = (take 0 turns, drop 1 turns, refl)
split Declarer Follow = (take 1 turns, drop 2 turns, refl)
split Declarer Ruff = (take 2 turns, drop 3 turns, refl)
split Declarer Throw = (take 3 turns, drop 4 turns, refl)
split Dummy Lead = (take 4 turns, drop 5 turns, refl)
split Dummy Follow = (take 5 turns, drop 6 turns, refl)
split Dummy Ruff = (take 6 turns, drop 7 turns, refl)
split Dummy Throw = (take 7 turns, drop 8 turns, refl)
split Left Lead = (take 8 turns, drop 9 turns, refl)
split Left Follow = (take 9 turns, drop 10 turns, refl)
split Left Ruff = (take 10 turns, drop 11 turns, refl)
split Left Throw = (take 11 turns, drop 12 turns, refl)
split Right Lead = (take 12 turns, drop 13 turns, refl)
split Right Follow = (take 13 turns, drop 14 turns, refl)
split Right Ruff = (take 14 turns, drop 15 turns, refl)
split Right Throw = (take 15 turns, drop 16 turns, refl)

pub each_turn_is_told : EachTurnIsTold
each_turn_is_told declarer cards places seat manner some =
    let at = split seat manner in
    let told = among declarer cards places at.0 at.1 (record { seat = seat; manner = manner }) false some in
    (told.0, told.1, ap (phrases declarer cards places false) at.2 ∙ told.2)
