-- Stoppers that count are stoppers in each alike state, and answer for it.
use Rattle.std.proofs.Common.{◌≡◌, ◌⊎◌, ℕ, ◌+◌, ◌≤◌, Bool, true, false, ◌&&◌, max, cond, List, [], length, filter, refl, sym, ap, ap₂, subst, ◌∙◌, inl, inr, arith}
use Rattle.std.proofs.lemmas.Bool.{cases_Bool}
use Rattle.card_sets.specs.declared.card.Suit.{Suit}
use Rattle.card_sets.specs.declared.card.Suit.TheVariants.{Spades, Hearts, Diamonds, Clubs}
use Rattle.card_sets.specs.declared.seat.Seat.{Seat}
use Rattle.card_sets.specs.SetWords.{has_card, IsSubset}
use Rattle.card_sets.proofs.Sets.{has_card-below, has_card-filter, same_set, IsCardSet-filter}
use Rattle.trick_rules.specs.declared.trump.Trump.TheVariants.{NoTrump}
use Rattle.trick_rules.specs.Positions.{State, seat_after, to_play, tricks_left, IsState}
use Rattle.trick_rules.specs.Play.{hand_of, is_declarers}
use Rattle.sure_tricks.specs.Stoppers.{has_suit, rounds_of, rounds, AreStoppers}
use Rattle.sure_tricks.proofs.Hands.{hand_set}
use Rattle.sure_tricks.proofs.AllTricks.{we_fail, they_fail}
use Rattle.equivalent_positions.specs.Alike.{IsClosedUp, AreAlike, HasAnswer}
use Rattle.equivalent_positions.proofs.Likes.{below_counting, alike_turn, alike_tricks}
use Rattle.equivalent_positions.proofs.Answers.{none_there}

module _ (counting : List ℕ) (s t : State) (x : Seat) (stoppers : List ℕ) (closed : IsClosedUp counting) (ok : IsState s) (ok' : IsState t) (a : AreAlike counting s t)
    (within : IsSubset stoppers counting) where
  -- each hand has the same ones
  same_ones : (seat : Seat) → filter (has_card stoppers) (hand_of s seat) ≡ filter (has_card stoppers) (hand_of t seat)
  same_ones seat = same_set (filter (has_card stoppers) (hand_of s seat)) (filter (has_card stoppers) (hand_of t seat))
      (IsCardSet-filter (has_card stoppers) (hand_of s seat) (hand_set s ok seat)) (IsCardSet-filter (has_card stoppers) (hand_of t seat) (hand_set t ok' seat))
      (λ c low. has_card-filter (has_card stoppers) (hand_of s seat) c ∙ agree c (has_card stoppers c) refl ∙ sym (has_card-filter (has_card stoppers) (hand_of t seat) c))
    where
      agree : (c : ℕ) (b : Bool) → has_card stoppers c ≡ b → (has_card (hand_of s seat) c && has_card stoppers c) ≡ (has_card (hand_of t seat) c && has_card stoppers c)
      agree c true e = ap (λ h. h && has_card stoppers c) ((a.hands seat).same c (within c e))
      agree c false e = rw e (none (has_card (hand_of s seat) c) (has_card (hand_of t seat) c))
        where
          none : (b d : Bool) → (b && false) ≡ (d && false)
          none true true = refl
          none true false = refl
          none false true = refl
          none false false = refl

  same_rounds_of : (suit : Suit) → rounds_of s x stoppers suit ≡ rounds_of t x stoppers suit
  same_rounds_of suit = ap₂ (λ (i j : ℕ). cond (has_suit stoppers suit) 0 (max i j)) ((a.hands x).lengths suit) ((a.hands (seat_after 2 x)).lengths suit)

  same_rounds : rounds s x stoppers ≡ rounds t x stoppers
  same_rounds = omega (arith, same_rounds_of Spades, same_rounds_of Hearts, same_rounds_of Diamonds, same_rounds_of Clubs)

  pub stoppers_stay : AreStoppers s x stoppers → AreStoppers t x stoppers
  stoppers_stay are = record {
    held = λ c h. elim (are.held c h) as (λ _. (has_card (hand_of t (seat_after 1 x)) c ≡ true) ⊎ (has_card (hand_of t (seat_after 3 x)) c ≡ true)) [
      | inl next ↦ inl (sym ((a.hands (seat_after 1 x)).same c (within c h)) ∙ next)
      | inr last ↦ inr (sym ((a.hands (seat_after 3 x)).same c (within c h)) ∙ last)
    ];
    highest = λ card other seat stops held suit. elim (cases_Bool (has_card counting other)) as (λ _. other ≤ card) [
      | inl counts ↦ are.highest card other seat stops ((a.hands seat).same other counts ∙ held) suit
      | inr out ↦ (let less = below_counting counting closed card other (within card stops) out (sym suit) (has_card-below (hand_of t seat) other (hand_set t ok' seat) held) in omega arith)
    ];
    lasting = let few = are.lasting in omega (arith, few, same_rounds, alike_tricks counting s t a);
    kept = λ seat. elim (are.kept seat) as (λ _. (length (filter (has_card stoppers) (hand_of t seat)) ≤ 2) ⊎ (length (filter (has_card stoppers) (hand_of t seat)) + rounds t x stoppers ≤ tricks_left t.position)) [
      | inl few ↦ inl (omega (arith, few, ap (length {A = ℕ}) (same_ones seat)))
      | inr room ↦ inr (omega (arith, room, same_rounds, alike_tricks counting s t a, ap (length {A = ℕ}) (same_ones seat)))
    ];
  }

module _ (counting : List ℕ) (s : State) (stoppers : List ℕ) (closed : IsClosedUp counting) (within : IsSubset stoppers counting) (ok : IsState s)
    (none : s.position.trick.cards ≡ []) (no_trump : s.position.trump ≡ NoTrump) (are : AreStoppers s (to_play s.position) stoppers) where
  there : (t : State) → IsState t → AreAlike counting s t → AreStoppers t (to_play t.position) stoppers
  there t ok' a = subst (λ x. AreStoppers t x stoppers) (alike_turn counting s t a) (stoppers_stay counting s t (to_play s.position) stoppers closed ok ok' a within are)

  pub our_failure_answers : is_declarers (to_play s.position) ≡ true → tricks_left s.position ≤ s.position.need → HasAnswer counting s false
  our_failure_answers side all = λ t ok' a.
      we_fail t stoppers ok' (none_there counting s t a none) (sym a.trump ∙ no_trump) (there t ok' a) (ap is_declarers (sym (alike_turn counting s t a)) ∙ side)
      (let need = a.need in let tricks = alike_tricks counting s t a in omega arith)

  pub their_failure_answers : is_declarers (to_play s.position) ≡ false → s.position.need ≤ 1 → HasAnswer counting s true
  their_failure_answers side one = λ t ok' a.
      they_fail t stoppers ok' (none_there counting s t a none) (sym a.trump ∙ no_trump) (there t ok' a) (ap is_declarers (sym (alike_turn counting s t a)) ∙ side)
      (let need = a.need in omega arith)
