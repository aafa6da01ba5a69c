-- The play of a board at a layout, card by card.
use Rattle.std.proofs.Common.{◌≡◌, ℕ, Bool, true, false, not, cond, List, ◌∷◌, None, Some, refl, sym, ap, ◌∙◌, subst}
use Rattle.card_sets.specs.declared.seat.Seat.{Seat}
use Rattle.card_sets.specs.declared.seat.Seat.TheVariants.{Declarer, Left, Dummy, Right}
use Rattle.card_sets.specs.SetWords.{has_card}
use Rattle.card_sets.proofs.SetCounts.{take_out-absent}
use Rattle.card_sets.proofs.Sets.{Apart-sym}
use Rattle.trick_rules.specs.declared.trump.Trump.{Trump}
use Rattle.trick_rules.specs.Positions.{PositionValue, State, IsSound, IsState, to_play}
use Rattle.trick_rules.specs.Play.{legal_cards, take_out, next_trick, after_card, after, held_by, hand_of, legal_in, CanPlay}
use Rattle.trick_rules.proofs.States.{after_card-declarer, after_card-dummy, after_card-trump, after_card-trick}
use Rattle.trick_rules.proofs.PlayLaws.{a_legal_card_leads_to_a_state, a_legal_card_can_be_played}
use Rattle.pbn_deal.specs.declared.board.Played.{Played}
use Rattle.pbn_deal.specs.declared.course.Course.{Course}
use Rattle.pbn_deal.specs.Boards.{declarer_without, dummy_without, next_course, IsFair, IsCourse}
use Rattle.layout_list.specs.declared.kept.Cause.TheVariants.{NotHeld, Revoke}
use Rattle.layout_list.specs.Verdicts.{cause_of, course_of}

-- ---- a position and the course of play after a card

declarer_after : (t : PositionValue) (card : ℕ) → IsSound t → (seat : Seat) → has_card (held_by t seat) card ≡ true → declarer_without seat card t.declarer ≡ take_out card t.declarer
declarer_after t card sound Declarer holds = refl
declarer_after t card sound Left holds = sym (take_out-absent t.declarer card (Apart-sym t.declarer t.unseen sound.declarer_unseen card holds))
declarer_after t card sound Dummy holds = sym (take_out-absent t.declarer card (Apart-sym t.declarer t.dummy sound.declarer_dummy card holds))
declarer_after t card sound Right holds = sym (take_out-absent t.declarer card (Apart-sym t.declarer t.unseen sound.declarer_unseen card holds))

dummy_after : (t : PositionValue) (card : ℕ) → IsSound t → (seat : Seat) → has_card (held_by t seat) card ≡ true → dummy_without seat card t.dummy ≡ take_out card t.dummy
dummy_after t card sound Declarer holds = sym (take_out-absent t.dummy card (sound.declarer_dummy card holds))
dummy_after t card sound Left holds = sym (take_out-absent t.dummy card (Apart-sym t.dummy t.unseen sound.dummy_unseen card holds))
dummy_after t card sound Dummy holds = refl
dummy_after t card sound Right holds = sym (take_out-absent t.dummy card (Apart-sym t.dummy t.unseen sound.dummy_unseen card holds))

-- a card that can be played leads to the same course
course_of-after : (t : PositionValue) (card : ℕ) → IsSound t → CanPlay t card → next_course t.trump (course_of t) card ≡ course_of (after_card t card)
course_of-after t card sound can =
    let own = declarer_after t card sound (to_play t) can ∙ sym (after_card-declarer t card) in
    let dummy = dummy_after t card sound (to_play t) can ∙ sym (after_card-dummy t card) in
    ap (λ d. record { declarer = d; dummy = dummy_without (to_play t) card t.dummy; trick = next_trick t.trump t.trick card }) own
    ∙ ap (λ d. record { declarer = (after_card t card).declarer; dummy = d; trick = next_trick t.trump t.trick card }) dummy
    ∙ ap (λ k. record { declarer = (after_card t card).declarer; dummy = (after_card t card).dummy; trick = k }) (sym (after_card-trick t card))

-- ---- a card that a layout allows

no_cause : (held legal : Bool) → cond (not held) (Some NotHeld) (cond (not legal) (Some Revoke) None) ≡ None → legal ≡ true
no_cause true true none = refl
no_cause true false none = cc
no_cause false legal none = cc

legal_without_cause : (s : State) (seat : Seat) (card : ℕ) → IsFair (course_of s.position) seat card → cause_of s (record { seat = seat; card = card }) ≡ None
    → has_card (legal_cards s.position.trick.cards (hand_of s seat)) card ≡ true
legal_without_cause s Declarer card fair none = fair
legal_without_cause s Left card fair none = no_cause (has_card (hand_of s Left) card) (has_card (legal_cards s.position.trick.cards (hand_of s Left)) card) none
legal_without_cause s Dummy card fair none = fair
legal_without_cause s Right card fair none = no_cause (has_card (hand_of s Right) card) (has_card (legal_cards s.position.trick.cards (hand_of s Right)) card) none

-- what a card that a layout allows leads to
pub record Onward (s : State) (play : Played) (plays : List Played) : Type 0 where
  pub can : CanPlay s.position play.card
  pub state : IsState (after s play.card)
  pub fair : IsCourse (after s play.card).position.trump (course_of (after s play.card).position) plays

pub onward : (s : State) (play : Played) (plays : List Played) → IsState s → IsCourse s.position.trump (course_of s.position) (play ∷ plays) → cause_of s play ≡ None → Onward s play plays
onward s play plays state fair none =
    let turn : play.seat ≡ to_play s.position = fair.0 in
    let legal : has_card (legal_in s) play.card ≡ true =
    subst (λ (seat : Seat). has_card (legal_cards s.position.trick.cards (hand_of s seat)) play.card ≡ true) turn (legal_without_cause s play.seat play.card fair.1 none) in
    let can = a_legal_card_can_be_played s play.card state legal in
    let moved = subst (λ (k : Course). IsCourse s.position.trump k plays) (course_of-after s.position play.card state.sound can) fair.2 in
    record {
      can = can;
      state = a_legal_card_leads_to_a_state s play.card state legal;
      fair = subst (λ (trump : Trump). IsCourse trump (course_of (after s play.card).position) plays) (sym (after_card-trump s.position play.card)) moved;
    }
