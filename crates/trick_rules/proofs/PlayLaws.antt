-- The laws of play, each under the name of the function whose contract says it. Crates above cite them from here.
use Rattle.std.proofs.Common.{◌≡◌, ◌≢◌, ◌↔◌, ℕ, ◌+◌, ◌<◌, ◌≤◌, Bool, true, false, cond, eqb, length, map, filter, None, Some, All, AllPairs, Contains, refl, sym, ◌∙◌, inl, inr, arith, add-one}
use Rattle.std.specs.List.{list_any, list_all}
use Rattle.std.proofs.lemmas.Bool.{false≢true, cases_Bool}
use Rattle.card_sets.specs.declared.seat.Seat.{Seat}
use Rattle.card_sets.specs.declared.seat.Seat.TheVariants.{Declarer, Left, Dummy, Right}
use Rattle.card_sets.specs.SetWords.{has_card, Apart}
use Rattle.trick_rules.specs.declared.trump.Trump.{Trump}
use Rattle.trick_rules.specs.Positions.{TrickValue, PositionValue, State, seat_after, to_play, played_count, tricks_left, IsSound, IsState}
use Rattle.trick_rules.specs.Play.{IsWonBy, is_declarers, winner_of, after_card, after, held_by, CanPlay, is_over, decided, hand_of, legal_in, makes, Makes, cards_left}
use Rattle.trick_rules.specs.Nodes.{NodeValue, IsNode, states, choices, child}
use Rattle.trick_rules.proofs.Soundness.{after_card_sound, Apart-sym, trick_held}
use Rattle.trick_rules.proofs.States.{after-IsState, tricks_left-after, cards_left-after, legal_can_play, legal_cards-low, some_legal, hand_length, hand_held, right_of-not_left}
use Rattle.trick_rules.proofs.Decisions.{need-after, decided-need, decided-over, decided-after, open-decided}
use Rattle.trick_rules.proofs.DoubleDummy.{makes-over, makes-ours, makes-theirs, makes-decided, Makes-from_makes, makes-from_Makes}
use Rattle.trick_rules.proofs.TrickLemmas.{one_winner}
use Rattle.trick_rules.proofs.NodeLemmas.{states-IsState, child-IsNode, states-child, ours_everywhere, choice_from_legal, choice_everywhere, choice_somewhere, choice_can_play}

-- ---- tricks and positions

pub one_card_wins : (trump : Trump) (trick : TrickValue) → length trick.cards ≡ 4 → All (λ c. c < 52) trick.cards → AllPairs (λ c d. c ≢ d) trick.cards
    → (place : ℕ) × IsWonBy trump trick.cards place × ((other : ℕ) → IsWonBy trump trick.cards other → other ≡ place) × (winner_of trump trick ≡ seat_after place trick.leader)
one_card_wins trump trick four cards differ = one_winner trump trick (omega arith) cards differ

pub a_card_keeps_the_position_sound : (t : PositionValue) (card : ℕ) → IsSound t → CanPlay t card → IsSound (after_card t card)
a_card_keeps_the_position_sound = after_card_sound

pub the_fourth_card_ends_a_trick : (t : PositionValue) (card : ℕ) → IsSound t → CanPlay t card → tricks_left (after_card t card) + cond (eqb (length t.trick.cards) 3) 1 0 ≡ tricks_left t
the_fourth_card_ends_a_trick = tricks_left-after

pub the_need_never_rises : (t : PositionValue) (card : ℕ) → IsSound t → (after_card t card).need ≤ t.need
the_need_never_rises t card sound = (need-after t card sound).0

pub the_need_falls_by_one_at_most : (t : PositionValue) (card : ℕ) → IsSound t → t.need ≤ (after_card t card).need + cond (eqb (length t.trick.cards) 3) 1 0
the_need_falls_by_one_at_most t card sound = (need-after t card sound).1

pub a_card_leaves_one_fewer : (t : PositionValue) (card : ℕ) → IsSound t → CanPlay t card → cards_left (after_card t card) + 1 ≡ cards_left t
a_card_leaves_one_fewer t card sound can = add-one (cards_left (after_card t card)) ∙ cards_left-after t card sound can

pub what_is_decided_stays : (t : PositionValue) (card : ℕ) (made : Bool) → IsSound t → CanPlay t card → decided t ≡ Some made → decided (after_card t card) ≡ Some made
what_is_decided_stays = decided-after

pub what_is_over_is_decided : (t : PositionValue) → is_over t ≡ true → decided t ≡ Some (eqb t.need 0)
what_is_over_is_decided = decided-over

-- ---- states

pub a_legal_card_leads_to_a_state : (s : State) (card : ℕ) → IsState s → has_card (legal_in s) card ≡ true → IsState (after s card)
a_legal_card_leads_to_a_state s card ok h = after-IsState s ok card h

pub a_legal_card_is_held : (s : State) (card : ℕ) → has_card (legal_in s) card ≡ true → has_card (hand_of s (to_play s.position)) card ≡ true
a_legal_card_is_held s card h = legal_cards-low s.position.trick.cards (hand_of s (to_play s.position)) card h

pub a_legal_card_can_be_played : (s : State) (card : ℕ) → IsState s → has_card (legal_in s) card ≡ true → CanPlay s.position card
a_legal_card_can_be_played s card ok h = legal_can_play s ok card h

pub there_is_a_legal_card : (s : State) → IsState s → is_over s.position ≡ false → (card : ℕ) × (has_card (legal_in s) card ≡ true)
there_is_a_legal_card = some_legal

pub there_is_a_legal_card_where_undecided : (s : State) → IsState s → decided s.position ≡ None → (card : ℕ) × (has_card (legal_in s) card ≡ true)
there_is_a_legal_card_where_undecided s ok h = some_legal s ok (open-decided s.position h)

pub hands_have_one_length : (s : State) (seat : Seat) → IsState s → length (hand_of s seat) + played_count s.position seat ≡ tricks_left s.position
hands_have_one_length s seat ok = hand_length s ok seat

-- a card that the seat can't hold is not in its hand
not_held : (s : State) → IsState s → (seat : Seat) (card : ℕ) → has_card (held_by s.position seat) card ≡ false → has_card (hand_of s seat) card ≡ false
not_held s ok seat card gone =
    elim (cases_Bool (has_card (hand_of s seat) card)) as (λ _. has_card (hand_of s seat) card ≡ false) [
      | inl e ↦ absurd (false≢true (sym gone ∙ hand_held s ok seat card e))
      | inr e ↦ e
    ]

pub hands_are_apart : (s : State) (seat other : Seat) → IsState s → seat ≢ other → Apart (hand_of s seat) (hand_of s other)
hands_are_apart s Declarer Declarer ok differ card h = absurd (differ refl)
hands_are_apart s Declarer Left ok differ card h = not_held s ok Left card (ok.sound.declarer_unseen card h)
hands_are_apart s Declarer Dummy ok differ card h = ok.sound.declarer_dummy card h
hands_are_apart s Declarer Right ok differ card h = not_held s ok Right card (ok.sound.declarer_unseen card h)
hands_are_apart s Left Declarer ok differ card h = Apart-sym s.position.declarer s.position.unseen ok.sound.declarer_unseen card (hand_held s ok Left card h)
hands_are_apart s Left Left ok differ card h = absurd (differ refl)
hands_are_apart s Left Dummy ok differ card h = Apart-sym s.position.dummy s.position.unseen ok.sound.dummy_unseen card (hand_held s ok Left card h)
hands_are_apart s Left Right ok differ card h =
    elim (cases_Bool (has_card (hand_of s Right) card)) as (λ _. has_card (hand_of s Right) card ≡ false) [
      | inl e ↦ absurd (false≢true (sym (right_of-not_left s card e) ∙ h))
      | inr e ↦ e
    ]
hands_are_apart s Dummy Declarer ok differ card h = Apart-sym s.position.declarer s.position.dummy ok.sound.declarer_dummy card h
hands_are_apart s Dummy Left ok differ card h = not_held s ok Left card (ok.sound.dummy_unseen card h)
hands_are_apart s Dummy Dummy ok differ card h = absurd (differ refl)
hands_are_apart s Dummy Right ok differ card h = not_held s ok Right card (ok.sound.dummy_unseen card h)
hands_are_apart s Right Declarer ok differ card h = Apart-sym s.position.declarer s.position.unseen ok.sound.declarer_unseen card (hand_held s ok Right card h)
hands_are_apart s Right Left ok differ card h = right_of-not_left s card h
hands_are_apart s Right Dummy ok differ card h = Apart-sym s.position.dummy s.position.unseen ok.sound.dummy_unseen card (hand_held s ok Right card h)
hands_are_apart s Right Right ok differ card h = absurd (differ refl)

pub the_trick_is_not_held : (s : State) (seat : Seat) → IsState s → Apart s.position.trick.cards (hand_of s seat)
the_trick_is_not_held s seat ok card h = not_held s ok seat card (Apart-sym (held_by s.position seat) s.position.trick.cards (trick_held s.position ok.sound seat) card h)

-- ---- double dummy

pub makes_at_the_end : (s : State) → is_over s.position ≡ true → makes s ≡ eqb s.position.need 0
makes_at_the_end = makes-over

pub makes_by_some_card : (s : State) → IsState s → is_over s.position ≡ false → is_declarers (to_play s.position) ≡ true → makes s ≡ list_any (λ card. makes (after s card)) (legal_in s)
makes_by_some_card = makes-ours

pub makes_against_each_card : (s : State) → IsState s → is_over s.position ≡ false → is_declarers (to_play s.position) ≡ false → makes s ≡ list_all (λ card. makes (after s card)) (legal_in s)
makes_against_each_card = makes-theirs

pub makes_by_the_rules : (s : State) → IsState s → (makes s ≡ true) ↔ Makes s
makes_by_the_rules s ok = (Makes-from_makes s, λ h. makes-from_Makes h ok)

pub makes_where_decided : (s : State) (made : Bool) → IsState s → decided s.position ≡ Some made → makes s ≡ made
makes_where_decided s made ok h = makes-decided s ok made h

pub what_is_decided_is_the_need : (t : PositionValue) (made : Bool) → decided t ≡ Some made → made ≡ eqb t.need 0
what_is_decided_is_the_need = decided-need

-- ---- nodes

pub a_layout_gives_a_state : (n : NodeValue) → IsNode n → All IsState (states n)
a_layout_gives_a_state = states-IsState

pub a_choice_leads_to_a_node : (n : NodeValue) (card : ℕ) → IsNode n → has_card (choices n) card ≡ true → IsNode (child n card)
a_choice_leads_to_a_node = child-IsNode

pub a_child_keeps_the_states : (n : NodeValue) (card : ℕ) → states (child n card) ≡ map (λ s. after s card) (filter (λ s. has_card (legal_in s) card) (states n))
a_child_keeps_the_states = states-child

pub our_choices_are_legal_everywhere : (n : NodeValue) (card : ℕ) → is_declarers (to_play n.position) ≡ true → has_card (choices n) card ≡ true → All (λ s. has_card (legal_in s) card ≡ true) (states n)
our_choices_are_legal_everywhere = ours_everywhere

pub what_is_legal_is_a_choice : (n : NodeValue) (card : ℕ) (s : State) → IsNode n → Contains (states n) s → has_card (legal_in s) card ≡ true → has_card (choices n) card ≡ true
what_is_legal_is_a_choice = choice_from_legal

pub there_is_a_choice : (n : NodeValue) → IsNode n → is_over n.position ≡ false → (card : ℕ) × (has_card (choices n) card ≡ true)
there_is_a_choice = choice_somewhere

pub there_is_a_choice_everywhere : (n : NodeValue) (s : State) → IsNode n → is_over n.position ≡ false → Contains (states n) s → (card : ℕ) × (has_card (choices n) card ≡ true) × (has_card (legal_in s) card ≡ true)
there_is_a_choice_everywhere = choice_everywhere

pub a_choice_can_be_played : (n : NodeValue) (card : ℕ) → IsNode n → has_card (choices n) card ≡ true → CanPlay n.position card
a_choice_can_be_played = choice_can_play
