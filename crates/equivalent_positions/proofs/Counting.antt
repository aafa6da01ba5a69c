-- Cards that count: sets that are closed up, a trick that is settled, hands that are alike between tricks.
use Rattle.std.proofs.Common.{◌≡◌, ◌≢◌, ℕ, ◌+◌, ◌<◌, ◌≤◌, Bool, true, false, not, ◌&&◌, ◌||◌, ltb, List, [], length, filter, get_or, All, AllPairs, refl, sym, ap, ap₂, subst, ◌∙◌, inl, inr, arith}
use Rattle.std.proofs.Math.Bool.{and-true, and-false}
use Rattle.std.proofs.lemmas.Bool.{false≢true, or_cases, or_left, or_right, and_parts, not-true, ltb-false, le-ltb}
use Rattle.std.proofs.lemmas.List.Filters.{length-filter_both}
use Rattle.card_sets.specs.declared.card.Suit.{Suit}
use Rattle.card_sets.specs.declared.seat.Seat.{Seat}
use Rattle.card_sets.specs.declared.seat.Seat.TheVariants.{Declarer, Left, Dummy, Right}
use Rattle.card_sets.specs.Cards.{suit_of, same_suit}
use Rattle.card_sets.specs.SetWords.{has_card, cards_where}
use Rattle.card_sets.proofs.Sets.{has_card-cards_where, has_card-below, has_card-filter, IsCardSet-cards_where, IsCardSet-filter, same_set}
use Rattle.card_sets.proofs.Suits.{same_suit-true}
use Rattle.trick_rules.specs.declared.trump.Trump.{Trump}
use Rattle.trick_rules.specs.Positions.{TrickValue, State, IsState}
use Rattle.trick_rules.specs.Play.{of_suit, hand_of, IsWonBy}
use Rattle.trick_rules.proofs.TrickLemmas.{one_winner}
use Rattle.sure_tricks.proofs.Counting.{filter-filter}
use Rattle.sure_tricks.proofs.Holding.{suit_test}
use Rattle.equivalent_positions.specs.Alike.{IsClosedUp, IsLikeHand, AreAlike, SettlesTrick}

-- ---- closed up

pub no_card_is_closed_up : IsClosedUp []
no_card_is_closed_up card higher h suit more low = absurd (false≢true h)

-- a member of a set that a test makes passes the test
passes : (test : ℕ → Bool) (c : ℕ) → has_card (cards_where test) c ≡ true → test c ≡ true
passes test c h = sym (has_card-cards_where test c (has_card-below (cards_where test) c (IsCardSet-cards_where test) h)) ∙ h

pub a_card_and_all_higher : (low : ℕ) → IsClosedUp (cards_where (λ c. same_suit (suit_of c) (suit_of low) && not (ltb c low)))
a_card_and_all_higher low card higher h suit more fits =
    let test = λ (c : ℕ). same_suit (suit_of c) (suit_of low) && not (ltb c low) in
    let both = and_parts (same_suit (suit_of card) (suit_of low)) (not (ltb card low)) (passes test card h) in
    let from : low ≤ card = ltb-false card low (not-true (ltb card low) both.1) in
    has_card-cards_where test higher fits
    ∙ rw (suit_test higher (suit_of low) (sym suit ∙ same_suit-true (suit_of card) (suit_of low) both.0), le-ltb higher low (omega arith)) refl

pub both_are_closed_up : (these those : List ℕ) → IsClosedUp these → IsClosedUp those → IsClosedUp (cards_where (λ c. has_card these c || has_card those c))
both_are_closed_up these those one other card higher h suit more fits =
    let test = λ (c : ℕ). has_card these c || has_card those c in
    has_card-cards_where test higher fits
    ∙ elim (or_cases (has_card these card) (has_card those card) (passes test card h)) as (λ _. (has_card these higher || has_card those higher) ≡ true) [
      | inl e ↦ or_left (has_card these higher) (has_card those higher) (one card higher e suit more fits)
      | inr e ↦ or_right (has_card these higher) (has_card those higher) (other card higher e suit more fits)
    ]

-- ---- a trick

pub the_winner_settles_its_trick : (counting : List ℕ) (trump : Trump) (cards : List ℕ) (place : ℕ) → All (λ c. c < 52) cards → AllPairs (λ c d. c ≢ d) cards
    → IsWonBy trump cards place → has_card counting (get_or cards place 0) ≡ true → SettlesTrick counting trump cards
the_winner_settles_its_trick counting trump cards place low differ won counts other wins =
    let one = one_winner trump (record { leader = Declarer; cards = cards }) (let within = won.within in omega arith) low differ in
    let same : place ≡ other = one.2 place won ∙ sym (one.2 other wins) in
    inl (subst (λ p. has_card counting (get_or cards p 0) ≡ true) same counts)

-- ---- between tricks

-- Right's cards of a suit are the unseen ones without Left's
rights_of : (s : State) → IsState s → (suit : Suit) → length (of_suit suit (hand_of s Right)) + length (of_suit suit s.left) ≡ length (of_suit suit s.position.unseen)
rights_of s ok suit =
    let test = λ (c : ℕ). same_suit (suit_of c) suit in
    let inside = λ (c : ℕ). has_card s.left c in
    let outside = λ (c : ℕ). not (has_card s.left c) in
    let all = of_suit suit s.position.unseen in
    let lefts : filter inside all ≡ of_suit suit s.left =
    same_set (filter inside all) (of_suit suit s.left)
    (IsCardSet-filter inside all (IsCardSet-filter test s.position.unseen ok.sound.unseen_set))
    (IsCardSet-filter test s.left ok.fits.set)
    (λ c low. has_card-filter inside all c ∙ ap (λ b. b && has_card s.left c) (has_card-filter test s.position.unseen c)
    ∙ agree c (has_card s.left c) refl ∙ sym (has_card-filter test s.left c)) in
    let rights : of_suit suit (hand_of s Right) ≡ filter outside all = filter-filter test outside s.position.unseen in
    let both : length (filter inside all) + length (filter outside all) ≡ length all = length-filter_both inside outside (λ c. refl) all in
    let a = ap (length {A = ℕ}) lefts in
    let b = ap (length {A = ℕ}) rights in
    omega arith
  where
    agree : (c : ℕ) (b : Bool) → has_card s.left c ≡ b → ((has_card s.position.unseen c && same_suit (suit_of c) suit) && b) ≡ (b && same_suit (suit_of c) suit)
    agree c true e = and-true (has_card s.position.unseen c && same_suit (suit_of c) suit) ∙ ap (λ b. b && same_suit (suit_of c) suit) (ok.fits.part c e)
    agree c false e = and-false (has_card s.position.unseen c && same_suit (suit_of c) suit)

pub like_hands_make_alike_states : (counting : List ℕ) (s t : State) → IsState s → IsState t → s.position.trick ≡ t.position.trick → s.position.trump ≡ t.position.trump → s.position.need ≡ t.position.need
    → IsLikeHand counting s.position.declarer t.position.declarer → IsLikeHand counting s.position.dummy t.position.dummy
    → IsLikeHand counting s.position.unseen t.position.unseen → IsLikeHand counting s.left t.left → AreAlike counting s t
like_hands_make_alike_states counting s t ok ok' trick trump need declarer dummy unseen left = record {
  leader = ap (λ (k : TrickValue). k.leader) trick;
  trump = trump;
  need = need;
  played = ap (λ (k : TrickValue). length k.cards) trick;
  trick = λ place h. inl (ap (λ (k : TrickValue). get_or k.cards place 0) trick);
  hands = each;
}
  where
    each : (seat : Seat) → IsLikeHand counting (hand_of s seat) (hand_of t seat)
    each Declarer = declarer
    each Left = left
    each Dummy = dummy
    each Right = record {
      same = λ c counts. has_card-filter (λ d. not (has_card s.left d)) s.position.unseen c
          ∙ ap₂ (λ p q. p && not q) (unseen.same c counts) (left.same c counts)
          ∙ sym (has_card-filter (λ d. not (has_card t.left d)) t.position.unseen c);
      lengths = λ suit. omega (arith, rights_of s ok suit, rights_of t ok' suit, unseen.lengths suit, left.lengths suit);
    }
