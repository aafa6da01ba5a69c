-- Cards out of the opponents' reach are top trumps, and what they answer where they count.
use Rattle.std.proofs.Common.{◌≡◌, ◌⊎◌, ℕ, ◌+◌, ◌<◌, ◌≤◌, Bool, true, false, not, ◌||◌, cond, List, [], filter, refl, sym, ap, ◌∙◌, inl, inr, arith}
use Rattle.std.proofs.lemmas.Bool.{false≢true, and_parts}
use Rattle.card_sets.specs.declared.card.Suit.{Suit}
use Rattle.card_sets.specs.declared.seat.Seat.{Seat}
use Rattle.card_sets.specs.declared.seat.Seat.TheVariants.{Declarer, Left, Dummy, Right}
use Rattle.card_sets.specs.Cards.{suit_of, same_suit}
use Rattle.card_sets.specs.SetWords.{has_card, cards_where, IsSubset}
use Rattle.card_sets.proofs.Sets.{has_card-filter, has_card-below, has_card-cards_where, IsCardSet-filter}
use Rattle.card_sets.proofs.SetCounts.{length-le_52}
use Rattle.card_sets.proofs.Suits.{same_suit-true}
use Rattle.trick_rules.specs.declared.trump.Trump.{Trump}
use Rattle.trick_rules.specs.declared.trump.Trump.TheVariants.{Suit as Suited}
use Rattle.trick_rules.specs.Positions.{PositionValue, State, seat_after, has_played, tricks_left, IsSound, IsState}
use Rattle.trick_rules.specs.Play.{of_suit, hand_of, is_declarers, is_trump}
use Rattle.trick_rules.proofs.CardLists.{or_true}
use Rattle.trick_rules.proofs.States.{hand_held}
use Rattle.sure_tricks.specs.Sure.{AreTopTrumps}
use Rattle.sure_tricks.proofs.Hands.{hand_set}
use Rattle.equivalent_positions.specs.Alike.{HasAnswer}
use Rattle.equivalent_positions.proofs.Answers.{our_top_trumps_answer, their_top_trumps_answer}
use Rattle.dd_solver.specs.Sure.{AreOutOfReach}
use Rattle.dd_solver.specs.Answers.{IsAnswer}

-- ---- opponents

-- each seat is the seat itself, its partner or an opponent
pub each_seat : (x y : Seat) → ((y ≡ x) ⊎ (y ≡ seat_after 2 x)) ⊎ (is_declarers y ≡ not (is_declarers x))
each_seat Declarer Declarer = inl (inl refl)
each_seat Declarer Dummy = inl (inr refl)
each_seat Left Left = inl (inl refl)
each_seat Left Right = inl (inr refl)
each_seat Dummy Dummy = inl (inl refl)
each_seat Dummy Declarer = inl (inr refl)
each_seat Right Right = inl (inl refl)
each_seat Right Left = inl (inr refl)
each_seat _ _ = inr refl

-- these are all cards of the side's opponents
abbrev pub HaveAll : State → Bool → List ℕ → Type 0
HaveAll s side opponents = (seat : Seat) → is_declarers seat ≡ not side → IsSubset (hand_of s seat) opponents

pub unseen_all : (s : State) → IsState s → HaveAll s true s.position.unseen
unseen_all s ok Declarer e c h = absurd (false≢true (sym e))
unseen_all s ok Left e c h = hand_held s ok Left c h
unseen_all s ok Dummy e c h = absurd (false≢true (sym e))
unseen_all s ok Right e c h = hand_held s ok Right c h

pub ours_all : (s : State) → IsState s → HaveAll s false (cards_where (λ c. has_card s.position.declarer c || has_card s.position.dummy c))
ours_all s ok Declarer e c h = has_card-cards_where (λ d. has_card s.position.declarer d || has_card s.position.dummy d) c (has_card-below s.position.declarer c (hand_set s ok Declarer) h) ∙ rw h refl
ours_all s ok Left e c h = absurd (false≢true e)
ours_all s ok Dummy e c h = has_card-cards_where (λ d. has_card s.position.declarer d || has_card s.position.dummy d) c (has_card-below s.position.dummy c (hand_set s ok Dummy) h) ∙ rw h (or_true (has_card s.position.declarer c))
ours_all s ok Right e c h = absurd (false≢true e)

-- ---- top trumps

module _ (s : State) (ok : IsState s) (x : Seat) (suit : Suit) (trumps : s.position.trump ≡ Suited suit) (opponents : List ℕ) (all : HaveAll s (is_declarers x) opponents)
    (many : ℕ) (counting : List ℕ) (reach : AreOutOfReach (hand_of s x) opponents suit many counting) where
  -- the trumps of the hand that count
  abbrev top : List ℕ
  top = filter (has_card counting) (of_suit suit (hand_of s x))

  among : (c : ℕ) → has_card top c ≡ true → (has_card (hand_of s x) c ≡ true) × (same_suit (suit_of c) suit ≡ true) × (has_card counting c ≡ true)
  among c h =
      let outer = and_parts (has_card (of_suit suit (hand_of s x)) c) (has_card counting c) (sym (has_card-filter (has_card counting) (of_suit suit (hand_of s x)) c) ∙ h) in
      let inner = and_parts (has_card (hand_of s x) c) (same_suit (suit_of c) suit) (sym (has_card-filter (λ d. same_suit (suit_of d) suit) (hand_of s x) c) ∙ outer.0) in
      (inner.0, inner.1, outer.1)

  are_trumps : (c : ℕ) → is_trump s.position.trump c ≡ same_suit (suit_of c) suit
  are_trumps c = ap (λ (t : Trump). is_trump t c) trumps

  are_top : AreTopTrumps s x top
  are_top = record {
    set = IsCardSet-filter (has_card counting) (of_suit suit (hand_of s x)) (IsCardSet-filter (λ c. same_suit (suit_of c) suit) (hand_of s x) (hand_set s ok x));
    held = λ c h. (among c h).0;
    trumps = λ c h. are_trumps c ∙ (among c h).1;
    highest = λ card higher seat h held is more. elim (each_seat x seat) as (λ _. (seat ≡ x) ⊎ (seat ≡ seat_after 2 x)) [
      | inl own ↦ own
      | inr other ↦ (let from = among card h in
          let suits = same_suit-true (suit_of card) suit from.1 ∙ sym (same_suit-true (suit_of higher) suit (sym (are_trumps higher) ∙ is)) in
          let counts = reach.closed card higher from.2 suits more (has_card-below (hand_of s seat) higher (hand_set s ok seat) held) in
          absurd (false≢true (sym (reach.apart higher counts) ∙ all seat other higher held)))
    ];
  }

  reach_answer : s.position.trick.cards ≡ [] → (b : Bool) → is_declarers x ≡ b → (b ≡ true → s.position.need ≤ many) → (b ≡ false → tricks_left s.position < s.position.need + many) → HasAnswer counting s b
  reach_answer none true side few _ = our_top_trumps_answer counting s x top reach.closed (λ c h. (among c h).2) none are_top side (let h = few refl in let most = reach.enough in omega arith)
  reach_answer none false side _ rest = their_top_trumps_answer counting s x top reach.closed (λ c h. (among c h).2) none are_top side (let h = rest refl in let most = reach.enough in omega arith)

-- a hand has at most this many cards
pub few_tricks : (t : PositionValue) → IsSound t → tricks_left t ≤ 53
few_tricks t sound = let few = length-le_52 t.declarer sound.declarer_set in let one = at_most_one (has_played t Declarer) in omega arith
  where
    at_most_one : (b : Bool) → cond {A = ℕ} b 1 0 ≤ 1
    at_most_one true = omega arith
    at_most_one false = omega arith

-- where it is out of reach of the unseen cards, or of declarer's side's
pub our_reach_answer : (s : State) → IsState s → s.position.trick.cards ≡ [] → (suit : Suit) → s.position.trump ≡ Suited suit → (counting : List ℕ)
    → AreOutOfReach s.position.declarer s.position.unseen suit s.position.need counting ⊎ AreOutOfReach s.position.dummy s.position.unseen suit s.position.need counting
    → IsAnswer s (record { made = true; counting = counting })
our_reach_answer s ok none suit trumps counting either = elim either as (λ _. IsAnswer s (record { made = true; counting = counting })) [
  | inl reach ↦ record {
    closed = reach.closed;
    answers = reach_answer s ok Declarer suit trumps s.position.unseen (unseen_all s ok) s.position.need counting reach none true refl (λ _. omega arith) (λ e. absurd (false≢true (sym e)));
  }
  | inr reach ↦ record {
    closed = reach.closed;
    answers = reach_answer s ok Dummy suit trumps s.position.unseen (unseen_all s ok) s.position.need counting reach none true refl (λ _. omega arith) (λ e. absurd (false≢true (sym e)));
  }
]

pub their_reach_answer : (s : State) → IsState s → s.position.trick.cards ≡ [] → (suit : Suit) → s.position.trump ≡ Suited suit → (counting : List ℕ) (many : ℕ)
    → tricks_left s.position < s.position.need + many
    → AreOutOfReach (hand_of s Left) (cards_where (λ c. has_card s.position.declarer c || has_card s.position.dummy c)) suit many counting
    ⊎ AreOutOfReach (hand_of s Right) (cards_where (λ c. has_card s.position.declarer c || has_card s.position.dummy c)) suit many counting
    → IsAnswer s (record { made = false; counting = counting })
their_reach_answer s ok none suit trumps counting many enough either = elim either as (λ _. IsAnswer s (record { made = false; counting = counting })) [
  | inl reach ↦ record {
    closed = reach.closed;
    answers = reach_answer s ok Left suit trumps (cards_where (λ c. has_card s.position.declarer c || has_card s.position.dummy c)) (ours_all s ok) many counting reach none false refl
        (λ e. absurd (false≢true e)) (λ _. enough);
  }
  | inr reach ↦ record {
    closed = reach.closed;
    answers = reach_answer s ok Right suit trumps (cards_where (λ c. has_card s.position.declarer c || has_card s.position.dummy c)) (ours_all s ok) many counting reach none false refl
        (λ e. absurd (false≢true e)) (λ _. enough);
  }
]
