-- From the four hands to the count of a state.
use Rattle.std.proofs.Common.{◌≡◌, ℕ, ◌+◌, ◌≤◌, Bool, false, not, ◌&&◌, nat_lt, List, length, min, refl, ap, ap₂, ◌∙◌, arith}
use Rattle.card_sets.specs.declared.card.Suit.{Suit}
use Rattle.card_sets.specs.declared.card.Suit.TheVariants.{Spades, Hearts, Diamonds, Clubs}
use Rattle.card_sets.specs.declared.seat.Seat.{Seat}
use Rattle.card_sets.proofs.SetCounts.{length-le_52}
use Rattle.trick_rules.specs.declared.trump.Trump.{Trump}
use Rattle.trick_rules.specs.declared.trump.Trump.TheVariants.{NoTrump, Suit as Suited}
use Rattle.trick_rules.specs.Positions.{State, seat_after, to_play, IsState}
use Rattle.trick_rules.specs.Play.{of_suit, hand_of}
use Rattle.sure_tricks.specs.declared.count.Ruffs.{Ruffs}
use Rattle.sure_tricks.specs.declared.count.SeenHands.{SeenHands}
use Rattle.sure_tricks.specs.Sure.{trumps_of, is_suit, taken_from, sure_trumps, may_ruff, sure_in, sure_of}
use Rattle.sure_tricks.proofs.Hands.{hand_set}
use Rattle.sure_tricks.proofs.Counted.{part_of_suit}
use Rattle.sure_tricks.proofs.Picking.{by_suits}

-- three hands beside the one on lead, in a suit
abbrev pub least_of : Bool → Bool → Bool → List ℕ → List ℕ → List ℕ → List ℕ → ℕ
least_of a b c own next partner last = min (taken_from a own next) (min (taken_from b own partner) (taken_from c own last))

-- the four hands, as a seat sees them
pub record AreHands (s : State) (x : Seat) (own next partner last : List ℕ) : Type 0 where
  pub own_is : own ≡ hand_of s x
  pub next_is : next ≡ hand_of s (seat_after 1 x)
  pub partner_is : partner ≡ hand_of s (seat_after 2 x)
  pub last_is : last ≡ hand_of s (seat_after 3 x)

-- a suit's number, from the same flags
pub least_is : (s : State) (x : Seat) (own next partner last : List ℕ) → AreHands s x own next partner last → (a b c : Bool) (flags : Seat → Bool) (suit : Suit)
    → a ≡ flags (seat_after 1 x) → b ≡ flags (seat_after 2 x) → c ≡ flags (seat_after 3 x)
    → least_of a b c (of_suit suit own) (of_suit suit next) (of_suit suit partner) (of_suit suit last) ≡ sure_in s x flags suit
least_is s x own next partner last look a b c flags suit p q r = rw (p, q, r, look.own_is, look.next_is, look.partner_is, look.last_is) refl

-- the partner's number of a suit
pub partners_is : (s : State) (x : Seat) (h : SeenHands) → AreHands s x h.own h.next h.partner h.last → (r : Ruffs) → r ≡ record { next = false; partner = false; last = false } → (suit : Suit) (n : ℕ)
    → n ≡ least_of r.next r.partner r.last (of_suit suit h.own) (of_suit suit h.next) (of_suit suit h.partner) (of_suit suit h.last) → n ≡ sure_in s x (λ _. false) suit
partners_is s x h look r none suit n e = e ∙ least_is s x h.own h.next h.partner h.last look r.next r.partner r.last (λ _. false) suit
    (ap (λ (f : Ruffs). f.next) none) (ap (λ (f : Ruffs). f.partner) none) (ap (λ (f : Ruffs). f.last) none)

-- what was looked at
pub record IsLook (s : State) (own next partner last : List ℕ) (trump : Trump) (drawn : ℕ) : Type 0 where
  pub hands : AreHands s (to_play s.position) own next partner last
  pub trump_is : trump ≡ s.position.trump
  pub none : trump ≡ NoTrump → drawn ≡ 0
  pub some : (suit : Suit) → trump ≡ Suited suit → drawn ≡ least_of false false false (of_suit suit own) (of_suit suit next) (of_suit suit partner) (of_suit suit last)

module _ (s : State) (own next partner last : List ℕ) (trump : Trump) (drawn : ℕ) (look : IsLook s own next partner last trump drawn) where
  drawn_is : drawn ≡ sure_trumps s s.position.trump
  drawn_is = go trump look.trump_is (look.none) (look.some)
    where
      go : (t : Trump) → t ≡ s.position.trump → (t ≡ NoTrump → drawn ≡ 0)
          → ((suit : Suit) → t ≡ Suited suit → drawn ≡ least_of false false false (of_suit suit own) (of_suit suit next) (of_suit suit partner) (of_suit suit last))
          → drawn ≡ sure_trumps s s.position.trump
      go NoTrump e none some = none refl ∙ ap (sure_trumps s) e
      go (Suited suit) e none some = some suit refl ∙ least_is s (to_play s.position) own next partner last look.hands false false false (λ _. false) suit refl refl refl ∙ ap (sure_trumps s) e

  -- whether a seat may ruff a suit
  flag_is : (suit : Suit) (hand : List ℕ) (seat : Seat) (a b : Bool) → hand ≡ hand_of s seat → b ≡ nat_lt drawn (length (trumps_of trump hand)) → a ≡ (not (is_suit trump suit) && b)
      → a ≡ (not (is_suit s.position.trump suit) && may_ruff s seat)
  flag_is suit hand seat a b held p q = q ∙ ap₂ (λ (t : Trump) (x : Bool). not (is_suit t suit) && x) look.trump_is (p
      ∙ ap₂ (λ (n : ℕ) (l : List ℕ). nat_lt n (length (trumps_of trump l))) drawn_is held
      ∙ ap (λ t. nat_lt (sure_trumps s s.position.trump) (length (trumps_of t (hand_of s seat)))) look.trump_is)

  module _ (ruffs : Ruffs) (p : ruffs.next ≡ nat_lt drawn (length (trumps_of trump next))) (q : ruffs.partner ≡ nat_lt drawn (length (trumps_of trump partner)))
      (r : ruffs.last ≡ nat_lt drawn (length (trumps_of trump last))) where
    pub suit_is : (suit : Suit) (n : ℕ) (f : Ruffs) → f.next ≡ (not (is_suit trump suit) && ruffs.next) → f.partner ≡ (not (is_suit trump suit) && ruffs.partner) → f.last ≡ (not (is_suit trump suit) && ruffs.last)
        → n ≡ least_of f.next f.partner f.last (of_suit suit own) (of_suit suit next) (of_suit suit partner) (of_suit suit last) → n ≡ sure_of s suit
    suit_is suit n f i j k e = e ∙ least_is s (to_play s.position) own next partner last look.hands f.next f.partner f.last (λ seat. not (is_suit s.position.trump suit) && may_ruff s seat) suit
        (flag_is suit next (seat_after 1 (to_play s.position)) f.next ruffs.next look.hands.next_is p i)
        (flag_is suit partner (seat_after 2 (to_play s.position)) f.partner ruffs.partner look.hands.partner_is q j)
        (flag_is suit last (seat_after 3 (to_play s.position)) f.last ruffs.last look.hands.last_is r k)

-- the numbers of a seat's suits together are few
pub few_in : (s : State) → IsState s → (x : Seat) (flags : Suit → Seat → Bool)
    → sure_in s x (flags Spades) Spades + sure_in s x (flags Hearts) Hearts + sure_in s x (flags Diamonds) Diamonds + sure_in s x (flags Clubs) Clubs ≤ 52
few_in s ok x flags =
    let own = hand_of s x in
    let all = by_suits own in
    let few = length-le_52 own (hand_set s ok x) in
    let a = part_of_suit s ok x flags Spades in
    let b = part_of_suit s ok x flags Hearts in
    let c = part_of_suit s ok x flags Diamonds in
    let d = part_of_suit s ok x flags Clubs in
    omega arith
