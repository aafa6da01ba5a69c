-- The sure cards of the side on lead, as a set, and what they answer where they count.
use Rattle.std.proofs.Common.{◌≡◌, ◌≢◌, ℕ, zero, suc, ◌+◌, ◌<◌, ◌≤◌, Bool, true, false, ◌&&◌, ◌||◌, nat_lt, List, [], length, min, refl, sym, ap, ap₂, ◌∙◌, subst, arith}
use Rattle.std.proofs.lemmas.Bool.{false≢true}
use Rattle.std.proofs.Math.Nat.{min-eq_left}
use Rattle.card_sets.specs.declared.card.Suit.{Suit}
use Rattle.card_sets.specs.declared.card.Suit.TheVariants.{Spades, Hearts, Diamonds, Clubs}
use Rattle.card_sets.specs.Cards.{suit_of}
use Rattle.card_sets.specs.SetWords.{has_card, IsSubset}
use Rattle.card_sets.proofs.Sets.{IsCardSet-filter, IsSubset-filter}
use Rattle.card_sets.specs.declared.seat.Seat.{Seat}
use Rattle.trick_rules.specs.declared.trump.Trump.{Trump}
use Rattle.trick_rules.specs.declared.trump.Trump.TheVariants.{NoTrump, Suit as Suited}
use Rattle.trick_rules.specs.Positions.{State, seat_after, to_play, tricks_left, IsState}
use Rattle.trick_rules.specs.Play.{of_suit, hand_of, is_declarers}
use Rattle.sure_tricks.specs.Sure.{above, AreSafe, AreSure, sure_of, own_count, partners_of, partners_count, leads_over}
use Rattle.sure_tricks.specs.declared.count.Counts.{Counts}
use Rattle.dd_solver.specs.Sure.{number_in, AreWinners}
use Rattle.sure_tricks.proofs.Hands.{hand_set, next_three}
use Rattle.sure_tricks.proofs.Crossing.{safe_at_no_trump}
use Rattle.sure_tricks.proofs.Picking.{picked, in_suit, picked_high, length_by_suits}
use Rattle.sure_tricks.proofs.Counted.{high_against, part_of_suit, ours, partners, ruffs_in, length_counted, ours_sure, partners_sure, IsOver, over}
use Rattle.equivalent_positions.specs.Alike.{IsClosedUp, HasAnswer}
use Rattle.equivalent_positions.proofs.RankWinners.{WinnersCount, our_winners_answer, their_winners_answer, our_winners_answer_together, their_winners_answer_together}

-- ---- what they answer where their rank winners count

module _ (s : State) (ok : IsState s) (counting : List ℕ) (closed : IsClosedUp counting) (none : s.position.trick.cards ≡ [])
    (count : WinnersCount counting s (to_play s.position) (sure_of s)) where
  many : length (ours s ok) ≡ own_count s
  many = length_counted s ok (to_play s.position) (ruffs_in s ok)

  pub own_answer : (b : Bool) → is_declarers (to_play s.position) ≡ b → (n : ℕ) → n ≡ own_count s
      → (b ≡ true → s.position.need ≤ n) → (b ≡ false → tricks_left s.position < s.position.need + n) → HasAnswer counting s b
  own_answer true side n e few _ = our_winners_answer counting closed s ok none (sure_of s) count (ours_sure s ok) side (let h = few refl in omega (arith, many, e, h))
  own_answer false side n e _ rest = their_winners_answer counting closed s ok none (sure_of s) count (ours_sure s ok) side (let h = rest refl in omega (arith, many, e, h))

  module _ (no_trump : s.position.trump ≡ NoTrump) (count' : WinnersCount counting s (seat_after 2 (to_play s.position)) (partners_of s))
      (leads : (leads_over s Spades || leads_over s Hearts || leads_over s Diamonds || leads_over s Clubs) ≡ true) where
    many' : length (partners s ok) ≡ partners_count s
    many' = length_counted s ok (seat_after 2 (to_play s.position)) (λ suit seat. false)

    link : IsOver s ok
    link = over s ok (leads_over s Spades) (leads_over s Hearts) (leads_over s Diamonds) (leads_over s Clubs) refl refl refl refl leads

    pub joint_answer : (b : Bool) → is_declarers (to_play s.position) ≡ b → (n : ℕ) → n ≡ min (tricks_left s.position) (own_count s + partners_count s)
        → (b ≡ true → s.position.need ≤ n) → (b ≡ false → tricks_left s.position < s.position.need + n) → HasAnswer counting s b
    joint_answer true side n e few _ = our_winners_answer_together counting closed s ok none (sure_of s) count (ours_sure s ok) no_trump (partners_of s) count' (partners_sure s ok no_trump)
        link.link link.card link.linked link.there link.suit side
        (subst (λ m. s.position.need ≤ m) (e ∙ ap₂ (λ (i j : ℕ). min (tricks_left s.position) (i + j)) (sym many) (sym many')) (few refl))
    joint_answer false side n e _ rest = their_winners_answer_together counting closed s ok none (sure_of s) count (ours_sure s ok) no_trump (partners_of s) count' (partners_sure s ok no_trump)
        link.link link.card link.linked link.there link.suit side
        (subst (λ m. tricks_left s.position < s.position.need + m) (e ∙ ap₂ (λ (i j : ℕ). min (tricks_left s.position) (i + j)) (sym many) (sym many')) (rest refl))

-- ---- fewer of them, at no trump

module _ (s : State) (ok : IsState s) (counting : List ℕ) (closed : IsClosedUp counting) (none : s.position.trick.cards ≡ []) (no_trump : s.position.trump ≡ NoTrump)
    (number : Suit → ℕ) (few : (suit : Suit) → number suit ≤ sure_of s suit) (count : WinnersCount counting s (to_play s.position) number) where
  abbrev lead : List ℕ
  lead = hand_of s (to_play s.position)

  abbrev needed : List ℕ
  needed = picked number lead

  needed_in : (suit : Suit) → length (of_suit suit needed) ≡ number suit
  needed_in suit = in_suit number lead (hand_set s ok (to_play s.position)) suit
      ∙ min-eq_left (let one = few suit in let two = part_of_suit s ok (to_play s.position) (ruffs_in s ok) suit in omega arith)

  length_needed : length needed ≡ number Spades + number Hearts + number Diamonds + number Clubs
  length_needed = length_by_suits needed number needed_in

  needed_sure : AreSure s (to_play s.position) needed
  needed_sure = record {
    set = IsCardSet-filter _ lead (hand_set s ok (to_play s.position));
    held = IsSubset-filter _ lead;
    high = λ y differ. picked_high number lead (hand_set s ok (to_play s.position)) (hand_of s y)
        (λ suit. let one = few suit in let two = high_against s ok (to_play s.position) (ruffs_in s ok) suit y differ in omega arith);
    safe = λ y differ. subst (λ t. AreSafe t needed (hand_of s y)) (sym no_trump) (safe_at_no_trump needed (hand_of s y));
  }

  pub needed_answer : (b : Bool) → is_declarers (to_play s.position) ≡ b → (n : ℕ) → n ≡ number Spades + number Hearts + number Diamonds + number Clubs
      → (b ≡ true → s.position.need ≤ n) → (b ≡ false → tricks_left s.position < s.position.need + n) → HasAnswer counting s b
  needed_answer true side n e enough _ = our_winners_answer counting closed s ok none number count needed_sure side (let h = enough refl in omega (arith, length_needed, e, h))
  needed_answer false side n e _ rest = their_winners_answer counting closed s ok none number count needed_sure side (let h = rest refl in omega (arith, length_needed, e, h))

-- ---- numbers that were counted

module _ (counts : Counts) (number : Suit → ℕ) (a : counts.spades ≡ number Spades) (b : counts.hearts ≡ number Hearts) (d : counts.diamonds ≡ number Diamonds) (e : counts.clubs ≡ number Clubs) where
  number_is : (suit : Suit) → number_in counts suit ≡ number suit
  number_is Spades = a
  number_is Hearts = b
  number_is Diamonds = d
  number_is Clubs = e

  -- the rank winners of a seat's cards count, where they are told of each other hand
  pub counts_winners : (s : State) (x : Seat) (own next partner last cards counting : List ℕ)
      → own ≡ hand_of s x → next ≡ hand_of s (seat_after 1 x) → partner ≡ hand_of s (seat_after 2 x) → last ≡ hand_of s (seat_after 3 x)
      → AreWinners counts own next cards → AreWinners counts own partner cards → AreWinners counts own last cards → IsSubset cards counting → WinnersCount counting s x number
  counts_winners s x own next partner last cards counting own_is next_is partner_is last_is by_next by_partner by_last within y differ c held few =
      let at = next_three x y differ in
      within c (go at.0 at.1 at.2 (subst (λ seat. length (above c (hand_of s x)) < min (number (suit_of c)) (length (of_suit (suit_of c) (hand_of s seat)))) (sym at.3) few))
    where
      here : has_card own c ≡ true
      here = ap (λ l. has_card l c) own_is ∙ held

      place : length (above c own) ≡ length (above c (hand_of s x))
      place = ap (λ l. length (above c l)) own_is

      go : (i : ℕ) → 1 ≤ i → i < 4 → length (above c (hand_of s x)) < min (number (suit_of c)) (length (of_suit (suit_of c) (hand_of s (seat_after i x)))) → has_card cards c ≡ true
      go zero some low h = absurd (omega arith)
      go (suc zero) some low h = (let n = number_is (suit_of c) in let m = ap (λ l. length (of_suit (suit_of c) l)) next_is in by_next c here (omega (arith, place)) (omega (arith, place)))
      go (suc (suc zero)) some low h = (let n = number_is (suit_of c) in let m = ap (λ l. length (of_suit (suit_of c) l)) partner_is in by_partner c here (omega (arith, place)) (omega (arith, place)))
      go (suc (suc (suc zero))) some low h = (let n = number_is (suit_of c) in let m = ap (λ l. length (of_suit (suit_of c) l)) last_is in by_last c here (omega (arith, place)) (omega (arith, place)))
      go (suc (suc (suc (suc i)))) some low h = absurd (omega arith)

  pub counts_total : (n : ℕ) → n ≡ counts.spades + counts.hearts + counts.diamonds + counts.clubs → n ≡ number Spades + number Hearts + number Diamonds + number Clubs
  counts_total n h = omega (arith, h, a, b, d, e)

-- numbers that are no greater
pub fewer : (less counts : Counts) (number : Suit → ℕ) → counts.spades ≡ number Spades → counts.hearts ≡ number Hearts → counts.diamonds ≡ number Diamonds → counts.clubs ≡ number Clubs
    → less.spades ≤ counts.spades → less.hearts ≤ counts.hearts → less.diamonds ≤ counts.diamonds → less.clubs ≤ counts.clubs → (suit : Suit) → number_in less suit ≤ number suit
fewer less counts number a b d e p q r t Spades = omega (arith, a, p)
fewer less counts number a b d e p q r t Hearts = omega (arith, b, q)
fewer less counts number a b d e p q r t Diamonds = omega (arith, d, r)
fewer less counts number a b d e p q r t Clubs = omega (arith, e, t)

abbrev is_no_trump : Trump → Bool
is_no_trump NoTrump = true
is_no_trump (Suited suit) = false

-- at no trump, or with trumps
pub by_trump : (trump : Trump) (P : Type 0) → (trump ≡ NoTrump → P) → (trump ≢ NoTrump → P) → P
by_trump NoTrump P no_trump trumps = no_trump refl
by_trump (Suited suit) P no_trump trumps = trumps (λ e. absurd (false≢true (ap is_no_trump e)))

-- where one hand can lead over to the other
pub leads_from : (s : State) (counts : Counts) → counts.spades ≡ partners_of s Spades → counts.hearts ≡ partners_of s Hearts → counts.diamonds ≡ partners_of s Diamonds → counts.clubs ≡ partners_of s Clubs
    → (b : Bool) → b ≡ ((nat_lt 0 counts.spades && nat_lt 0 (length (of_suit Spades (hand_of s (to_play s.position)))))
    || (nat_lt 0 counts.hearts && nat_lt 0 (length (of_suit Hearts (hand_of s (to_play s.position)))))
    || (nat_lt 0 counts.diamonds && nat_lt 0 (length (of_suit Diamonds (hand_of s (to_play s.position)))))
    || (nat_lt 0 counts.clubs && nat_lt 0 (length (of_suit Clubs (hand_of s (to_play s.position))))))
    → b ≡ true → (leads_over s Spades || leads_over s Hearts || leads_over s Diamonds || leads_over s Clubs) ≡ true
leads_from s counts p q r t b e h = sym (e ∙ rw (p, q, r, t) refl) ∙ h
