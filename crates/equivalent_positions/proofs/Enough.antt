-- Of equal cards one is enough, in alike states too.
use Rattle.std.proofs.Common.{◌≡◌, ℕ, zero, suc, ◌+◌, ◌<◌, ◌≤◌, Bool, true, false, not, ◌&&◌, ◌||◌, eqb, List, [], ◌∷◌, length, get_or, refl, sym, ap, ap₂, subst, ◌∙◌, inl, inr, arith}
use Rattle.std.proofs.lemmas.Bool.{false≢true, both_ways, cases_Bool, cases_eq, eq-eqb, ne_eqb, or_parts, or_from, false_from_ne_true}
use Rattle.card_sets.specs.declared.seat.Seat.TheVariants.{Declarer, Left, Dummy, Right}
use Rattle.card_sets.specs.Cards.{suit_of, suit_place}
use Rattle.card_sets.specs.SetWords.{has_card}
use Rattle.card_sets.proofs.Sets.{has_card-filter}
use Rattle.trick_rules.specs.Positions.{State, to_play, IsState}
use Rattle.trick_rules.specs.Play.{hand_of, legal_in, after, makes, is_over}
use Rattle.trick_rules.proofs.CardLists.{first_has, or_true}
use Rattle.trick_rules.proofs.States.{legal_can_play}
use Rattle.trick_rules.proofs.Soundness.{held_low}
use Rattle.card_sets.proofs.Suits.{same_suit-true, card_of-suit_of}
use Rattle.sure_tricks.proofs.Hands.{by_each}
use Rattle.double_dummy.specs.Equals.{in_play, AreEqual}
use Rattle.double_dummy.proofs.EqualCards.{equal_cards_win_the_same}
use Rattle.equivalent_positions.specs.Alike.{IsClosedUp, IsLike, AreAlike, HasAnswer, GivesAnswer}
use Rattle.equivalent_positions.proofs.Likes.{like_back, like_suit, like_counts, alike_back, alike_over, alike_turn}
use Rattle.equivalent_positions.proofs.Cards.{legal_held, legal_alike, a_like_card_is_legal}
use Rattle.equivalent_positions.proofs.Answers.{like_cards_answer}
use Rattle.equivalent_positions.specs.Enough.{AreEnough}

-- ---- what counts is in play in both states or in neither

-- the defenders' cards are Left's and Right's
unseen_is : (s : State) → IsState s → (c : ℕ) → has_card s.position.unseen c ≡ (has_card (hand_of s Left) c || has_card (hand_of s Right) c)
unseen_is s ok c = go (has_card s.left c) (has_card s.position.unseen c) refl refl ∙ sym (ap (λ b. has_card s.left c || b) (has_card-filter (λ d. not (has_card s.left d)) s.position.unseen c))
  where
    go : (a b : Bool) → has_card s.left c ≡ a → has_card s.position.unseen c ≡ b
        → has_card s.position.unseen c ≡ (has_card s.left c || (has_card s.position.unseen c && not (has_card s.left c)))
    go true b e f = rw e (ok.fits.part c e)
    go false true e f = rw (e, f) refl
    go false false e f = rw (e, f) refl

place_of : (xs : List ℕ) (c : ℕ) → has_card xs c ≡ true → (k : ℕ) × (k < length xs) × (get_or xs k 0 ≡ c)
place_of [] c h = absurd (false≢true h)
place_of (x ∷ xs) c h = elim (cases_eq x c) as (λ _. (k : ℕ) × (k < length (x ∷ xs)) × (get_or (x ∷ xs) k 0 ≡ c)) [
  | inl e ↦ (0, omega arith, e)
  | inr e ↦ (let more : (k : ℕ) × (k < length xs) × (get_or xs k 0 ≡ c) = place_of xs c (rw (ne_eqb x c e) at h) in
      let within = more.1 in
      (suc more.0, omega arith, more.2))
]

card_at : (xs : List ℕ) (k : ℕ) → k < length xs → has_card xs (get_or xs k 0) ≡ true
card_at [] k h = absurd (omega arith)
card_at (x ∷ xs) zero h = first_has x xs
card_at (x ∷ xs) (suc k) h = rw (card_at xs k (omega arith)) (or_true (eqb x (get_or xs k 0)))

module _ (counting : List ℕ) (s t : State) (ok : IsState s) (ok' : IsState t) (a : AreAlike counting s t) where
  -- a card that counts and lies in the one trick lies in the other
  in_trick : (c : ℕ) → has_card counting c ≡ true → has_card t.position.trick.cards c ≡ true → has_card s.position.trick.cards c ≡ true
  in_trick c counts h =
      let at : (k : ℕ) × (k < length t.position.trick.cards) × (get_or t.position.trick.cards k 0 ≡ c) = place_of t.position.trick.cards c h in
      let within = at.1 in
      let there : at.0 < length s.position.trick.cards = omega (arith, a.played, within) in
      let like : IsLike counting c (get_or s.position.trick.cards at.0 0) =
      like_back counting (get_or s.position.trick.cards at.0 0) c (subst (λ x. IsLike counting (get_or s.position.trick.cards at.0 0) x) at.2 (a.trick at.0 there)) in
      subst (λ x. has_card s.position.trick.cards x ≡ true) (sym (like_counts counting c (get_or s.position.trick.cards at.0 0) counts like)) (card_at s.position.trick.cards at.0 there)

  out_of_play : (c : ℕ) → has_card counting c ≡ true → in_play s.position c ≡ false → in_play t.position c ≡ false
  out_of_play c counts out =
      let p = s.position in
      let q = t.position in
      let parts = or_parts (has_card p.declarer c || has_card p.dummy c || has_card p.unseen c) (has_card p.trick.cards c) out in
      let hands = or_parts (has_card p.declarer c || has_card p.dummy c) (has_card p.unseen c) parts.0 in
      let ours = or_parts (has_card p.declarer c) (has_card p.dummy c) hands.0 in
      let unseen : has_card q.unseen c ≡ false =
      unseen_is t ok' c ∙ sym (ap₂ (λ x y. x || y) ((a.hands Left).same c counts) ((a.hands Right).same c counts)) ∙ sym (unseen_is s ok c) ∙ hands.1 in
      or_from (has_card q.declarer c || has_card q.dummy c || has_card q.unseen c) (has_card q.trick.cards c)
      (or_from (has_card q.declarer c || has_card q.dummy c) (has_card q.unseen c)
      (or_from (has_card q.declarer c) (has_card q.dummy c) (sym ((a.hands Declarer).same c counts) ∙ ours.0) (sym ((a.hands Dummy).same c counts) ∙ ours.1))
      unseen)
      (false_from_ne_true (has_card q.trick.cards c) (λ h. both_ways (has_card p.trick.cards c) parts.1 (in_trick c counts h)))

-- ---- equal cards in an alike state

-- a card between two cards of a suit is of that suit
suit_between : (low c high : ℕ) → low < c → c < high → high < 52 → suit_of low ≡ suit_of high → suit_of low ≡ suit_of c
suit_between low c high above below fits suit =
    let places = ap suit_place suit in
    same_suit-true (suit_of low) (suit_of c) (eq-eqb (suit_place (suit_of low)) (suit_place (suit_of c))
    (omega (arith, card_of-suit_of low (omega arith), card_of-suit_of c (omega arith), card_of-suit_of high fits, places)))

legal_there : (counting : List ℕ) (s t : State) (c : ℕ) → AreAlike counting s t → has_card counting c ≡ true → has_card (legal_in s) c ≡ true → has_card (legal_in t) c ≡ true
legal_there counting s t c a counts legal =
    let held : has_card (hand_of t (to_play t.position)) c ≡ true =
    subst (λ seat. has_card (hand_of t seat) c ≡ true) (alike_turn counting s t a) (sym ((a.hands (to_play s.position)).same c counts) ∙ legal_held s c legal) in
    legal_alike counting s t a c c refl legal held

equal_there : (counting : List ℕ) (s t : State) (low high : ℕ) → IsClosedUp counting → IsState s → IsState t → AreAlike counting s t → AreEqual s low high
    → has_card counting low ≡ true → AreEqual t low high
equal_there counting s t low high closed ok ok' a eq counts =
    let fits = held_low s.position ok.sound high (to_play s.position) (legal_can_play s ok high eq.high_legal) in
    record {
      low_legal = legal_there counting s t low a counts eq.low_legal;
      high_legal = legal_there counting s t high a (closed low high counts eq.suit eq.order fits) eq.high_legal;
      suit = eq.suit;
      order = eq.order;
      between = λ c above below. out_of_play counting s t ok ok' a c
          (closed low c counts (suit_between low c high above below fits eq.suit) above (omega arith)) (eq.between c above below);
    }

-- ---- every legal card of an alike state

module _ (counting : List ℕ) (closed : IsClosedUp counting) (s t : State) (ok : IsState s) (ok' : IsState t) (a : AreAlike counting s t) (made : Bool) (cards : List ℕ)
    (enough : AreEnough counting s cards) (each : (card : ℕ) → has_card cards card ≡ true → has_card (legal_in s) card ≡ true → GivesAnswer counting s card made) where
  answer_above : (n c d : ℕ) → 52 ≤ c + n → has_card (legal_in s) c ≡ true → has_card (legal_in t) d ≡ true → IsLike counting c d → makes (after t d) ≡ made
  answer_above zero c d h legal legal' like = absurd (let fits = held_low s.position ok.sound c (to_play s.position) (legal_can_play s ok c legal) in omega arith)
  answer_above (suc n) c d h legal legal' like = elim (enough c legal) as (λ _. makes (after t d) ≡ made) [
    | inl tried ↦ like_cards_answer counting s t made c d ok ok' a legal' like (each c tried legal)
    | inr e ↦ elim (cases_Bool (has_card counting c)) as (λ _. makes (after t d) ≡ made) [
      | inl counts ↦
          (let order = e.equal.order in
          let same : c ≡ d = like_counts counting c d counts like in
          let here : AreEqual t c e.higher = equal_there counting s t c e.higher closed ok ok' a e.equal counts in
          ap (λ x. makes (after t x)) (sym same)
          ∙ sym (equal_cards_win_the_same t c e.higher ok' here)
          ∙ answer_above n e.higher e.higher (omega arith) e.equal.high_legal here.high_legal (inl refl))
      | inr out ↦
          (let order = e.equal.order in
          let higher_out : has_card counting e.higher ≡ false = false_from_ne_true (has_card counting e.higher) (λ k. both_ways (has_card counting c) out (e.counts k)) in
          let d_out : has_card counting d ≡ false =
          false_from_ne_true (has_card counting d) (λ k. both_ways (has_card counting c) out (subst (λ x. has_card counting x ≡ true) (like_counts counting d c k (like_back counting c d like)) k)) in
          answer_above n e.higher d (omega arith) e.equal.high_legal legal' (inr (higher_out, d_out, sym e.equal.suit ∙ like_suit counting c d like)))
    ]
  ]

pub one_of_equals_answers : (counting : List ℕ) (s : State) (made : Bool) (cards : List ℕ) → IsClosedUp counting → IsState s → is_over s.position ≡ false → AreEnough counting s cards
    → ((card : ℕ) → has_card cards card ≡ true → has_card (legal_in s) card ≡ true → GivesAnswer counting s card made) → HasAnswer counting s made
one_of_equals_answers counting s made cards closed ok on enough each = λ t ok' a.
    by_each t made ok' (sym (alike_over counting s t a) ∙ on) (λ d legal'.
    let back : (c : ℕ) × (has_card (legal_in s) c ≡ true) × IsLike counting d c = a_like_card_is_legal counting t s d ok' ok (alike_back counting s t a) legal' in
    answer_above counting closed s t ok ok' a made cards enough each 52 back.0 d (omega arith) back.1 legal' (like_back counting d back.0 back.2))
