-- Two states of which one becomes the other where two cards exchange their names.
use Rattle.std.proofs.Common.{◌≡◌, ◌≢◌, ℕ, suc, ◌+◌, ◌<◌, Bool, true, false, not, ◌&&◌, ◌||◌, cond, eqb, List, [], ◌∷◌, length, map, All, AllPairs, refl, sym, ap, subst, ◌∙◌, inl, inr, arith}
use Rattle.std.proofs.lemmas.Bool.{false≢true, eq-eqb, ne_eqb, cases_eq, or_cases, or_parts, or_from, or_left, or_right, cond_both}
use Rattle.std.proofs.lemmas.List.{map-append, length-map, length_push}
use Rattle.card_sets.specs.declared.card.Suit.{Suit}
use Rattle.card_sets.specs.declared.seat.Seat.{Seat}
use Rattle.card_sets.specs.declared.seat.Seat.TheVariants.{Declarer, Left, Dummy, Right}
use Rattle.card_sets.specs.Cards.{suit_of, same_suit}
use Rattle.card_sets.specs.SetWords.{has_card}
use Rattle.card_sets.proofs.Sets.{has_card-filter}
use Rattle.trick_rules.specs.Positions.{PositionValue, State, seat_after, to_play, tricks_left, IsSound, IsState}
use Rattle.trick_rules.specs.Play.{of_suit, or_whole, legal_cards, legal_in, hand_of, held_by, take_out, put_card, end_trick, after_card, after, winner_of, CanPlay}
use Rattle.trick_rules.proofs.CardLists.{has_card-take_out, has_card-append, take_out-gone}
use Rattle.trick_rules.proofs.Turns.{seat_after_more}
use Rattle.trick_rules.proofs.Soundness.{with_card, with_card-low, with_card-differ, after_short, after_third}
use Rattle.trick_rules.proofs.States.{after_card-declarer, after_card-dummy, after_card-unseen, tricks_left-after, legal_cards-low, legal_can_play}
use Rattle.double_dummy.specs.Equals.{in_play}
use Rattle.double_dummy.proofs.Swap.{swap, swap-swap, swap-eqb, swap-suit, TrickOf, winner-swap}

-- one hand has the cards of the other under their new names
abbrev pub Renamed : ℕ → ℕ → List ℕ → List ℕ → Type 0
Renamed a b old new = (c : ℕ) → has_card new c ≡ has_card old (swap a b c)

pub record Mirrored (a b : ℕ) (s m : State) : Type 0 where
  pub declarer : Renamed a b s.position.declarer m.position.declarer
  pub dummy : Renamed a b s.position.dummy m.position.dummy
  pub unseen : Renamed a b s.position.unseen m.position.unseen
  pub left : Renamed a b s.left m.left
  pub leader : m.position.trick.leader ≡ s.position.trick.leader
  pub cards : m.position.trick.cards ≡ map (swap a b) s.position.trick.cards
  pub need : m.position.need ≡ s.position.need
  pub trump : m.position.trump ≡ s.position.trump
  pub tricks : tricks_left m.position ≡ tricks_left s.position

-- ---- hands and legal cards

pub hand-mirrored : (a b : ℕ) (s m : State) → Mirrored a b s m → (seat : Seat) → Renamed a b (hand_of s seat) (hand_of m seat)
hand-mirrored a b s m r Declarer = r.declarer
hand-mirrored a b s m r Left = r.left
hand-mirrored a b s m r Dummy = r.dummy
hand-mirrored a b s m r Right = λ c.
    has_card-filter (λ d. not (has_card m.left d)) m.position.unseen c
    ∙ rw (r.unseen c, r.left c) refl
    ∙ sym (has_card-filter (λ d. not (has_card s.left d)) s.position.unseen (swap a b c))

pub count-mirrored : (a b : ℕ) (s m : State) → Mirrored a b s m → length m.position.trick.cards ≡ length s.position.trick.cards
count-mirrored a b s m r = ap (length {A = ℕ}) r.cards ∙ length-map s.position.trick.cards (swap a b)

pub turn-mirrored : (a b : ℕ) (s m : State) → Mirrored a b s m → to_play m.position ≡ to_play s.position
turn-mirrored a b s m r = ap (λ n. seat_after n m.position.trick.leader) (count-mirrored a b s m r) ∙ ap (seat_after (length s.position.trick.cards)) r.leader

pub renamed_back : (a b : ℕ) (old new : List ℕ) → Renamed a b old new → (c : ℕ) → has_card new (swap a b c) ≡ has_card old c
renamed_back a b old new r c = r (swap a b c) ∙ ap (has_card old) (swap-swap a b c)

of_suit-renamed : (a b : ℕ) → suit_of a ≡ suit_of b → (suit : Suit) (old new : List ℕ) → Renamed a b old new → Renamed a b (of_suit suit old) (of_suit suit new)
of_suit-renamed a b same suit old new r c =
    has_card-filter (λ d. same_suit (suit_of d) suit) new c
    ∙ rw (r c, sym (swap-suit a b same c)) refl
    ∙ sym (has_card-filter (λ d. same_suit (suit_of d) suit) old (swap a b c))

-- of the cards of a suit and the whole hand, one of the two in both states
or_whole-renamed : (a b : ℕ) (old_part new_part old new : List ℕ) → Renamed a b old_part new_part → Renamed a b old new → Renamed a b (or_whole old_part old) (or_whole new_part new)
or_whole-renamed a b [] [] old new part whole = whole
or_whole-renamed a b (x ∷ xs) (y ∷ ys) old new part whole = part
or_whole-renamed a b [] (y ∷ ys) old new part whole = absurd (false≢true (sym (part y) ∙ rw (eq-eqb y y refl) refl))
or_whole-renamed a b (x ∷ xs) [] old new part whole = absurd (false≢true (renamed_back a b (x ∷ xs) [] part x ∙ rw (eq-eqb x x refl) refl))

legal_cards-renamed : (a b : ℕ) → suit_of a ≡ suit_of b → (trick old new : List ℕ) → Renamed a b old new → Renamed a b (legal_cards trick old) (legal_cards (map (swap a b) trick) new)
legal_cards-renamed a b same [] old new r = r
legal_cards-renamed a b same (led ∷ rest) old new r =
    rw (swap-suit a b same led) (or_whole-renamed a b (of_suit (suit_of led) old) (of_suit (suit_of led) new) old new (of_suit-renamed a b same (suit_of led) old new r) r)

pub legal-mirrored : (a b : ℕ) → suit_of a ≡ suit_of b → (s m : State) → Mirrored a b s m → Renamed a b (legal_in s) (legal_in m)
legal-mirrored a b same s m r =
    rw (turn-mirrored a b s m r, r.cards)
    (legal_cards-renamed a b same s.position.trick.cards (hand_of s (to_play s.position)) (hand_of m (to_play s.position)) (hand-mirrored a b s m r (to_play s.position)))

pub legal_back : (a b : ℕ) → suit_of a ≡ suit_of b → (s m : State) → Mirrored a b s m → (c : ℕ) → has_card (legal_in m) (swap a b c) ≡ has_card (legal_in s) c
legal_back a b same s m r c = renamed_back a b (legal_in s) (legal_in m) (legal-mirrored a b same s m r) c

-- ---- after a card

take_out-renamed : (a b c : ℕ) (old new : List ℕ) → Renamed a b old new → Renamed a b (take_out c old) (take_out (swap a b c) new)
take_out-renamed a b c old new r d =
    has_card-take_out (swap a b c) new d
    ∙ rw (r d, swap-eqb a b c d) refl
    ∙ sym (has_card-take_out c old (swap a b d))

-- the trick, the need and trumps
record SameTrick (a b : ℕ) (t u : PositionValue) : Type 0 where
  pub leader : u.trick.leader ≡ t.trick.leader
  pub cards : u.trick.cards ≡ map (swap a b) t.trick.cards
  pub need : u.need ≡ t.need
  pub trump : u.trump ≡ t.trump

put_mirrored : (a b c : ℕ) (s m : State) → Mirrored a b s m → SameTrick a b (put_card s.position c) (put_card m.position (swap a b c))
put_mirrored a b c s m r = record {
  leader = r.leader;
  cards = rw r.cards (sym (map-append (swap a b) s.position.trick.cards (c ∷ [])));
  need = r.need;
  trump = r.trump;
}

end_mirrored : (a b : ℕ) (t u : PositionValue) → SameTrick a b t u
    → winner_of t.trump (record { leader = t.trick.leader; cards = map (swap a b) t.trick.cards }) ≡ winner_of t.trump t.trick → SameTrick a b (end_trick t) (end_trick u)
end_mirrored a b t u r same =
    let won : winner_of u.trump u.trick ≡ winner_of t.trump t.trick = rw (r.trump, r.leader, r.cards) same in
    record {
      leader = won;
      cards = refl;
      need = rw (won, r.need) refl;
      trump = r.trump;
    }

-- ---- the cards in play

pub in_play-trick : (t : PositionValue) (d : ℕ) → has_card t.trick.cards d ≡ true → in_play t d ≡ true
in_play-trick t d h = or_right (has_card t.declarer d || has_card t.dummy d || has_card t.unseen d) (has_card t.trick.cards d) h

in_play-unseen : (t : PositionValue) (d : ℕ) → has_card t.unseen d ≡ true → in_play t d ≡ true
in_play-unseen t d h =
    or_left (has_card t.declarer d || has_card t.dummy d || has_card t.unseen d) (has_card t.trick.cards d) (or_right (has_card t.declarer d || has_card t.dummy d) (has_card t.unseen d) h)

pub in_play-held : (t : PositionValue) (seat : Seat) (d : ℕ) → has_card (held_by t seat) d ≡ true → in_play t d ≡ true
in_play-held t Declarer d h = rw h refl
in_play-held t Left d h = in_play-unseen t d h
in_play-held t Right d h = in_play-unseen t d h
in_play-held t Dummy d h =
    or_left (has_card t.declarer d || has_card t.dummy d || has_card t.unseen d) (has_card t.trick.cards d)
    (or_left (has_card t.declarer d || has_card t.dummy d) (has_card t.unseen d) (or_right (has_card t.declarer d) (has_card t.dummy d) h))

-- a card that isn't in play differs from one that can be played
pub absent_other : (t : PositionValue) (c d : ℕ) → CanPlay t c → in_play t d ≡ false → c ≢ d
absent_other t c d can out e = false≢true (sym out ∙ in_play-held t (to_play t) d (subst (λ x. has_card (held_by t (to_play t)) x ≡ true) e can))

take_out-absent_still : (c : ℕ) (xs : List ℕ) (d : ℕ) → has_card xs d ≡ false → has_card (take_out c xs) d ≡ false
take_out-absent_still c xs d h = has_card-take_out c xs d ∙ rw h refl

trick-after : (t : PositionValue) (c : ℕ) (P : List ℕ → Type 0) → P (with_card t c) → P [] → P (after_card t c).trick.cards
trick-after t c P here empty = cond_both (eqb (length t.trick.cards) 3) (end_trick (put_card t c)) (put_card t c) (λ u. P u.trick.cards) (λ _. empty) (λ _. here)

pub with_card-absent : (t : PositionValue) (c d : ℕ) → has_card t.trick.cards d ≡ false → c ≢ d → has_card (with_card t c) d ≡ false
with_card-absent t c d out other = has_card-append t.trick.cards (c ∷ []) d ∙ rw (out, ne_eqb c d other) refl

-- what isn't in play comes into play no more
pub absent-after : (t : PositionValue) (c d : ℕ) → CanPlay t c → in_play t d ≡ false → in_play (after_card t c) d ≡ false
absent-after t c d can out =
    let parts = or_parts (has_card t.declarer d || has_card t.dummy d || has_card t.unseen d) (has_card t.trick.cards d) out in
    let hands = or_parts (has_card t.declarer d || has_card t.dummy d) (has_card t.unseen d) parts.0 in
    let ours = or_parts (has_card t.declarer d) (has_card t.dummy d) hands.0 in
    or_from (has_card (after_card t c).declarer d || has_card (after_card t c).dummy d || has_card (after_card t c).unseen d) (has_card (after_card t c).trick.cards d)
    (or_from (has_card (after_card t c).declarer d || has_card (after_card t c).dummy d) (has_card (after_card t c).unseen d)
    (or_from (has_card (after_card t c).declarer d) (has_card (after_card t c).dummy d)
    (rw (after_card-declarer t c) (take_out-absent_still c t.declarer d ours.0))
    (rw (after_card-dummy t c) (take_out-absent_still c t.dummy d ours.1)))
    (rw (after_card-unseen t c) (take_out-absent_still c t.unseen d hands.1)))
    (trick-after t c (λ cards. has_card cards d ≡ false) (with_card-absent t c d parts.1 (absent_other t c d can out)) refl)

-- ---- a trick with its last card

with_card-in_play : (t : PositionValue) (c d : ℕ) → CanPlay t c → has_card (with_card t c) d ≡ true → in_play t d ≡ true
with_card-in_play t c d can h =
    elim (or_cases (has_card t.trick.cards d) (has_card (c ∷ []) d) (sym (has_card-append t.trick.cards (c ∷ []) d) ∙ h)) as (λ _. in_play t d ≡ true) [
      | inl e ↦ in_play-trick t d e
      | inr e ↦ elim (cases_eq c d) as (λ _. in_play t d ≡ true) [
        | inl same ↦ in_play-held t (to_play t) d (subst (λ x. has_card (held_by t (to_play t)) x ≡ true) same can)
        | inr other ↦ absurd (false≢true (rw (ne_eqb c d other) at e))
      ]
    ]

-- no card in play lies between the two
abbrev pub NoneBetween : ℕ → ℕ → PositionValue → Type 0
NoneBetween a b t = (d : ℕ) → a < d → d < b → in_play t d ≡ false

with_card-TrickOf : (a b : ℕ) (t : PositionValue) (c : ℕ) → IsSound t → CanPlay t c → NoneBetween a b t
    → (has_card (with_card t c) a ≡ true → has_card (with_card t c) b ≡ false) → TrickOf a b (with_card t c)
with_card-TrickOf a b t c sound can none one = record {
  low = with_card-low t c sound can;
  differ = with_card-differ t c sound can;
  between = λ d h low high. false≢true (sym (none d low high) ∙ with_card-in_play t c d can h);
  one = one;
}

-- ---- both states after the card

trick_mirrored : (a b : ℕ) → suit_of a ≡ suit_of b → a < b → b < 52 → (s m : State) → IsState s → IsState m → Mirrored a b s m → (c : ℕ)
    → CanPlay s.position c → CanPlay m.position (swap a b c) → NoneBetween a b s.position → (has_card (with_card s.position c) a ≡ true → has_card (with_card s.position c) b ≡ false)
    → SameTrick a b (after_card s.position c) (after_card m.position (swap a b c))
trick_mirrored a b suit order low s m ok mok r c can mcan none one =
    let put = put_mirrored a b c s m r in
    let count = count-mirrored a b s m r in
    elim (cases_eq (length s.position.trick.cards) 3) as (λ _. SameTrick a b (after_card s.position c) (after_card m.position (swap a b c))) [
      | inl third ↦
          (let third' : length m.position.trick.cards ≡ 3 = count ∙ third in
          let new_low : All (λ d. d < 52) (map (swap a b) (with_card s.position c)) = subst (All (λ d. d < 52)) put.cards (with_card-low m.position (swap a b c) mok.sound mcan) in
          let new_differ : AllPairs (λ d e. d ≢ e) (map (swap a b) (with_card s.position c)) = subst (AllPairs (λ d e. d ≢ e)) put.cards (with_card-differ m.position (swap a b c) mok.sound mcan) in
          let won = winner-swap a b suit order low s.position.trump s.position.trick.leader (with_card s.position c) (omega (arith, length_push s.position.trick.cards c))
          (with_card-TrickOf a b s.position c ok.sound can none one) new_low new_differ in
          rw (after_third s.position c third, after_third m.position (swap a b c) third') (end_mirrored a b (put_card s.position c) (put_card m.position (swap a b c)) put won))
      | inr other ↦
          (let short : length s.position.trick.cards < 3 = omega (arith, ok.sound.trick_short, other) in
          let short' : length m.position.trick.cards < 3 = omega arith in
          rw (after_short s.position c short, after_short m.position (swap a b c) short') put)
    ]

pub mirrored-after : (a b : ℕ) → suit_of a ≡ suit_of b → a < b → b < 52 → (s m : State) → IsState s → IsState m → Mirrored a b s m → (c : ℕ)
    → CanPlay s.position c → CanPlay m.position (swap a b c) → NoneBetween a b s.position → (has_card (with_card s.position c) a ≡ true → has_card (with_card s.position c) b ≡ false)
    → Mirrored a b (after s c) (after m (swap a b c))
mirrored-after a b suit order low s m ok mok r c can mcan none one =
    let trick = trick_mirrored a b suit order low s m ok mok r c can mcan none one in
    let e = swap a b c in
    record {
      declarer = rw (after_card-declarer s.position c, after_card-declarer m.position e) (take_out-renamed a b c s.position.declarer m.position.declarer r.declarer);
      dummy = rw (after_card-dummy s.position c, after_card-dummy m.position e) (take_out-renamed a b c s.position.dummy m.position.dummy r.dummy);
      unseen = rw (after_card-unseen s.position c, after_card-unseen m.position e) (take_out-renamed a b c s.position.unseen m.position.unseen r.unseen);
      left = take_out-renamed a b c s.left m.left r.left;
      leader = trick.leader;
      cards = trick.cards;
      need = trick.need;
      trump = trick.trump;
      tricks = omega (arith, tricks_left-after s.position c ok.sound can, tricks_left-after m.position e mok.sound mcan, r.tricks, ap {B = ℕ} (λ n. cond (eqb n 3) 1 0) (count-mirrored a b s m r));
    }

-- ---- after one of the two has been played

-- the first of the two cards is in no hand; while it lies in the trick, the second doesn't, and no seat that is still to play to the trick holds it
pub record Follows (a b : ℕ) (s : State) : Type 0 where
  pub gone : (seat : Seat) → has_card (hand_of s seat) a ≡ false
  pub none : NoneBetween a b s.position
  pub one : has_card s.position.trick.cards a ≡ true → has_card s.position.trick.cards b ≡ false
  pub later : has_card s.position.trick.cards a ≡ true → (k : ℕ) → length s.position.trick.cards + k < 4 → has_card (hand_of s (seat_after k (to_play s.position))) b ≡ false

-- a hand has no more cards after a card
pub hand-after : (s : State) (c : ℕ) (seat : Seat) (d : ℕ) → has_card (hand_of s seat) d ≡ false → has_card (hand_of (after s c) seat) d ≡ false
hand-after s c Declarer d h = rw (after_card-declarer s.position c) (take_out-absent_still c s.position.declarer d h)
hand-after s c Dummy d h = rw (after_card-dummy s.position c) (take_out-absent_still c s.position.dummy d h)
hand-after s c Left d h = take_out-absent_still c s.left d h
hand-after s c Right d h =
    has_card-filter (λ x. not (has_card (take_out c s.left) x)) (after_card s.position c).unseen d
    ∙ rw (after_card-unseen s.position c, has_card-take_out c s.position.unseen d, has_card-take_out c s.left d)
    (still (has_card s.position.unseen d) (has_card s.left d) (not (eqb d c)) (sym (has_card-filter (λ x. not (has_card s.left x)) s.position.unseen d) ∙ h))
  where
    still : (u l n : Bool) → (u && not l) ≡ false → ((u && n) && not (l && n)) ≡ false
    still false l n h = refl
    still true true true h = refl
    still true true false h = refl
    still true false n h = absurd (false≢true (sym h))

-- the card itself is in no hand
pub hand-gone : (s : State) (c : ℕ) (seat : Seat) → has_card (hand_of (after s c) seat) c ≡ false
hand-gone s c Declarer = rw (after_card-declarer s.position c) (take_out-gone c s.position.declarer)
hand-gone s c Dummy = rw (after_card-dummy s.position c) (take_out-gone c s.position.dummy)
hand-gone s c Left = take_out-gone c s.left
hand-gone s c Right =
    has_card-filter (λ x. not (has_card (take_out c s.left) x)) (after_card s.position c).unseen c
    ∙ rw (after_card-unseen s.position c, take_out-gone c s.position.unseen) refl

-- what holds of the trick after a card, where it holds of the trick with the card and the trick doesn't end
pub trick-after-short : (s : State) (c : ℕ) (P : PositionValue → Type 0) → IsSound s.position → (length s.position.trick.cards < 3 → P (put_card s.position c)) → (length s.position.trick.cards ≡ 3 → P (end_trick (put_card s.position c))) → P (after_card s.position c)
trick-after-short s c P sound short third =
    elim (cases_eq (length s.position.trick.cards) 3) as (λ _. P (after_card s.position c)) [
      | inl h ↦ rw (after_third s.position c h) (third h)
      | inr other ↦ (let h : length s.position.trick.cards < 3 = omega (arith, sound.trick_short, other) in rw (after_short s.position c h) (short h))
    ]

-- the seats still to play after a card are those after the next
pub turn-put : (t : PositionValue) (c k : ℕ) → seat_after k (to_play (put_card t c)) ≡ seat_after (suc k) (to_play t)
turn-put t c k =
    ap (λ n. seat_after k (seat_after n t.trick.leader)) (length_push t.trick.cards c) ∙ ap (seat_after k) (seat_after_more (length t.trick.cards) t.trick.leader)

-- a card of the trick that isn't the one just played lay there before
with_card-before : (t : PositionValue) (c d : ℕ) → has_card (with_card t c) d ≡ true → c ≢ d → has_card t.trick.cards d ≡ true
with_card-before t c d h other =
    elim (or_cases (has_card t.trick.cards d) (has_card (c ∷ []) d) (sym (has_card-append t.trick.cards (c ∷ []) d) ∙ h)) as (λ _. has_card t.trick.cards d ≡ true) [
      | inl e ↦ e
      | inr e ↦ absurd (false≢true (rw (ne_eqb c d other) at e))
    ]

-- a card of a hand differs from one that isn't in it
held_other : (hand : List ℕ) (c d : ℕ) → has_card hand c ≡ true → has_card hand d ≡ false → c ≢ d
held_other hand c d h out e = false≢true (sym out ∙ subst (λ x. has_card hand x ≡ true) e h)

module _ (a b : ℕ) (s : State) (ok : IsState s) (f : Follows a b s) (c : ℕ) (legal : has_card (legal_in s) c ≡ true) where
  held : has_card (hand_of s (to_play s.position)) c ≡ true
  held = legal_cards-low s.position.trick.cards (hand_of s (to_play s.position)) c legal

  before : has_card (with_card s.position c) a ≡ true → has_card s.position.trick.cards a ≡ true
  before h = with_card-before s.position c a h (held_other (hand_of s (to_play s.position)) c a held (f.gone (to_play s.position)))

  pub follows-with_card : has_card (with_card s.position c) a ≡ true → has_card (with_card s.position c) b ≡ false
  follows-with_card h =
      with_card-absent s.position c b (f.one (before h))
      (held_other (hand_of s (to_play s.position)) c b held (f.later (before h) 0 (omega (arith, ok.sound.trick_short))))

  pub follows-after : Follows a b (after s c)
  follows-after = record {
    gone = λ seat. hand-after s c seat a (f.gone seat);
    none = λ d low high. absent-after s.position c d (legal_can_play s ok c legal) (f.none d low high);
    one = trick-after-short s c (λ u. has_card u.trick.cards a ≡ true → has_card u.trick.cards b ≡ false) ok.sound (λ _. follows-with_card) (λ _ h. absurd (false≢true h));
    later = trick-after-short s c
        (λ u. has_card u.trick.cards a ≡ true → (k : ℕ) → length u.trick.cards + k < 4 → has_card (hand_of (after s c) (seat_after k (to_play u))) b ≡ false) ok.sound
        (λ _ h k low. rw (turn-put s.position c k)
        (hand-after s c (seat_after (suc k) (to_play s.position)) b (f.later (before h) (suc k) (omega (arith, low, length_push s.position.trick.cards c)))))
        (λ _ h. absurd (false≢true h));
  }
