-- A card that moves up to a place that nobody holds.
use Rattle.std.proofs.Common.{◌≡◌, ◌≢◌, ℕ, suc, ◌<◌, ◌≤◌, Bool, true, false, not, ◌&&◌, ◌||◌, eqb, cond, List, [], filter, length, map, refl, sym, ap, subst, ◌∙◌, inl, inr, arith}
use Rattle.std.proofs.lemmas.Bool.{false≢true, eq-eqb, ne_eqb, cases_lt, cases_Bool, or_parts, false_from_ne_true}
use Rattle.card_sets.specs.declared.card.Suit.{Suit}
use Rattle.card_sets.specs.declared.seat.Seat.{Seat}
use Rattle.card_sets.specs.declared.seat.Seat.TheVariants.{Declarer, Left, Dummy, Right}
use Rattle.card_sets.specs.Cards.{suit_of, same_suit}
use Rattle.card_sets.specs.SetWords.{has_card, cards_where, IsCardSet, IsSubset, Apart}
use Rattle.card_sets.proofs.Sets.{has_card-cards_where, has_card-below, has_card-filter, IsCardSet-cards_where, IsCardSet-filter, same_set}
use Rattle.card_sets.proofs.SetCounts.{length-take_out, length-put_in}
use Rattle.trick_rules.specs.Positions.{State, IsState}
use Rattle.trick_rules.specs.Play.{take_out, of_suit, hand_of, cards_left, makes}
use Rattle.trick_rules.proofs.CardLists.{has_card-take_out}
use Rattle.trick_rules.proofs.States.{right_of-low}
use Rattle.double_dummy.specs.Equals.{in_play}
use Rattle.double_dummy.proofs.Swap.{swap, swap-first, swap-second, swap-other, swap-suit, each_card}
use Rattle.double_dummy.proofs.Mirror.{Renamed, Mirrored, Follows, hand-mirrored, renamed_back}
use Rattle.double_dummy.proofs.EqualCards.{makes-mirrored}

-- ---- what moves

-- a set with a card moved to another place, where the set has the card
abbrev pub move_card : ℕ → ℕ → List ℕ → List ℕ
move_card low high cards = cond (has_card cards low) (cards_where (λ c. has_card (filter (λ d. not (eqb d low)) cards) c || eqb c high)) cards

-- the same state where whoever holds a card holds another one in its stead
abbrev pub with_moved : ℕ → ℕ → State → State
with_moved low high s = record {
  position = record s.position {
    declarer = move_card low high s.position.declarer;
    dummy = move_card low high s.position.dummy;
    unseen = move_card low high s.position.unseen;
  };
  left = move_card low high s.left;
}

-- between two tricks a card moves up to a place of its suit; no card in play is there or lies between
pub record IsMovedUp (s : State) (low high : ℕ) (t : State) : Type 0 where
  pub between_tricks : s.position.trick.cards ≡ []
  pub suit : suit_of low ≡ suit_of high
  pub order : low < high
  pub fits : high < 52
  pub free : (place : ℕ) → low < place → place ≤ high → in_play s.position place ≡ false
  pub moved : t ≡ with_moved low high s

-- ---- one set

-- a set with the card: the card is out, and its new place is in
abbrev put_at : ℕ → ℕ → List ℕ → List ℕ
put_at low high xs = cards_where (λ c. has_card (take_out low xs) c || eqb c high)

move-held : (low high : ℕ) (xs : List ℕ) → has_card xs low ≡ true → move_card low high xs ≡ put_at low high xs
move-held low high xs h = rw h refl

move-not_held : (low high : ℕ) (xs : List ℕ) → has_card xs low ≡ false → move_card low high xs ≡ xs
move-not_held low high xs h = rw h refl

has_put : (low high : ℕ) (xs : List ℕ) (c : ℕ) → c < 52 → has_card (put_at low high xs) c ≡ (has_card xs c && not (eqb c low) || eqb c high)
has_put low high xs c fits = has_card-cards_where (λ d. has_card (take_out low xs) d || eqb d high) c fits ∙ ap (λ b. b || eqb c high) (has_card-take_out low xs c)

and_none : (b : Bool) → (b && true || false) ≡ b
and_none true = refl
and_none false = refl

-- what no card set has
past : (xs : List ℕ) (c : ℕ) → IsCardSet xs → 52 ≤ c → has_card xs c ≡ false
past xs c set h = false_from_ne_true (has_card xs c) (λ e. let low = has_card-below xs c set e in absurd (omega arith))

module _ (low high : ℕ) (order : low < high) (fits : high < 52) (xs : List ℕ) (set : IsCardSet xs) (free : has_card xs high ≡ false) where
  pub up-IsCardSet : IsCardSet (move_card low high xs)
  up-IsCardSet =
      elim (cases_Bool (has_card xs low)) as (λ _. IsCardSet (move_card low high xs)) [
        | inl h ↦ subst IsCardSet (sym (move-held low high xs h)) (IsCardSet-cards_where (λ c. has_card (take_out low xs) c || eqb c high))
        | inr h ↦ subst IsCardSet (sym (move-not_held low high xs h)) set
      ]

  pub up-length : length (move_card low high xs) ≡ length xs
  up-length =
      elim (cases_Bool (has_card xs low)) as (λ _. length (move_card low high xs) ≡ length xs) [
        | inl h ↦
            (let gone : has_card (take_out low xs) high ≡ false = has_card-take_out low xs high ∙ rw free refl in
            let put = length-put_in (take_out low xs) high (IsCardSet-filter (λ d. not (eqb d low)) xs set) fits gone in
            let out = length-take_out xs low set h in
            ap (length {A = ℕ}) (move-held low high xs h) ∙ omega (arith, put, out))
        | inr h ↦ ap (length {A = ℕ}) (move-not_held low high xs h)
      ]

  held-renamed : has_card xs low ≡ true → Renamed low high xs (put_at low high xs)
  held-renamed h = each_card low high (λ c. has_card (put_at low high xs) c ≡ has_card xs (swap low high c))
      (has_put low high xs low (omega (arith, order, fits)) ∙ gone ∙ sym free ∙ ap (has_card xs) (sym (swap-first low high)))
      (has_put low high xs high fits ∙ here ∙ sym h ∙ ap (has_card xs) (sym (swap-second low high)))
      (λ c e f. elim (cases_lt c 52) as (λ _. has_card (put_at low high xs) c ≡ has_card xs (swap low high c)) [
        | inl under ↦ has_put low high xs c under ∙ others c e f ∙ ap (has_card xs) (sym (swap-other low high c e f))
        | inr over ↦
            past (put_at low high xs) c (IsCardSet-cards_where (λ d. has_card (take_out low xs) d || eqb d high)) over
            ∙ sym (past xs c set over) ∙ ap (has_card xs) (sym (swap-other low high c e f))
      ])
    where
      here : (has_card xs high && not (eqb high low) || eqb high high) ≡ true
      here = rw (free, eq-eqb high high refl) refl

      gone : (has_card xs low && not (eqb low low) || eqb low high) ≡ false
      gone = rw (h, eq-eqb low low refl, ne_eqb low high (λ e. omega (arith, e, order))) refl

      others : (c : ℕ) → c ≢ low → c ≢ high → (has_card xs c && not (eqb c low) || eqb c high) ≡ has_card xs c
      others c e f = rw (ne_eqb c low e, ne_eqb c high f) (and_none (has_card xs c))

  not_held-renamed : has_card xs low ≡ false → Renamed low high xs xs
  not_held-renamed h = each_card low high (λ c. has_card xs c ≡ has_card xs (swap low high c))
      (h ∙ sym free ∙ ap (has_card xs) (sym (swap-first low high)))
      (free ∙ sym h ∙ ap (has_card xs) (sym (swap-second low high)))
      (λ c e f. ap (has_card xs) (sym (swap-other low high c e f)))

  pub up-renamed : Renamed low high xs (move_card low high xs)
  up-renamed =
      elim (cases_Bool (has_card xs low)) as (λ _. Renamed low high xs (move_card low high xs)) [
        | inl h ↦ subst (Renamed low high xs) (sym (move-held low high xs h)) (held-renamed h)
        | inr h ↦ subst (Renamed low high xs) (sym (move-not_held low high xs h)) (not_held-renamed h)
      ]

-- ---- lengths

and_false : (a b : Bool) → a ≡ false → (a && b) ≡ false
and_false a b e = rw e refl

-- a hand has as many cards of each suit as before
pub suit-renamed : (low high : ℕ) → suit_of low ≡ suit_of high → low < high → high < 52 → (xs ys : List ℕ) → IsCardSet xs → IsCardSet ys → has_card xs high ≡ false → Renamed low high xs ys
    → (u : Suit) → length (of_suit u ys) ≡ length (of_suit u xs)
suit-renamed low high suit order fits xs ys set set' free r u =
    let test = λ (c : ℕ). same_suit (suit_of c) u in
    let part = of_suit u xs in
    let part_set : IsCardSet part = IsCardSet-filter test xs set in
    let none : has_card part high ≡ false = has_card-filter test xs high ∙ and_false (has_card xs high) (test high) free in
    ap (length {A = ℕ}) (same_set (of_suit u ys) (move_card low high part) (IsCardSet-filter test ys set') (up-IsCardSet low high order fits part part_set none) (λ c under.
    has_card-filter test ys c
    ∙ rw (r c, sym (swap-suit low high suit c)) refl
    ∙ sym (has_card-filter test xs (swap low high c))
    ∙ sym (up-renamed low high order fits part part_set none c)))
    ∙ up-length low high order fits part part_set none

Apart-renamed : (a b : ℕ) (xs ys new_x new_y : List ℕ) → Renamed a b xs new_x → Renamed a b ys new_y → Apart xs ys → Apart new_x new_y
Apart-renamed a b xs ys new_x new_y x y apart c h = y c ∙ apart (swap a b c) (sym (x c) ∙ h)

IsSubset-renamed : (a b : ℕ) (xs ys new_x new_y : List ℕ) → Renamed a b xs new_x → Renamed a b ys new_y → IsSubset xs ys → IsSubset new_x new_y
IsSubset-renamed a b xs ys new_x new_y x y part c h = y c ∙ part (swap a b c) (sym (x c) ∙ h)

-- ---- a state between two tricks

module _ (s : State) (low high : ℕ) (ok : IsState s) (none : s.position.trick.cards ≡ []) (suit : suit_of low ≡ suit_of high) (order : low < high) (fits : high < 52)
    (free : (c : ℕ) → low < c → c ≤ high → in_play s.position c ≡ false) where
  pub parts : (c : ℕ) → low < c → c ≤ high → (has_card s.position.declarer c ≡ false) × (has_card s.position.dummy c ≡ false) × (has_card s.position.unseen c ≡ false)
  parts c above below =
      let trick = or_parts (has_card s.position.declarer c || has_card s.position.dummy c || has_card s.position.unseen c) (has_card s.position.trick.cards c) (free c above below) in
      let hands = or_parts (has_card s.position.declarer c || has_card s.position.dummy c) (has_card s.position.unseen c) trick.0 in
      let ours = or_parts (has_card s.position.declarer c) (has_card s.position.dummy c) hands.0 in
      (ours.0, ours.1, hands.1)

  top : (has_card s.position.declarer high ≡ false) × (has_card s.position.dummy high ≡ false) × (has_card s.position.unseen high ≡ false)
  top = parts high order (omega arith)

  -- nobody holds the places above the card
  pub nobody : (seat : Seat) (c : ℕ) → low < c → c ≤ high → has_card (hand_of s seat) c ≡ false
  nobody Declarer c above below = (parts c above below).0
  nobody Left c above below = false_from_ne_true (has_card s.left c) (λ h. false≢true (sym (parts c above below).2 ∙ ok.fits.part c h))
  nobody Dummy c above below = (parts c above below).1
  nobody Right c above below = false_from_ne_true (has_card (hand_of s Right) c) (λ h. false≢true (sym (parts c above below).2 ∙ right_of-low s c h))

  left_free : has_card s.left high ≡ false
  left_free = nobody Left high order (omega arith)

  abbrev there : State
  there = with_moved low high s

  declarer-renamed : Renamed low high s.position.declarer there.position.declarer
  declarer-renamed = up-renamed low high order fits s.position.declarer ok.sound.declarer_set top.0

  dummy-renamed : Renamed low high s.position.dummy there.position.dummy
  dummy-renamed = up-renamed low high order fits s.position.dummy ok.sound.dummy_set top.1

  unseen-renamed : Renamed low high s.position.unseen there.position.unseen
  unseen-renamed = up-renamed low high order fits s.position.unseen ok.sound.unseen_set top.2

  left-renamed : Renamed low high s.left there.left
  left-renamed = up-renamed low high order fits s.left ok.fits.set left_free

  pub declarer-length : length there.position.declarer ≡ length s.position.declarer
  declarer-length = up-length low high order fits s.position.declarer ok.sound.declarer_set top.0

  pub dummy-length : length there.position.dummy ≡ length s.position.dummy
  dummy-length = up-length low high order fits s.position.dummy ok.sound.dummy_set top.1

  pub unseen-length : length there.position.unseen ≡ length s.position.unseen
  unseen-length = up-length low high order fits s.position.unseen ok.sound.unseen_set top.2

  in_no_trick : (xs : List ℕ) → Apart s.position.trick.cards xs
  in_no_trick xs c h = absurd (false≢true (sym (ap (λ (l : List ℕ). has_card l c) none) ∙ h))

  pub moved-IsState : IsState there
  moved-IsState = record {
    sound = record {
      declarer_set = up-IsCardSet low high order fits s.position.declarer ok.sound.declarer_set top.0;
      dummy_set = up-IsCardSet low high order fits s.position.dummy ok.sound.dummy_set top.1;
      unseen_set = up-IsCardSet low high order fits s.position.unseen ok.sound.unseen_set top.2;
      declarer_dummy = Apart-renamed low high s.position.declarer s.position.dummy there.position.declarer there.position.dummy declarer-renamed dummy-renamed ok.sound.declarer_dummy;
      declarer_unseen = Apart-renamed low high s.position.declarer s.position.unseen there.position.declarer there.position.unseen declarer-renamed unseen-renamed ok.sound.declarer_unseen;
      dummy_unseen = Apart-renamed low high s.position.dummy s.position.unseen there.position.dummy there.position.unseen dummy-renamed unseen-renamed ok.sound.dummy_unseen;
      trick_declarer = in_no_trick there.position.declarer;
      trick_dummy = in_no_trick there.position.dummy;
      trick_unseen = in_no_trick there.position.unseen;
      trick_short = ok.sound.trick_short;
      trick_cards = ok.sound.trick_cards;
      trick_differs = ok.sound.trick_differs;
      need_fits = ok.sound.need_fits;
      dummy_count = omega (arith, ok.sound.dummy_count, declarer-length, dummy-length);
      unseen_count = omega (arith, ok.sound.unseen_count, declarer-length, unseen-length);
    };
    fits = record {
      set = up-IsCardSet low high order fits s.left ok.fits.set left_free;
      part = IsSubset-renamed low high s.left s.position.unseen there.left there.position.unseen left-renamed unseen-renamed ok.fits.part;
      count = omega (arith, ok.fits.count, declarer-length, up-length low high order fits s.left ok.fits.set left_free);
    };
  }

  mapped : map (swap low high) s.position.trick.cards ≡ []
  mapped = ap (map (swap low high)) none

  pub moved-mirrored : Mirrored low high s there
  moved-mirrored = record {
    declarer = declarer-renamed;
    dummy = dummy-renamed;
    unseen = unseen-renamed;
    left = left-renamed;
    leader = refl;
    cards = none ∙ sym mapped;
    need = refl;
    trump = refl;
    tricks = omega (arith, declarer-length);
  }

  mirrored-back : Mirrored low high there s
  mirrored-back = record {
    declarer = λ c. sym (renamed_back low high s.position.declarer there.position.declarer declarer-renamed c);
    dummy = λ c. sym (renamed_back low high s.position.dummy there.position.dummy dummy-renamed c);
    unseen = λ c. sym (renamed_back low high s.position.unseen there.position.unseen unseen-renamed c);
    left = λ c. sym (renamed_back low high s.left there.left left-renamed c);
    leader = refl;
    cards = none ∙ sym mapped;
    need = refl;
    trump = refl;
    tricks = omega (arith, declarer-length);
  }

  pub in_play-moved : (c : ℕ) → in_play there.position c ≡ in_play s.position (swap low high c)
  in_play-moved c = rw (none, declarer-renamed c, dummy-renamed c, unseen-renamed c) refl

  -- the card's place is left
  pub hand-left : (seat : Seat) → has_card (hand_of there seat) low ≡ false
  hand-left seat = hand-mirrored low high s there moved-mirrored seat low ∙ ap (has_card (hand_of s seat)) (swap-first low high) ∙ nobody seat high order (omega arith)

  no_trick : {A : Type 0} → has_card s.position.trick.cards low ≡ true → A
  no_trick h = absurd (false≢true (sym (ap (λ (l : List ℕ). has_card l low) none) ∙ h))

  back-follows : Follows low high there
  back-follows = record {
    gone = hand-left;
    none = λ c above below. in_play-moved c ∙ ap (in_play s.position) (swap-other low high c (λ e. omega (arith, e, above)) (λ e. omega (arith, e, below))) ∙ free c above (omega (arith, below));
    one = λ h. no_trick h;
    later = λ h. no_trick h;
  }

  pub moved-makes : makes s ≡ makes there
  moved-makes = makes-mirrored low high suit order fits (suc (cards_left there.position)) there s moved-IsState ok mirrored-back back-follows (omega arith)
