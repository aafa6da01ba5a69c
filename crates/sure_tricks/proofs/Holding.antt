-- What becomes of a hand when it plays to the lead of a sure card.
use Rattle.std.proofs.Common.{◌≡◌, ◌≢◌, ◌⊎◌, ℕ, ◌+◌, ◌<◌, ◌≤◌, Bool, true, false, not, ◌&&◌, eqb, nat_lt, cond, List, [], ◌∷◌, length, get_or, refl, sym, ap, ◌∙◌, subst, inl, inr, ⊎_elim, arith}
use Rattle.std.proofs.lemmas.Bool.{cases_Bool, eqb-false, false≢true, and_parts, not-true, lt-ltb, le-ltb}
use Rattle.card_sets.specs.declared.card.Suit.{Suit}
use Rattle.card_sets.specs.Cards.{suit_of, rank_of, same_suit, card_of}
use Rattle.card_sets.specs.SetWords.{has_card, IsCardSet}
use Rattle.card_sets.proofs.Sets.{has_card-filter, filter-none, fails-filter_nil}
use Rattle.card_sets.proofs.Suits.{same_suit-true, same_suit-refl, card_of-suit_of}
use Rattle.trick_rules.specs.declared.trump.Trump.{Trump}
use Rattle.trick_rules.specs.declared.trump.Trump.TheVariants.{NoTrump, Suit as Suited}
use Rattle.trick_rules.specs.Play.{of_suit, or_whole, legal_cards, is_trump, strength, take_out}
use Rattle.trick_rules.proofs.CardLists.{has_card-take_out, take_out-low}
use Rattle.sure_tricks.specs.Sure.{above, trumps_of, AreHigh, AreSafe}
use Rattle.sure_tricks.proofs.Counting.{count_in, count_out, count_less, one_of}

-- ---- suits and trumps

pub suit_test : (c : ℕ) (suit : Suit) → suit_of c ≡ suit → same_suit (suit_of c) suit ≡ true
suit_test c suit e = ap (λ x. same_suit x suit) e ∙ same_suit-refl suit

pub trump_of_suit : (trump : Trump) (c d : ℕ) → suit_of c ≡ suit_of d → is_trump trump c ≡ is_trump trump d
trump_of_suit NoTrump c d e = refl
trump_of_suit (Suited suit) c d e = ap (λ x. same_suit x suit) e

pub two_trumps : (trump : Trump) (c d : ℕ) → is_trump trump c ≡ true → is_trump trump d ≡ true → suit_of c ≡ suit_of d
two_trumps NoTrump c d a b = absurd (false≢true a)
two_trumps (Suited suit) c d a b = same_suit-true (suit_of c) suit a ∙ sym (same_suit-true (suit_of d) suit b)

-- a trump isn't of the suit of a card that is none
not_its_suit : (trump : Trump) (c v : ℕ) → is_trump trump c ≡ true → is_trump trump v ≡ false → same_suit (suit_of c) (suit_of v) ≡ false
not_its_suit trump c v a b = elim (cases_Bool (same_suit (suit_of c) (suit_of v))) as (λ _. same_suit (suit_of c) (suit_of v) ≡ false) [
  | inl e ↦ absurd (false≢true (sym b ∙ sym (trump_of_suit trump c v (same_suit-true (suit_of c) (suit_of v) e)) ∙ a))
  | inr e ↦ e
]

-- ---- what may be led, and what may be played to it

-- the highest of its suit among sure cards; trumps go first
pub record IsLead (trump : Trump) (sure : List ℕ) (w : ℕ) : Type 0 where
  pub set : IsCardSet sure
  pub among : has_card sure w ≡ true
  pub top : (v : ℕ) → has_card sure v ≡ true → suit_of v ≡ suit_of w → v ≤ w
  pub first : (is_trump trump w ≡ true) ⊎ ((v : ℕ) → has_card sure v ≡ true → is_trump trump v ≡ false)

-- a card of the hand that follows suit where the hand can
pub record MayFollow (w : ℕ) (hand : List ℕ) (c : ℕ) : Type 0 where
  pub held : has_card hand c ≡ true
  pub suit : (suit_of c ≡ suit_of w) ⊎ ((d : ℕ) → has_card hand d ≡ true → same_suit (suit_of d) (suit_of w) ≡ false)

pub may_follow : (w : ℕ) (ds hand : List ℕ) (c : ℕ) → has_card (legal_cards (w ∷ ds) hand) c ≡ true → MayFollow w hand c
may_follow w ds hand c legal = go (of_suit (suit_of w) hand) refl legal
  where
    go : (part : List ℕ) → of_suit (suit_of w) hand ≡ part → has_card (or_whole part hand) c ≡ true → MayFollow w hand c
    go [] e h = record { held = h; suit = inr (λ d k. fails-filter_nil (λ x. same_suit (suit_of x) (suit_of w)) hand d e k) }
    go (x ∷ xs) e h =
        let both = and_parts (has_card hand c) (same_suit (suit_of c) (suit_of w))
        (sym (has_card-filter (λ d. same_suit (suit_of d) (suit_of w)) hand c) ∙ ap (λ (l : List ℕ). has_card l c) e ∙ h) in
        record { held = both.0; suit = inl (same_suit-true (suit_of c) (suit_of w) both.1) }

-- the same by the suit led
pub follows_or_void : (cards hand : List ℕ) (v : Suit) (c : ℕ) → 1 ≤ length cards → suit_of (get_or cards 0 0) ≡ v → has_card (legal_cards cards hand) c ≡ true
    → (suit_of c ≡ v) ⊎ ((d : ℕ) → has_card hand d ≡ true → same_suit (suit_of d) v ≡ false)
follows_or_void [] hand v c some led legal = absurd (omega arith)
follows_or_void (w ∷ ds) hand v c some led legal =
    subst (λ u. (suit_of c ≡ u) ⊎ ((d : ℕ) → has_card hand d ≡ true → same_suit (suit_of d) u ≡ false)) led (may_follow w ds hand c legal).suit

-- a hand with none of the suit
pub none_in_hand : (w : ℕ) (hand : List ℕ) → ((d : ℕ) → has_card hand d ≡ true → same_suit (suit_of d) (suit_of w) ≡ false) → length (of_suit (suit_of w) hand) ≡ 0
none_in_hand w hand none = ap (length {A = ℕ}) (filter-none (λ d. same_suit (suit_of d) (suit_of w)) hand none)

module _ (trump : Trump) (sure : List ℕ) (w : ℕ) (lead : IsLead trump sure w) where
  -- the hand has only lower cards of the suit led
  pub lower : (hand : List ℕ) → AreHigh sure hand → (c : ℕ) → has_card hand c ≡ true → suit_of c ≡ suit_of w → c < w
  lower hand high c held suit = ⊎_elim
      (λ (low : (d : ℕ) → has_card hand d ≡ true → same_suit (suit_of d) (suit_of w) ≡ true → d < w). low c held (suit_test c (suit_of w) suit))
      (λ (few : length (of_suit (suit_of w) hand) ≤ length (above w sure)).
      let none = ap (length {A = ℕ}) (filter-none (λ d. same_suit (suit_of d) (suit_of w) && nat_lt w d) sure no_higher) in
      let some = one_of (λ d. same_suit (suit_of d) (suit_of w)) hand c held (suit_test c (suit_of w) suit) in
      absurd (omega arith))
      (high w lead.among)
    where
      no_higher : (v : ℕ) → has_card sure v ≡ true → (same_suit (suit_of v) (suit_of w) && nat_lt w v) ≡ false
      no_higher v mem = elim (cases_Bool (same_suit (suit_of v) (suit_of w))) as (λ _. (same_suit (suit_of v) (suit_of w) && nat_lt w v) ≡ false) [
        | inl e ↦ rw e (le-ltb w v (lead.top v mem (same_suit-true (suit_of v) (suit_of w) e)))
        | inr e ↦ rw e refl
      ]

  module _ (hand : List ℕ) (set : IsCardSet hand) (c : ℕ) (may : MayFollow w hand c) where
    -- the other sure cards stay high
    pub high_after : AreHigh sure hand → AreHigh (take_out w sure) (take_out c hand)
    high_after high v mem = ⊎_elim
        (λ (low : (d : ℕ) → has_card hand d ≡ true → same_suit (suit_of d) (suit_of v) ≡ true → d < v). inl (λ d k. low d (take_out-low c hand d k)))
        (λ (few : length (of_suit (suit_of v) hand) ≤ length (above v sure)). inr (fewer few (cases_Bool (same_suit (suit_of w) (suit_of v))) may.suit))
        (high v was.0)
      where
        was : (has_card sure v ≡ true) × (not (eqb v w) ≡ true)
        was = and_parts (has_card sure v) (not (eqb v w)) (sym (has_card-take_out w sure v) ∙ mem)

        fewer : length (of_suit (suit_of v) hand) ≤ length (above v sure) → (same_suit (suit_of w) (suit_of v) ≡ true) ⊎ (same_suit (suit_of w) (suit_of v) ≡ false)
            → (suit_of c ≡ suit_of w) ⊎ ((d : ℕ) → has_card hand d ≡ true → same_suit (suit_of d) (suit_of w) ≡ false)
            → length (of_suit (suit_of v) (take_out c hand)) ≤ length (above v (take_out w sure))
        fewer few (inl same) (inl follows) =
            let suits : suit_of w ≡ suit_of v = same_suit-true (suit_of w) (suit_of v) same in
            let differs : v ≢ w = eqb-false v w (not-true (eqb v w) was.1) in
            let least = lead.top v was.0 (sym suits) in
            let mine = count_in (λ d. same_suit (suit_of d) (suit_of v) && nat_lt v d) sure w lead.set lead.among (rw (same, lt-ltb v w (omega (arith, differs))) refl) in
            let theirs = count_in (λ d. same_suit (suit_of d) (suit_of v)) hand c set may.held (suit_test c (suit_of v) (follows ∙ suits)) in
            omega arith
        fewer few (inl same) (inr none) =
            let suits : suit_of w ≡ suit_of v = same_suit-true (suit_of w) (suit_of v) same in
            let theirs = count_less (λ d. same_suit (suit_of d) (suit_of v)) hand c in
            let empty : length (of_suit (suit_of v) hand) ≡ 0 = subst (λ s. length (of_suit s hand) ≡ 0) suits (none_in_hand w hand none) in
            omega arith
        fewer few (inr other) follows =
            let mine = ap (length {A = ℕ}) (count_out (λ d. same_suit (suit_of d) (suit_of v) && nat_lt v d) sure w (rw other refl)) in
            let theirs = count_less (λ d. same_suit (suit_of d) (suit_of v)) hand c in
            omega arith

    -- a hand with enough cards of the suit led follows suit
    follows_suit : is_trump trump w ≡ false → ((v : ℕ) → has_card sure v ≡ true → is_trump trump v ≡ false → length (of_suit (suit_of v) sure) ≤ length (of_suit (suit_of v) hand)) → suit_of c ≡ suit_of w
    follows_suit side enough = ⊎_elim (λ (e : suit_of c ≡ suit_of w). e)
        (λ (none : (d : ℕ) → has_card hand d ≡ true → same_suit (suit_of d) (suit_of w) ≡ false).
        let empty = none_in_hand w hand none in
        let some = one_of (λ d. same_suit (suit_of d) (suit_of w)) sure w lead.among (same_suit-refl (suit_of w)) in
        let most = enough w lead.among side in
        absurd (omega arith)) may.suit

    -- no trump is left where none follows a trump
    out_of_trumps : is_trump trump w ≡ true → is_trump trump c ≡ false → length (trumps_of trump hand) ≡ 0
    out_of_trumps led side = ⊎_elim
        (λ (e : suit_of c ≡ suit_of w). absurd (false≢true (sym side ∙ trump_of_suit trump c w e ∙ led)))
        (λ (none : (d : ℕ) → has_card hand d ≡ true → same_suit (suit_of d) (suit_of w) ≡ false).
        ap (length {A = ℕ}) (filter-none (λ d. is_trump trump d) hand (λ d k. elim (cases_Bool (is_trump trump d)) as (λ _. is_trump trump d ≡ false) [
          | inl e ↦ absurd (false≢true (sym (none d k) ∙ suit_test d (suit_of w) (two_trumps trump d w e led)))
          | inr e ↦ e
        ]))) may.suit

    -- the other sure cards stay safe
    pub safe_after : AreSafe trump sure hand → AreSafe trump (take_out w sure) (take_out c hand)
    safe_after safe = go lead.first (cases_Bool (is_trump trump c)) safe
      where
        enough_left : ((v : ℕ) → has_card sure v ≡ true → is_trump trump v ≡ false → length (of_suit (suit_of v) sure) ≤ length (of_suit (suit_of v) hand))
            → (v : ℕ) → has_card sure v ≡ true → is_trump trump v ≡ false → same_suit (suit_of w) (suit_of v) ≡ same_suit (suit_of c) (suit_of v)
            → length (of_suit (suit_of v) (take_out w sure)) ≤ length (of_suit (suit_of v) (take_out c hand))
        enough_left enough v mem side alike = elim (cases_Bool (same_suit (suit_of w) (suit_of v))) as (λ _. length (of_suit (suit_of v) (take_out w sure)) ≤ length (of_suit (suit_of v) (take_out c hand))) [
          | inl same ↦ (let mine = count_in (λ d. same_suit (suit_of d) (suit_of v)) sure w lead.set lead.among same in
              let theirs = count_in (λ d. same_suit (suit_of d) (suit_of v)) hand c set may.held (sym alike ∙ same) in
              let most = enough v mem side in
              omega arith)
          | inr other ↦ (let mine = ap (length {A = ℕ}) (count_out (λ d. same_suit (suit_of d) (suit_of v)) sure w other) in
              let theirs = ap (length {A = ℕ}) (count_out (λ d. same_suit (suit_of d) (suit_of v)) hand c (sym alike ∙ other)) in
              let most = enough v mem side in
              omega arith)
        ]

        go : (is_trump trump w ≡ true) ⊎ ((v : ℕ) → has_card sure v ≡ true → is_trump trump v ≡ false)
            → (is_trump trump c ≡ true) ⊎ (is_trump trump c ≡ false) → AreSafe trump sure hand → AreSafe trump (take_out w sure) (take_out c hand)
        go (inl led) (inl ruffs) (inl few) =
            let mine = count_in (λ d. is_trump trump d) sure w lead.set lead.among led in
            let theirs = count_in (λ d. is_trump trump d) hand c set may.held ruffs in
            inl (omega arith)
        go (inl led) (inl ruffs) (inr enough) = inr (λ v mem side. enough_left enough v (take_out-low w sure v mem) side
            (not_its_suit trump w v led side ∙ sym (not_its_suit trump c v ruffs side)))
        go (inl led) (inr other) _ =
            let empty = out_of_trumps led other in
            let less = count_less (λ d. is_trump trump d) hand c in
            inl (omega arith)
        go (inr none) _ (inl few) =
            let empty = ap (length {A = ℕ}) (filter-none (λ d. is_trump trump d) sure none) in
            let less = count_less (λ d. is_trump trump d) hand c in
            inl (omega arith)
        go (inr none) _ (inr enough) = inr (λ v mem side. enough_left enough v (take_out-low w sure v mem) side
            (ap (λ s. same_suit s (suit_of v)) (sym (follows_suit (none w lead.among) enough))))

    -- the card that is played is no stronger
    pub weaker : AreHigh sure hand → AreSafe trump sure hand → c < 52 → w < 52 → strength trump (suit_of w) c ≤ strength trump (suit_of w) w
    weaker high safe low_c low_w = go may.suit
      where
        numbers : (t : Bool) (rc rw : ℕ) → rc ≤ rw → cond t (20 + rc) (cond true rc 0) ≤ cond t (20 + rw) (cond true rw 0)
        numbers true rc rw h = omega arith
        numbers false rc rw h = h

        no_trump : ((d : ℕ) → has_card hand d ≡ true → same_suit (suit_of d) (suit_of w) ≡ false) → is_trump trump c ≡ true → ⊥
        no_trump none ruffs = ⊎_elim
            (λ (led : is_trump trump w ≡ true). false≢true (sym (none c may.held) ∙ suit_test c (suit_of w) (two_trumps trump c w ruffs led)))
            (λ (side : (v : ℕ) → has_card sure v ≡ true → is_trump trump v ≡ false). ⊎_elim
            (λ (few : length (trumps_of trump hand) ≤ length (trumps_of trump sure)).
            let empty = ap (length {A = ℕ}) (filter-none (λ d. is_trump trump d) sure side) in
            let some = one_of (λ d. is_trump trump d) hand c may.held ruffs in omega arith)
            (λ (enough : (v : ℕ) → has_card sure v ≡ true → is_trump trump v ≡ false → length (of_suit (suit_of v) sure) ≤ length (of_suit (suit_of v) hand)).
            false≢true (sym (none c may.held) ∙ suit_test c (suit_of w) (follows_suit (side w lead.among) enough)))
            safe)
            lead.first

        go : (suit_of c ≡ suit_of w) ⊎ ((d : ℕ) → has_card hand d ≡ true → same_suit (suit_of d) (suit_of w) ≡ false)
            → strength trump (suit_of w) c ≤ strength trump (suit_of w) w
        go (inl same) =
            let less = lower hand high c may.held same in
            let mine : card_of (suit_of w) (rank_of w) ≡ w = card_of-suit_of w low_w in
            let theirs : card_of (suit_of w) (rank_of c) ≡ c = ap (λ x. card_of x (rank_of c)) (sym same) ∙ card_of-suit_of c low_c in
            rw (trump_of_suit trump c w same, suit_test c (suit_of w) same, same_suit-refl (suit_of w)) (numbers (is_trump trump w) (rank_of c) (rank_of w) (omega (arith, less, mine, theirs)))
        go (inr none) = elim (cases_Bool (is_trump trump c)) as (λ _. strength trump (suit_of w) c ≤ strength trump (suit_of w) w) [
          | inl ruffs ↦ absurd (no_trump none ruffs)
          | inr other ↦ rw (other, none c may.held) (omega arith)
        ]
