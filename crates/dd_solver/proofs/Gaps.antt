-- A gap that is closed is a chain of cards that move up one place, the highest first.
use Rattle.std.proofs.Common.{◌≡◌, ◌≢◌, ◌⊎◌, ℕ, zero, suc, ◌<◌, ◌≤◌, Bool, true, false, not, ◌&&◌, ◌||◌, ltb, List, filter, refl, sym, ap, ap₂, subst, ◌∙◌, inl, inr, arith}
use Rattle.std.proofs.lemmas.Bool.{both_ways, cases_eq, cases_lt, cases_Bool, lt-ltb, le-ltb, ltb-true, and_parts, false_from_ne_true}
use Rattle.card_sets.specs.declared.card.Suit.TheVariants.{Spades, Hearts, Diamonds, Clubs}
use Rattle.card_sets.specs.declared.seat.Seat.TheVariants.{Left}
use Rattle.card_sets.specs.Cards.{suit_of, same_suit}
use Rattle.card_sets.specs.SetWords.{has_card, IsCardSet, IsSubset}
use Rattle.card_sets.specs.Raised.{is_below, with_raised}
use Rattle.card_sets.proofs.Raised.{raised-first, raised-next}
use Rattle.card_sets.proofs.Sets.{has_card-cards_where, has_card-filter, IsCardSet-cards_where, same_set}
use Rattle.card_sets.proofs.Suits.{same_suit-true}
use Rattle.trick_rules.specs.Positions.{State, IsState}
use Rattle.trick_rules.specs.Play.{cards_left, decided}
use Rattle.double_dummy.specs.Equals.{in_play}
use Rattle.double_dummy.proofs.Swap.{swap, swap-first, swap-second, swap-other}
use Rattle.sure_tricks.proofs.Holding.{suit_test}
use Rattle.equivalent_positions.specs.Alike.{IsClosedUp, HasAnswer}
use Rattle.equivalent_positions.proofs.Answers.{more_cards_answer}
use Rattle.dd_solver.specs.Closed.{up_from}
use Rattle.dd_solver.specs.Shapes.{lengths_of}
use Rattle.dd_solver.specs.RelativeRanks.{IsGapClosed}
use Rattle.dd_solver.proofs.Winner.{up_parts}
use Rattle.dd_solver.proofs.MovedUp.{move_card, with_moved, IsMovedUp, up-IsCardSet, up-renamed, suit-renamed, parts, nobody, in_play-moved}
use Rattle.dd_solver.proofs.CarriedBack.{between_suit, place_in, place_not_in, moved-state, moved-numbers}

-- ---- one set

-- whether a card came up to this place
abbrev came_up : ℕ → List ℕ → ℕ → Bool
came_up gap xs zero = false
came_up gap xs (suc c) = has_card xs c && is_below gap c

pub raised-has : (gap : ℕ) (xs : List ℕ) (c : ℕ) → c < 52 → has_card (with_raised gap xs) c ≡ (has_card xs c && not (is_below gap c) || came_up gap xs c)
raised-has gap xs zero small =
    has_card-cards_where _ 0 small
    ∙ ap₂ (λ a b. a || b) (has_card-filter (λ d. not (is_below gap d)) xs 0) (raised-first (filter (is_below gap) xs))
raised-has gap xs (suc c) small =
    has_card-cards_where _ (suc c) small
    ∙ ap₂ (λ a b. a || b) (has_card-filter (λ d. not (is_below gap d)) xs (suc c)) (raised-next (filter (is_below gap) xs) c ∙ has_card-filter (is_below gap) xs c)

-- a place that no card of the suit is below stays as it is
stays : (b : Bool) → (b && true || false) ≡ b
stays true = refl
stays false = refl

and_no : (b : Bool) → (b && false) ≡ false
and_no true = refl
and_no false = refl

not_below : (gap c : ℕ) → gap ≤ c → is_below gap c ≡ false
not_below gap c over = ap (λ b. same_suit (suit_of c) (suit_of gap) && b) (le-ltb c gap over) ∙ and_no (same_suit (suit_of c) (suit_of gap))

none_below : (gap : ℕ) (xs : List ℕ) → IsCardSet xs → ((c : ℕ) → c < 52 → is_below gap c ≡ false) → with_raised gap xs ≡ xs
none_below gap xs set none = same_set (with_raised gap xs) xs (IsCardSet-cards_where _) set (λ c small. raised-has gap xs c small ∙ at c small)
  where
    at : (c : ℕ) → c < 52 → (has_card xs c && not (is_below gap c) || came_up gap xs c) ≡ has_card xs c
    at zero small = rw (none 0 small) (stays (has_card xs 0))
    at (suc c) small = rw (none (suc c) small, none c (omega (arith, small)), and_no (has_card xs c)) (stays (has_card xs (suc c)))

-- above the gap nothing changes
pub raised-above : (gap : ℕ) (xs : List ℕ) (c : ℕ) → gap < c → c < 52 → has_card (with_raised gap xs) c ≡ has_card xs c
raised-above gap xs zero over small = absurd (omega (arith, over))
raised-above gap xs (suc c) over small = raised-has gap xs (suc c) small ∙ rw (not_below gap (suc c) (omega (arith, over)), not_below gap c (omega (arith, over)), and_no (has_card xs c)) (stays (has_card xs (suc c)))

module _ (p : ℕ) (suit : suit_of p ≡ suit_of (suc p)) (fits : suc p < 52) where
  is_below-next : (c : ℕ) → c ≢ p → is_below (suc p) c ≡ is_below p c
  is_below-next c other = ap₂ (λ u b. same_suit (suit_of c) u && b) (sym suit) (elim (cases_lt c p) as (λ _. ltb c (suc p) ≡ ltb c p) [
    | inl less ↦ lt-ltb c (suc p) (omega (arith, less)) ∙ sym (lt-ltb c p less)
    | inr more ↦ le-ltb c (suc p) (omega (arith, more, other)) ∙ sym (le-ltb c p more)
  ])

  is_below-same : is_below (suc p) p ≡ true
  is_below-same = ap₂ (λ a b. a && b) (suit_test p (suit_of (suc p)) suit) (lt-ltb p (suc p) (omega arith))

  module _ (xs : List ℕ) (set : IsCardSet xs) (free : has_card xs (suc p) ≡ false) where
    abbrev ys : List ℕ
    ys = move_card p (suc p) xs

    moved : (c : ℕ) → has_card ys c ≡ has_card xs (swap p (suc p) c)
    moved = up-renamed p (suc p) (omega arith) fits xs set free

    moved-first : has_card ys p ≡ false
    moved-first = moved p ∙ ap (has_card xs) (swap-first p (suc p)) ∙ free

    moved-second : has_card ys (suc p) ≡ has_card xs p
    moved-second = moved (suc p) ∙ ap (has_card xs) (swap-second p (suc p))

    moved-other : (c : ℕ) → c ≢ p → c ≢ suc p → has_card ys c ≡ has_card xs c
    moved-other c e f = moved c ∙ ap (has_card xs) (swap-other p (suc p) c e f)

    came : (c : ℕ) → c ≢ suc p → came_up (suc p) xs c ≡ came_up p ys c
    came zero other = refl
    came (suc d) other = elim (cases_eq d (suc p)) as (λ _. came_up (suc p) xs (suc d) ≡ came_up p ys (suc d)) [
      | inl e ↦
          ap (λ b. has_card xs d && b) (not_below (suc p) d (omega (arith, e))) ∙ and_no (has_card xs d)
          ∙ sym (ap (λ b. has_card ys d && b) (not_below p d (omega (arith, e))) ∙ and_no (has_card ys d))
      | inr f ↦
          (let g : d ≢ p = λ e. other (ap suc e) in
          ap₂ (λ a b. a && b) (sym (moved-other d g f)) (is_below-next d g))
    ]

    same_at : (c : ℕ) → (has_card xs c && not (is_below (suc p) c) || came_up (suc p) xs c) ≡ (has_card ys c && not (is_below p c) || came_up p ys c)
    same_at c = elim (cases_eq c p) as (λ _. (has_card xs c && not (is_below (suc p) c) || came_up (suc p) xs c) ≡ (has_card ys c && not (is_below p c) || came_up p ys c)) [
      | inl e ↦ subst (λ d. (has_card xs d && not (is_below (suc p) d) || came_up (suc p) xs d) ≡ (has_card ys d && not (is_below p d) || came_up p ys d)) (sym e) first
      | inr other ↦ elim (cases_eq c (suc p)) as (λ _. (has_card xs c && not (is_below (suc p) c) || came_up (suc p) xs c) ≡ (has_card ys c && not (is_below p c) || came_up p ys c)) [
        | inl e ↦ subst (λ d. (has_card xs d && not (is_below (suc p) d) || came_up (suc p) xs d) ≡ (has_card ys d && not (is_below p d) || came_up p ys d)) (sym e) second
        | inr f ↦ ap₂ (λ a b. a || b) (ap₂ (λ a b. a && not b) (sym (moved-other c other f)) (is_below-next c other)) (came c f)
      ]
    ]
      where
        first : (has_card xs p && not (is_below (suc p) p) || came_up (suc p) xs p) ≡ (has_card ys p && not (is_below p p) || came_up p ys p)
        first = rw (is_below-same, moved-first, and_no (has_card xs p)) (came p (λ e. omega (arith, e)))

        second : (has_card xs (suc p) && not (is_below (suc p) (suc p)) || has_card xs p && is_below (suc p) p) ≡ (has_card ys (suc p) && not (is_below p (suc p)) || has_card ys p && is_below p p)
        second = rw (free, is_below-same, moved-second, moved-first, not_below p (suc p) (omega arith)) (ends (has_card xs p))
          where
            ends : (b : Bool) → (b && true) ≡ (b && true || false)
            ends true = refl
            ends false = refl

    pub raised-moved : with_raised (suc p) xs ≡ with_raised p ys
    raised-moved = same_set (with_raised (suc p) xs) (with_raised p ys) (IsCardSet-cards_where _) (IsCardSet-cards_where _) (λ c small. raised-has (suc p) xs c small ∙ same_at c ∙ sym (raised-has p ys c small))

-- ---- a state

-- the gap is the lowest place of its suit
abbrev IsLowest : ℕ → Type 0
IsLowest gap = (c : ℕ) → c < 52 → is_below gap c ≡ false

lowest-zero : IsLowest 0
lowest-zero c small = not_below 0 c (omega arith)

lowest-suc : (p : ℕ) → suc p < 52 → suit_of p ≢ suit_of (suc p) → IsLowest (suc p)
lowest-suc p fits other c small = false_from_ne_true (is_below (suc p) c) (λ h.
    let both = and_parts (same_suit (suit_of c) (suit_of (suc p))) (ltb c (suc p)) h in
    let suit = same_suit-true (suit_of c) (suit_of (suc p)) both.0 in
    let less = ltb-true c (suc p) both.1 in
    other (between_suit c p (suc p) (omega (arith, less)) (omega arith) fits suit ∙ suit))

module _ (gap : ℕ) (s t : State) (ok : IsState s) (g : IsGapClosed gap s t) (lowest : IsLowest gap) where
  pub nothing_moves : t ≡ s
  nothing_moves = g.closed ∙ rw (
    none_below gap s.position.declarer ok.sound.declarer_set lowest,
    none_below gap s.position.dummy ok.sound.dummy_set lowest,
    none_below gap s.position.unseen ok.sound.unseen_set lowest,
    none_below gap s.left ok.fits.set lowest,
  ) refl

module _ (p : ℕ) (s t : State) (ok : IsState s) (g : IsGapClosed (suc p) s t) (suit : suit_of p ≡ suit_of (suc p)) where
  abbrev m : State
  m = with_moved p (suc p) s

  free : (place : ℕ) → p < place → place ≤ suc p → in_play s.position place ≡ false
  free place over under = (let e : place ≡ suc p = omega (arith, over, under) in ap (in_play s.position) e ∙ g.free)

  pub first_move : IsMovedUp s p (suc p) m
  first_move = record { between_tricks = g.between_tricks; suit = suit; order = omega arith; fits = g.fits; free = free; moved = refl }

  top : (has_card s.position.declarer (suc p) ≡ false) × (has_card s.position.dummy (suc p) ≡ false) × (has_card s.position.unseen (suc p) ≡ false)
  top = parts s p (suc p) ok g.between_tricks suit (omega arith) g.fits free (suc p) (omega arith) (omega arith)

  left_free : has_card s.left (suc p) ≡ false
  left_free = nobody s p (suc p) ok g.between_tricks suit (omega arith) g.fits free Left (suc p) (omega arith) (omega arith)

  pub other_moves : IsGapClosed p m t
  other_moves = record {
    between_tricks = g.between_tricks;
    fits = (let f = g.fits in omega (arith, f));
    free = in_play-moved s p (suc p) ok g.between_tricks suit (omega arith) g.fits free p ∙ ap (in_play s.position) (swap-first p (suc p)) ∙ g.free;
    closed = g.closed ∙ rw (
      raised-moved p suit g.fits s.position.declarer ok.sound.declarer_set top.0,
      raised-moved p suit g.fits s.position.dummy ok.sound.dummy_set top.1,
      raised-moved p suit g.fits s.position.unseen ok.sound.unseen_set top.2,
      raised-moved p suit g.fits s.left ok.fits.set left_free,
    ) refl;
  }

  -- each hand has as many cards of each suit
  same_lengths : (xs : List ℕ) → IsCardSet xs → has_card xs (suc p) ≡ false → lengths_of (move_card p (suc p) xs) ≡ lengths_of xs
  same_lengths xs set none =
      let same = suit-renamed p (suc p) suit (omega arith) g.fits xs (move_card p (suc p) xs) set (up-IsCardSet p (suc p) (omega arith) g.fits xs set none) none (up-renamed p (suc p) (omega arith) g.fits xs set none) in
      omega (arith, same Spades, same Hearts, same Diamonds, same Clubs)

  pub lengths_moved : (lengths_of m.position.declarer ≡ lengths_of s.position.declarer) × (lengths_of m.position.dummy ≡ lengths_of s.position.dummy)
      × (lengths_of m.position.unseen ≡ lengths_of s.position.unseen) × (lengths_of m.left ≡ lengths_of s.left)
  lengths_moved = (
    same_lengths s.position.declarer ok.sound.declarer_set top.0,
    same_lengths s.position.dummy ok.sound.dummy_set top.1,
    same_lengths s.position.unseen ok.sound.unseen_set top.2,
    same_lengths s.left ok.fits.set left_free,
  )

-- whether two places are of one suit
same_or_not : (p : ℕ) → (suit_of p ≡ suit_of (suc p)) ⊎ (suit_of p ≢ suit_of (suc p))
same_or_not p = elim (cases_Bool (same_suit (suit_of p) (suit_of (suc p)))) as (λ _. (suit_of p ≡ suit_of (suc p)) ⊎ (suit_of p ≢ suit_of (suc p))) [
  | inl h ↦ inl (same_suit-true (suit_of p) (suit_of (suc p)) h)
  | inr h ↦ inr (λ e. both_ways (same_suit (suit_of p) (suit_of (suc p))) h (suit_test p (suit_of (suc p)) e))
]

-- ---- what a closed gap leaves as it is

-- a state, the numbers of cards and what is decided
pub record IsStill (s t : State) : Type 0 where
  pub state : IsState t
  pub cards : cards_left t.position ≡ cards_left s.position
  pub decided : decided t.position ≡ decided s.position
  pub declarer : lengths_of t.position.declarer ≡ lengths_of s.position.declarer
  pub dummy : lengths_of t.position.dummy ≡ lengths_of s.position.dummy
  pub unseen : lengths_of t.position.unseen ≡ lengths_of s.position.unseen
  pub left : lengths_of t.left ≡ lengths_of s.left

pub still-same : (s : State) → IsState s → IsStill s s
still-same s ok = record { state = ok; cards = refl; decided = refl; declarer = refl; dummy = refl; unseen = refl; left = refl }

pub still-on : (s t u : State) → IsStill s t → IsStill t u → IsStill s u
still-on s t u a b = record {
  state = b.state;
  cards = b.cards ∙ a.cards;
  decided = b.decided ∙ a.decided;
  declarer = b.declarer ∙ a.declarer;
  dummy = b.dummy ∙ a.dummy;
  unseen = b.unseen ∙ a.unseen;
  left = b.left ∙ a.left;
}

still-one : (p : ℕ) (s t : State) → IsState s → IsGapClosed (suc p) s t → suit_of p ≡ suit_of (suc p) → IsStill s (with_moved p (suc p) s)
still-one p s t ok g suit =
    let move = first_move p s t ok g suit in
    let numbers = moved-numbers s (with_moved p (suc p) s) p (suc p) ok move in
    let long = lengths_moved p s t ok g suit in
    record {
      state = moved-state s (with_moved p (suc p) s) p (suc p) ok move;
      cards = numbers.0;
      decided = numbers.1;
      declarer = long.0;
      dummy = long.1;
      unseen = long.2;
      left = long.3;
    }

pub closed-still : (gap : ℕ) (s t : State) → IsState s → IsGapClosed gap s t → IsStill s t
closed-still zero s t ok g = subst (IsStill s) (sym (nothing_moves 0 s t ok g lowest-zero)) (still-same s ok)
closed-still (suc p) s t ok g = elim (same_or_not p) as (λ _. IsStill s t) [
  | inl suit ↦
      (let one = still-one p s t ok g suit in
      still-on s (with_moved p (suc p) s) t one (closed-still p (with_moved p (suc p) s) t one.state (other_moves p s t ok g suit)))
  | inr other ↦ subst (IsStill s) (sym (nothing_moves (suc p) s t ok g (lowest-suc p g.fits other))) (still-same s ok)
]

-- a gap further on stays free
pub later-free : (gap : ℕ) (s t : State) (c : ℕ) → IsGapClosed gap s t → gap < c → c < 52 → in_play s.position c ≡ false → in_play t.position c ≡ false
later-free gap s t c g over small free =
    ap (λ (x : State). in_play x.position c) g.closed
    ∙ rw (raised-above gap s.position.declarer c over small, raised-above gap s.position.dummy c over small, raised-above gap s.position.unseen c over small) free

-- ---- the cards that count

-- with each place below the gap whose next place counts
abbrev pub HasNextLower : ℕ → List ℕ → List ℕ → Type 0
HasNextLower gap counting more = (low : ℕ) → suit_of low ≡ suit_of gap → low < gap → has_card counting (suc low) ≡ true → has_card more low ≡ true

module _ (counting more : List ℕ) (made : Bool) (closed : IsClosedUp counting) where
  pub gap_out : (gap : ℕ) (s t : State) → IsState s → IsGapClosed gap s t → has_card counting gap ≡ false → HasAnswer counting t made → HasAnswer counting s made
  gap_out zero s t ok g out answer = subst (λ x. HasAnswer counting x made) (nothing_moves 0 s t ok g lowest-zero) answer
  gap_out (suc p) s t ok g out answer = elim (same_or_not p) as (λ _. HasAnswer counting s made) [
    | inl suit ↦
        (let move = first_move p s t ok g suit in
        let there = with_moved p (suc p) s in
        let below_out : has_card counting p ≡ false = false_from_ne_true (has_card counting p) (λ h. both_ways (has_card counting (suc p)) out (closed p (suc p) h suit (omega arith) g.fits)) in
        place_not_in s there p (suc p) counting made ok move closed
        (gap_out p there t (moved-state s there p (suc p) ok move) (other_moves p s t ok g suit) below_out answer) out)
    | inr other ↦ subst (λ x. HasAnswer counting x made) (nothing_moves (suc p) s t ok g (lowest-suc p g.fits other)) answer
  ]

  module _ (closed_more : IsClosedUp more) (within : IsSubset counting more) where
    up_is_in : (p : ℕ) → has_card more p ≡ true → (c : ℕ) → c < 52 → has_card more c ≡ (has_card more c || has_card (up_from p) c)
    up_is_in p h c small = elim (cases_Bool (has_card (up_from p) c)) as (λ _. has_card more c ≡ (has_card more c || has_card (up_from p) c)) [
      | inl up ↦
          (let is = up_parts p c up in
          let counts : has_card more c ≡ true = elim (cases_eq p c) as (λ _. has_card more c ≡ true) [
            | inl e ↦ sym (ap (has_card more) e) ∙ h
            | inr f ↦ closed_more p c h (sym is.0) (let order = is.1 in omega (arith, order, f)) small
          ] in rw counts refl)
      | inr up ↦ rw up (sym (or_no (has_card more c)))
    ]
      where
        or_no : (b : Bool) → (b || false) ≡ b
        or_no true = refl
        or_no false = refl

    pub gap_in : (gap : ℕ) (s t : State) → IsState s → IsGapClosed gap s t → HasNextLower gap counting more → HasAnswer counting t made → HasAnswer more s made
    gap_in zero s t ok g next answer = more_cards_answer counting more s made within (subst (λ x. HasAnswer counting x made) (nothing_moves 0 s t ok g lowest-zero) answer)
    gap_in (suc p) s t ok g next answer = elim (same_or_not p) as (λ _. HasAnswer more s made) [
      | inl suit ↦
          (let move = first_move p s t ok g suit in
          let there = with_moved p (suc p) s in
          elim (cases_Bool (has_card counting (suc p))) as (λ _. HasAnswer more s made) [
            | inl counts ↦
                place_in s there p (suc p) more more made ok move closed_more
                (gap_in p there t (moved-state s there p (suc p) ok move) (other_moves p s t ok g suit) (λ low u less h. next low (u ∙ suit) (omega (arith, less)) h) answer)
                (within (suc p) counts) (λ c h. h) (up_is_in p (next p suit (omega arith) counts))
            | inr out ↦ more_cards_answer counting more s made within (gap_out (suc p) s t ok g out answer)
          ])
      | inr other ↦ more_cards_answer counting more s made within (subst (λ x. HasAnswer counting x made) (nothing_moves (suc p) s t ok g (lowest-suc p g.fits other)) answer)
    ]
