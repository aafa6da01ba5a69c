-- Stoppers found by looking at the hands, and what they answer where they count.
use Rattle.std.proofs.Common.{◌≡◌, ◌≢◌, ◌⊎◌, ℕ, zero, suc, ◌+◌, ◌<◌, ◌≤◌, Bool, true, false, not, ◌&&◌, ◌||◌, max, eqb, nat_lt, Option, None, Some, List, [], ◌∷◌, length, filter, refl, sym, ap, ap₂, ◌∙◌, subst, inl, inr, arith}
use Rattle.std.specs.Prelude.{MatchOption, IfSome}
use Rattle.std.proofs.lemmas.Bool.{and_parts, cases_Bool, cases_eq, ne_eqb, le-ltb, false≢true, eqb-true}
use Rattle.card_sets.specs.declared.card.Suit.{Suit}
use Rattle.card_sets.specs.declared.card.Suit.TheVariants.{Spades, Hearts, Diamonds, Clubs}
use Rattle.card_sets.specs.Cards.{suit_of, same_suit}
use Rattle.card_sets.specs.SetWords.{has_card, cards_where, IsCardSet, IsSubset, IsLast}
use Rattle.card_sets.proofs.Sets.{has_card-filter, has_card-below, has_card-cards_where, IsCardSet-cards_where, filter-none}
use Rattle.card_sets.proofs.Suits.{same_suit-true, same_suit-refl}
use Rattle.card_sets.specs.declared.seat.Seat.{Seat}
use Rattle.trick_rules.specs.declared.trump.Trump.TheVariants.{NoTrump}
use Rattle.trick_rules.specs.Positions.{State, seat_after, to_play, tricks_left, IsState}
use Rattle.trick_rules.specs.Play.{of_suit, hand_of, is_declarers}
use Rattle.trick_rules.proofs.CardLists.{or_true, list_any-from_card}
use Rattle.trick_rules.proofs.PlayLaws.{hands_are_apart}
use Rattle.sure_tricks.specs.Stoppers.{has_suit, rounds, AreStoppers}
use Rattle.sure_tricks.proofs.Counting.{one_of}
use Rattle.sure_tricks.proofs.Hands.{seats_differ, seat_cases, next_three, hand_set}
use Rattle.sure_tricks.proofs.Holding.{suit_test}
use Rattle.sure_tricks.proofs.Stoppers.{card_had}
use Rattle.equivalent_positions.specs.Alike.{IsClosedUp, HasAnswer}
use Rattle.equivalent_positions.proofs.Stoppers.{our_failure_answers, their_failure_answers}
use Rattle.sure_tricks.specs.declared.count.SeenHands.{SeenHands}
use Rattle.dd_solver.specs.Closed.{up_from}
use Rattle.dd_solver.specs.NeedsAll.{longer_of, rounds_in, IsHighestIn, AreHighest, CanKeep, DoOutlast}

-- ---- suits that are stopped

none_stopped : (stoppers : List ℕ) (suit : Suit) → of_suit suit stoppers ≡ [] → has_suit stoppers suit ≡ false
none_stopped stoppers suit empty = elim (cases_Bool (has_suit stoppers suit)) as (λ _. has_suit stoppers suit ≡ false) [
  | inl e ↦ (let found = card_had stoppers suit e in
      let some = one_of (λ c. same_suit (suit_of c) suit) stoppers found.0 found.1 (suit_test found.0 suit found.2) in
      let none = ap (length {A = ℕ}) empty in
      absurd (omega (arith, some, none)))
  | inr e ↦ e
]

some_stopped : (stoppers : List ℕ) (suit : Suit) → (of_suit suit stoppers ≡ [] → ⊥) → has_suit stoppers suit ≡ true
some_stopped stoppers suit some = elim (cases_Bool (has_suit stoppers suit)) as (λ _. has_suit stoppers suit ≡ true) [
  | inl e ↦ e
  | inr e ↦ absurd (some (filter-none (λ c. same_suit (suit_of c) suit) stoppers (λ c held. elim (cases_Bool (same_suit (suit_of c) suit)) as (λ _. same_suit (suit_of c) suit ≡ false) [
    | inl is ↦ absurd (false≢true (sym e ∙ list_any-from_card (λ d. same_suit (suit_of d) suit) stoppers c held is))
    | inr is ↦ is
  ])))
]

pub longer_open : (own partner stoppers : List ℕ) (suit : Suit) → of_suit suit stoppers ≡ [] → longer_of own partner stoppers suit ≡ max (length (of_suit suit own)) (length (of_suit suit partner))
longer_open own partner stoppers suit empty = rw (none_stopped stoppers suit empty) refl

pub longer_stopped : (own partner stoppers : List ℕ) (suit : Suit) → (of_suit suit stoppers ≡ [] → ⊥) → longer_of own partner stoppers suit ≡ 0
longer_stopped own partner stoppers suit some = rw (some_stopped stoppers suit some) refl

-- ---- the highest card of a suit

in_suit : (set : List ℕ) (suit : Suit) (c : ℕ) → has_card set c ≡ true → suit_of c ≡ suit → has_card (of_suit suit set) c ≡ true
in_suit set suit c held e = has_card-filter (λ d. same_suit (suit_of d) suit) set c ∙ rw (held, suit_test c suit e) refl

low_in : (set cards : List ℕ) (suit : Suit) (c : ℕ) → cards ≡ of_suit suit set → IsCardSet cards → has_card set c ≡ true → suit_of c ≡ suit → c < 52
low_in set cards suit c is fits held e = has_card-below cards c fits (ap (λ (l : List ℕ). has_card l c) is ∙ in_suit set suit c held e)

pub highest_is : (set cards : List ℕ) (suit : Suit) (o : Option ℕ) → cards ≡ of_suit suit set → MatchOption o (cards ≡ []) (λ card. IsLast card cards) → IfSome o (IsHighestIn set suit)
highest_is set cards suit None is h = _
highest_is set cards suit (Some card) is h =
    let parts = and_parts (has_card set card) (same_suit (suit_of card) suit) (sym (has_card-filter (λ d. same_suit (suit_of d) suit) set card) ∙ ap (λ (l : List ℕ). has_card l card) (sym is) ∙ h.held) in
    record {
      held = parts.0;
      same = same_suit-true (suit_of card) suit parts.1;
      highest = λ other held e. h.last other (ap (λ (l : List ℕ). has_card l other) is ∙ in_suit set suit other held e);
    }

-- ---- sets of stoppers

pub only_card : (head c : ℕ) (set cards : List ℕ) → set ≡ [] → cards ≡ cards_where (λ d. has_card set d || eqb d head) → has_card cards c ≡ true → c ≡ head
only_card head c set cards empty is held =
    let there : has_card (cards_where (λ d. has_card set d || eqb d head)) c ≡ true = sym (ap (λ (l : List ℕ). has_card l c) is) ∙ held in
    let low = has_card-below (cards_where (λ d. has_card set d || eqb d head)) c (IsCardSet-cards_where (λ d. has_card set d || eqb d head)) there in
    eqb-true c head (ap (λ (l : List ℕ). has_card l c || eqb c head) (sym empty) ∙ sym (has_card-cards_where (λ d. has_card set d || eqb d head) c low) ∙ there)

of_two : (a b cards : List ℕ) (c : ℕ) → cards ≡ cards_where (λ d. has_card a d || has_card b d) → has_card cards c ≡ true → (has_card a c ≡ true) ⊎ (has_card b c ≡ true)
of_two a b cards c is held =
    let there : has_card (cards_where (λ d. has_card a d || has_card b d)) c ≡ true = sym (ap (λ (l : List ℕ). has_card l c) is) ∙ held in
    let low = has_card-below (cards_where (λ d. has_card a d || has_card b d)) c (IsCardSet-cards_where (λ d. has_card a d || has_card b d)) there in
    either (has_card a c) (has_card b c) (sym (has_card-cards_where (λ d. has_card a d || has_card b d) c low) ∙ there)
  where
    either : (x y : Bool) → (x || y) ≡ true → (x ≡ true) ⊎ (y ≡ true)
    either true y e = inl refl
    either false y e = inr e

pub both_within : (a b cards set : List ℕ) → cards ≡ cards_where (λ d. has_card a d || has_card b d) → IsSubset a set → IsSubset b set → IsSubset cards set
both_within a b cards set is first second c held = elim (of_two a b cards c is held) as (λ _. has_card set c ≡ true) [
  | inl h ↦ first c h
  | inr h ↦ second c h
]

pub both_highest : (a b cards set : List ℕ) → cards ≡ cards_where (λ d. has_card a d || has_card b d) → AreHighest a set → AreHighest b set → AreHighest cards set
both_highest a b cards set is first second c other held = elim (of_two a b cards c is held) as (λ _. has_card set other ≡ true → suit_of other ≡ suit_of c → other ≤ c) [
  | inl h ↦ first c other h
  | inr h ↦ second c other h
]

in_two : (a b cards : List ℕ) (c : ℕ) → cards ≡ cards_where (λ d. has_card a d || has_card b d) → c < 52 → (has_card a c ≡ true) ⊎ (has_card b c ≡ true) → has_card cards c ≡ true
in_two a b cards c is low held =
    ap (λ (l : List ℕ). has_card l c) is ∙ has_card-cards_where (λ d. has_card a d || has_card b d) c low ∙ elim held as (λ _. (has_card a c || has_card b c) ≡ true) [
      | inl h ↦ rw h refl
      | inr h ↦ rw h (or_true (has_card a c))
    ]

-- the head of a suit among both sides' cards
pub head_highest : (ours theirs both part set cards : List ℕ) (suit : Suit) (head : ℕ) → set ≡ [] → cards ≡ cards_where (λ d. has_card set d || eqb d head)
    → both ≡ cards_where (λ d. has_card ours d || has_card theirs d) → suit_of head ≡ suit
    → ((other : ℕ) → has_card both other ≡ true → suit_of other ≡ suit → other ≤ head)
    → part ≡ of_suit suit ours → IsCardSet part → IsCardSet theirs → (AreHighest cards ours) × (AreHighest cards theirs)
head_highest ours theirs both part set cards suit head empty is joined of_head highest own fits fits' = (
  λ card other held mine same.
      let e = only_card head card set cards empty is held in
      let there : suit_of other ≡ suit = same ∙ ap suit_of e ∙ of_head in
      let most = highest other (in_two ours theirs both other joined (low_in ours part suit other own fits mine there) (inl mine)) there in
      omega (arith, most, e),
  λ card other held mine same.
      let e = only_card head card set cards empty is held in
      let there : suit_of other ≡ suit = same ∙ ap suit_of e ∙ of_head in
      let most = highest other (in_two ours theirs both other joined (has_card-below theirs other fits' mine) (inr mine)) there in
      omega (arith, most, e),
)

-- a card is above itself
own_up : (card : ℕ) → card < 52 → has_card (up_from card) card ≡ true
own_up card low = has_card-cards_where (λ c. same_suit (suit_of c) (suit_of card) && not (nat_lt c card)) card low
    ∙ rw (same_suit-refl (suit_of card), le-ltb card card (omega arith)) refl

pub covered_more : (cards counting rest later result : List ℕ) (card : ℕ) → rest ≡ card ∷ later → IsCardSet rest → IsSubset counting result
    → ((c : ℕ) → c < 52 → has_card result c ≡ (has_card counting c || has_card (up_from card) c))
    → ((c : ℕ) → has_card cards c ≡ true → (has_card counting c ≡ true) ⊎ (has_card rest c ≡ true))
    → (c : ℕ) → has_card cards c ≡ true → (has_card result c ≡ true) ⊎ (has_card later c ≡ true)
covered_more cards counting rest later result card is fits within value covered c h = elim (covered c h) as (λ _. (has_card result c ≡ true) ⊎ (has_card later c ≡ true)) [
  | inl counts ↦ inl (within c counts)
  | inr to_come ↦ elim (cases_eq card c) as (λ _. (has_card result c ≡ true) ⊎ (has_card later c ≡ true)) [
    | inl e ↦ (let low : c < 52 = has_card-below rest c fits to_come in
        inl (value c low ∙ ap (λ b. has_card counting c || b) (subst (λ d. has_card (up_from card) d ≡ true) e (own_up card (subst (λ d. d < 52) (sym e) low))) ∙ or_true (has_card counting c)))
    | inr differ ↦ inr (sym (ap (λ b. b || has_card later c) (ne_eqb card c differ)) ∙ sym (ap (λ (l : List ℕ). has_card l c) is) ∙ to_come)
  ]
]

-- ---- what they answer

module _ (s : State) (ok : IsState s) (x : Seat) (hands : SeenHands) (own : hands.own ≡ hand_of s x) (next : hands.next ≡ hand_of s (seat_after 1 x))
    (partner : hands.partner ≡ hand_of s (seat_after 2 x)) (last : hands.last ≡ hand_of s (seat_after 3 x)) (ours theirs all stoppers : List ℕ)
    (side : ours ≡ cards_where (λ c. has_card hands.own c || has_card hands.partner c)) (others : theirs ≡ cards_where (λ c. has_card hands.next c || has_card hands.last c))
    (held : IsSubset all theirs) (high : AreHighest all ours) (high' : AreHighest all theirs) (part : IsSubset stoppers all) (outlast : DoOutlast hands stoppers (tricks_left s.position)) where
  holder : (c : ℕ) → has_card stoppers c ≡ true → (has_card (hand_of s (seat_after 1 x)) c ≡ true) ⊎ (has_card (hand_of s (seat_after 3 x)) c ≡ true)
  holder c h = elim (of_two hands.next hands.last theirs c others (held c (part c h))) as (λ _. (has_card (hand_of s (seat_after 1 x)) c ≡ true) ⊎ (has_card (hand_of s (seat_after 3 x)) c ≡ true)) [
    | inl is ↦ inl (subst (λ (l : List ℕ). has_card l c ≡ true) next is)
    | inr is ↦ inr (subst (λ (l : List ℕ). has_card l c ≡ true) last is)
  ]

  same_rounds : rounds s x stoppers ≡ rounds_in hands stoppers
  same_rounds = ap₂ (λ (i j : List ℕ). longer_of i j stoppers Spades + longer_of i j stoppers Hearts + longer_of i j stoppers Diamonds + longer_of i j stoppers Clubs) (sym own) (sym partner)

  -- by the place of a seat round the table
  at_place : (P : Seat → Type 0) → P x → P (seat_after 1 x) → P (seat_after 2 x) → P (seat_after 3 x) → (seat : Seat) → P seat
  at_place P a b c d seat = elim (seat_cases seat x) as (λ _. P seat) [
    | inl e ↦ subst P (sym e) a
    | inr differ ↦ (let at = next_three x seat differ in subst P at.3 (nth at.0 at.1 at.2))
  ]
    where
      nth : (i : ℕ) → 1 ≤ i → i < 4 → P (seat_after i x)
      nth zero some low = absurd (omega arith)
      nth (suc zero) some low = b
      nth (suc (suc zero)) some low = c
      nth (suc (suc (suc zero))) some low = d
      nth (suc (suc (suc (suc i)))) some low = absurd (omega arith)

  in_ours : (seat : Seat) (hand : List ℕ) → hand ≡ hand_of s seat → ((c : ℕ) → has_card hand c ≡ true → (has_card hands.own c ≡ true) ⊎ (has_card hands.partner c ≡ true))
      → (card other : ℕ) → has_card stoppers card ≡ true → has_card (hand_of s seat) other ≡ true → suit_of other ≡ suit_of card → other ≤ card
  in_ours seat hand is among card other h mine same =
      high card other (part card h) (in_two hands.own hands.partner ours other side (has_card-below (hand_of s seat) other (hand_set s ok seat) mine)
      (among other (subst (λ (l : List ℕ). has_card l other ≡ true) (sym is) mine))) same

  in_theirs : (seat : Seat) (hand : List ℕ) → hand ≡ hand_of s seat → ((c : ℕ) → has_card hand c ≡ true → (has_card hands.next c ≡ true) ⊎ (has_card hands.last c ≡ true))
      → (card other : ℕ) → has_card stoppers card ≡ true → has_card (hand_of s seat) other ≡ true → suit_of other ≡ suit_of card → other ≤ card
  in_theirs seat hand is among card other h mine same =
      high' card other (part card h) (in_two hands.next hands.last theirs other others (has_card-below (hand_of s seat) other (hand_set s ok seat) mine)
      (among other (subst (λ (l : List ℕ). has_card l other ≡ true) (sym is) mine))) same

  abbrev CanKeepIt : Seat → Type 0
  CanKeepIt seat = (length (filter (has_card stoppers) (hand_of s seat)) ≤ 2) ⊎ (length (filter (has_card stoppers) (hand_of s seat)) + rounds s x stoppers ≤ tricks_left s.position)

  can_keep : (seat : Seat) (hand : List ℕ) → hand ≡ hand_of s seat → CanKeep hands stoppers (tricks_left s.position) hand → CanKeepIt seat
  can_keep seat hand is keeps =
      let same = ap (λ (l : List ℕ). length (filter (has_card stoppers) l)) is in
      elim keeps as (λ _. CanKeepIt seat) [
        | inl few ↦ inl (omega (arith, few, same))
        | inr room ↦ inr (omega (arith, room, same, same_rounds))
      ]

  -- a hand of the side has none
  none_of_ours : (seat : Seat) → seat ≢ seat_after 1 x → seat ≢ seat_after 3 x → CanKeepIt seat
  none_of_ours seat first third =
      let none : filter (has_card stoppers) (hand_of s seat) ≡ [] = filter-none (has_card stoppers) (hand_of s seat) (λ c h. elim (cases_Bool (has_card stoppers c)) as (λ _. has_card stoppers c ≡ false) [
        | inl e ↦ absurd (elim (holder c e) as (λ _. ⊥) [
          | inl is ↦ false≢true (sym (hands_are_apart s seat (seat_after 1 x) ok first c h) ∙ is)
          | inr is ↦ false≢true (sym (hands_are_apart s seat (seat_after 3 x) ok third c h) ∙ is)
        ])
        | inr e ↦ e
      ]) in
      let empty = ap (length {A = ℕ}) none in
      inl (omega (arith, empty))

  pub are_stoppers : AreStoppers s x stoppers
  are_stoppers = record {
    held = holder;
    highest = λ card other seat. at_place (λ y. has_card stoppers card ≡ true → has_card (hand_of s y) other ≡ true → suit_of other ≡ suit_of card → other ≤ card)
        (in_ours x hands.own own (λ c h. inl h) card other) (in_theirs (seat_after 1 x) hands.next next (λ c h. inl h) card other)
        (in_ours (seat_after 2 x) hands.partner partner (λ c h. inr h) card other) (in_theirs (seat_after 3 x) hands.last last (λ c h. inr h) card other) seat;
    lasting = let few = outlast.lasting in omega (arith, few, same_rounds);
    kept = at_place CanKeepIt
        (none_of_ours x (seats_differ 0 1 x (omega arith) (omega arith) (λ e. omega arith)) (seats_differ 0 3 x (omega arith) (omega arith) (λ e. omega arith)))
        (can_keep (seat_after 1 x) hands.next next outlast.next)
        (none_of_ours (seat_after 2 x) (seats_differ 2 1 x (omega arith) (omega arith) (λ e. omega arith)) (seats_differ 2 3 x (omega arith) (omega arith) (λ e. omega arith)))
        (can_keep (seat_after 3 x) hands.last last outlast.last);
  }

pub failure_answers : (counting : List ℕ) (s : State) (stoppers : List ℕ) → IsClosedUp counting → IsSubset stoppers counting → IsState s → s.position.trick.cards ≡ [] → s.position.trump ≡ NoTrump
    → AreStoppers s (to_play s.position) stoppers → (b : Bool) → is_declarers (to_play s.position) ≡ b
    → (b ≡ true → tricks_left s.position ≤ s.position.need) → (b ≡ false → s.position.need ≤ 1) → HasAnswer counting s (not b)
failure_answers counting s stoppers closed within ok none no_trump are true side all one = our_failure_answers counting s stoppers closed within ok none no_trump are side (all refl)
failure_answers counting s stoppers closed within ok none no_trump are false side all one = their_failure_answers counting s stoppers closed within ok none no_trump are side (one refl)
