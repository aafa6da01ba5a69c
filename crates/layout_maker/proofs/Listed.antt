-- What one would say of the list of all layouts.
use Rattle.std.proofs.Common.{◌≡◌, ◌≢◌, ℕ, zero, suc, ◌+◌, ◌<◌, Bool, true, false, not, cond, List, [], ◌∷◌, ◌++◌, Some, None, map, length, get_or, refl, sym, ap, ap₂, ◌∙◌, subst, inl, inr, arith}
use Rattle.std.specs.Prelude.{◌==◌, ◌&&◌, ◌||◌, filter, is_none, All, AllPairs, Contains, IfSome}
use Rattle.std.proofs.lemmas.Bool.{false≢true, eq-eqb, ne_eqb, both_ways, cases_Bool, or_cases, or_parts, or_right, eqb-true, cases_eq, cases_lt, false_from_ne_true}
use Rattle.std.proofs.lemmas.List.Elements.{All-head, All-tail, All-append, All-map, All-filter, filter_passes, Contains-append_left, Contains-append_right}
use Rattle.std.proofs.lemmas.List.Kept.{AllPairs-cons, AllPairs-filter}
use Rattle.card_sets.specs.declared.seat.Seat.{Seat}
use Rattle.card_sets.specs.declared.seat.Seat.TheVariants.{Declarer, Left, Dummy, Right}
use Rattle.card_sets.specs.SetWords.{has_card, IsCardSet}
use Rattle.card_sets.proofs.Sets.{has_card-filter, has_card-cards_where, same_set, IsCardSet-filter, IsCardSet-cards_where, IsCardSet-tail, tail-after, Apart-minus}
use Rattle.card_sets.proofs.SetCounts.{nil_from_length}
use Rattle.trick_rules.specs.Positions.{State, IsSound, IsState}
use Rattle.trick_rules.specs.Play.{take_out, after}
use Rattle.trick_rules.proofs.BetweenTricks.{between_tricks_sound}
use Rattle.trick_rules.proofs.CardLists.{has_card-take_out}
use Rattle.trick_rules.proofs.States.{legal_cards-low, right_of-not_left}
use Rattle.pbn_deal.specs.declared.board.Played.{Played}
use Rattle.pbn_deal.specs.BoardRead.{together}
use Rattle.pbn_deal.specs.Boards.{BoardValue, FitsUnseen, IsDealt, IsBoard, IsFair, IsCourse, tricks_of}
use Rattle.layout_list.specs.declared.line.Layout.{Layout}
use Rattle.layout_list.specs.Lines.{FitsOver}
use Rattle.layout_list.specs.Verdicts.{first_position, cause_of, contradiction, position_after, hand_after, course_of}
use Rattle.layout_list.proofs.Follow.{Onward, onward}
use Rattle.layout_list.proofs.Keep.{start_state}
use Rattle.layout_maker.specs.Divisions.{hands_of_size, layout_with, divisions, is_allowed, layouts_over, IsDivision, ComesBefore}
use Rattle.layout_maker.proofs.Hands.{filter-members, IsPart, IsPart-IsSubset, IsPart-IsCardSet, head_absent, head_differs, part_absent, hands_are_parts, hands_have_size}
use Rattle.layout_maker.proofs.Told.{follows_if_none, none_parts}

-- ---- each is a division

in_whole : (h u : Bool) → (h ≡ true → u ≡ true) → (h || (u && not h)) ≡ u
in_whole true u holds = sym (holds refl)
in_whole false true holds = refl
in_whole false false holds = refl

division_with : (unseen hand : List ℕ) (size : ℕ) → IsCardSet unseen → IsPart unseen hand → length hand ≡ size → IsDivision unseen size (layout_with unseen hand)
division_with unseen hand size a_set part long =
    let rest = filter (λ c. not (has_card hand c)) unseen in
    record {
      left_set = IsPart-IsCardSet unseen hand a_set part;
      right_set = IsCardSet-filter (λ c. not (has_card hand c)) unseen a_set;
      apart = Apart-minus unseen hand;
      whole =
          same_set (together hand rest) unseen (IsCardSet-cards_where (λ c. has_card hand c || has_card rest c)) a_set
          (λ c within. has_card-cards_where (λ d. has_card hand d || has_card rest d) c within
          ∙ ap (λ b. has_card hand c || b) (has_card-filter (λ d. not (has_card hand d)) unseen c)
          ∙ in_whole (has_card hand c) (has_card unseen c) (IsPart-IsSubset unseen hand part c));
      left_size = long;
    }

divisions_are : (unseen : List ℕ) (size : ℕ) → IsCardSet unseen → All (IsDivision unseen size) (divisions size unseen)
divisions_are unseen size a_set =
    All-map (IsDivision unseen size) (layout_with unseen) (hands_of_size size unseen)
    (λ k d within. division_with unseen (get_or (hands_of_size size unseen) k d) size a_set (hands_are_parts size unseen a_set k d within) (hands_have_size size unseen k d within))

shown_fits : (b : BoardValue) (unseen : List ℕ) → IsBoard b → b.unseen ≡ Some unseen → FitsUnseen b unseen
shown_fits b unseen sound shown = subst (λ o. IfSome o (FitsUnseen b)) shown sound.dealt.unseen_fits

pub each_is_a_division : (b : BoardValue) (unseen : List ℕ) → IsBoard b → b.unseen ≡ Some unseen → All (IsDivision unseen (tricks_of b)) (layouts_over b unseen)
unfolding layouts_over
each_is_a_division b unseen sound shown =
    All-filter (is_allowed b unseen) (IsDivision unseen (tricks_of b)) (divisions (tricks_of b) unseen) (divisions_are unseen (tricks_of b) (shown_fits b unseen sound shown).set)

pub each_is_allowed : (b : BoardValue) (unseen : List ℕ) → All (λ layout. is_allowed b unseen layout ≡ true) (layouts_over b unseen)
unfolding layouts_over
each_is_allowed b unseen = filter_passes (is_allowed b unseen) (divisions (tricks_of b) unseen)

-- ---- each division is there

Contains-map : {X Y : Type 0} (f : X → Y) (xs : List X) (x : X) → Contains xs x → Contains (map f xs) (f x)
Contains-map f [] x at = absurd (let lt = at.1 in omega arith)
Contains-map f (y ∷ ys) x (zero, lt, is) = (0, omega arith, ap f is)
Contains-map f (y ∷ ys) x (suc k, lt, is) =
    let rest = Contains-map f ys x (k, omega arith, is) in let below = rest.1 in (suc rest.0, omega arith, rest.2)

kept_rest : {X : Type 0} (b : Bool) (y x : X) (ys : List X) → Contains ys x → Contains (cond b (y ∷ ys) ys) x
kept_rest true y x ys at = Contains-append_right (y ∷ []) ys x at
kept_rest false y x ys at = at

kept_first : {X : Type 0} (b : Bool) (y x : X) (ys : List X) → b ≡ true → y ≡ x → Contains (cond b (y ∷ ys) ys) x
kept_first true y x ys passes is = (0, omega arith, is)
kept_first false y x ys passes is = absurd (false≢true passes)

Contains-filter : {X : Type 0} (p : X → Bool) (xs : List X) (x : X) → p x ≡ true → Contains xs x → Contains (filter p xs) x
Contains-filter p [] x passes at = absurd (let lt = at.1 in omega arith)
Contains-filter p (y ∷ ys) x passes (zero, lt, is) = kept_first (p y) y x (filter p ys) (ap p is ∙ passes) is
Contains-filter p (y ∷ ys) x passes (suc k, lt, is) = kept_rest (p y) y x (filter p ys) (Contains-filter p ys x passes (k, omega arith, is))

-- a hand of a set with the first card, and the rest of it
with_first : (card : ℕ) (cards hand : List ℕ) → IsPart (card ∷ cards) hand → has_card hand card ≡ true → hand ≡ card ∷ filter (has_card hand) cards
with_first card cards hand part holds = sym part ∙ ap (λ b. cond b (card ∷ filter (has_card hand) cards) (filter (has_card hand) cards)) holds

without_first : (card : ℕ) (cards hand : List ℕ) → IsPart (card ∷ cards) hand → has_card hand card ≡ false → IsPart cards hand
without_first card cards hand part absent = sym (ap (λ b. cond b (card ∷ filter (has_card hand) cards) (filter (has_card hand) cards)) absent) ∙ part

rest_part : (cards hand : List ℕ) → IsPart cards (filter (has_card hand) cards)
rest_part cards hand =
    filter-members (has_card (filter (has_card hand) cards)) (has_card hand) cards (λ c holds. has_card-filter (has_card hand) cards c ∙ ap (λ b. b && has_card hand c) holds)

pub hands-complete : (size : ℕ) (cards hand : List ℕ) → IsPart cards hand → length hand ≡ size → Contains (hands_of_size size cards) hand
hands-complete zero cards hand part long = (0, omega arith, sym (nil_from_length hand long))
hands-complete (suc size) [] hand part long = absurd (omega (arith, ap length part))
hands-complete (suc size) (card ∷ cards) hand part long =
    elim (cases_Bool (has_card hand card)) as (λ _. Contains (hands_of_size (suc size) (card ∷ cards)) hand) [
      | inl holds ↦ (let rest = filter (has_card hand) cards in
          let is = with_first card cards hand part holds in
          Contains-append_left (map (λ more. card ∷ more) (hands_of_size size cards)) (hands_of_size (suc size) cards) hand
          (subst (Contains (map (λ more. card ∷ more) (hands_of_size size cards))) (sym is)
          (Contains-map (λ more. card ∷ more) (hands_of_size size cards) rest (hands-complete size cards rest (rest_part cards hand) (omega (arith, ap length is))))))
      | inr absent ↦
          Contains-append_right (map (λ more. card ∷ more) (hands_of_size size cards)) (hands_of_size (suc size) cards) hand
          (hands-complete (suc size) cards hand (without_first card cards hand part absent) long)
    ]

either_bits : (l r : Bool) → (l ≡ true → r ≡ false) → r ≡ ((l || r) && not l)
either_bits true r apart = apart refl
either_bits false true apart = refl
either_bits false false apart = refl

has_whole : (unseen : List ℕ) (size : ℕ) (layout : Layout) → IsDivision unseen size layout → (c : ℕ) → c < 52 → has_card unseen c ≡ (has_card layout.left c || has_card layout.right c)
has_whole unseen size layout div c within = ap (λ cards. has_card cards c) (sym div.whole) ∙ has_card-cards_where (λ d. has_card layout.left d || has_card layout.right d) c within

division_is : (unseen : List ℕ) (size : ℕ) (layout : Layout) → IsCardSet unseen → IsDivision unseen size layout → layout_with unseen layout.left ≡ layout
division_is unseen size layout a_set div =
    ap (λ right. record { left = layout.left; right = right })
    (same_set (filter (λ c. not (has_card layout.left c)) unseen) layout.right (IsCardSet-filter (λ c. not (has_card layout.left c)) unseen a_set) div.right_set
    (λ c within. has_card-filter (λ d. not (has_card layout.left d)) unseen c ∙ ap (λ b. b && not (has_card layout.left c)) (has_whole unseen size layout div c within)
    ∙ sym (either_bits (has_card layout.left c) (has_card layout.right c) (div.apart c))))

left_part : (unseen : List ℕ) (size : ℕ) (layout : Layout) → IsCardSet unseen → IsDivision unseen size layout → IsPart unseen layout.left
left_part unseen size layout a_set div =
    same_set (filter (has_card layout.left) unseen) layout.left (IsCardSet-filter (has_card layout.left) unseen a_set) div.left_set
    (λ c within. has_card-filter (has_card layout.left) unseen c ∙ ap (λ b. b && has_card layout.left c) (has_whole unseen size layout div c within) ∙ left_bits (has_card layout.left c) (has_card layout.right c)) where
      left_bits : (l r : Bool) → ((l || r) && l) ≡ l
      left_bits true r = refl
      left_bits false true = refl
      left_bits false false = refl

pub each_division_is_there : (b : BoardValue) (unseen : List ℕ) (layout : Layout) → IsBoard b → b.unseen ≡ Some unseen → IsDivision unseen (tricks_of b) layout → is_allowed b unseen layout ≡ true
    → Contains (layouts_over b unseen) layout
unfolding layouts_over
each_division_is_there b unseen layout sound shown div allowed =
    let a_set = (shown_fits b unseen sound shown).set in
    let there = Contains-map (layout_with unseen) (hands_of_size (tricks_of b) unseen) layout.left (hands-complete (tricks_of b) unseen layout.left (left_part unseen (tricks_of b) layout a_set div) div.left_size) in
    Contains-filter (is_allowed b unseen) (divisions (tricks_of b) unseen) layout allowed (subst (Contains (divisions (tricks_of b) unseen)) (division_is unseen (tricks_of b) layout a_set div) there)

-- ---- the order of whole hands

-- of two hands, at the first card that only one of them has, it is this one's
abbrev pub HasEarlier : List ℕ → List ℕ → Type 0
HasEarlier hand other =
    (card : ℕ) × (has_card hand card ≡ true) × (has_card other card ≡ false)
    × ((lower : ℕ) → lower < card → has_card hand lower ≡ has_card other lower)

AllPairs-append : {X : Type 0} (R : X → X → Type 0) (xs ys : List X) → AllPairs R xs → AllPairs R ys → All (λ x. All (R x) ys) xs → AllPairs R (xs ++ ys)
AllPairs-append R [] ys px py between = py
AllPairs-append R (x ∷ xs) ys px py between =
    AllPairs-cons R x (xs ++ ys)
    (All-append (R x) xs ys (λ k d within. px zero (suc k) d (omega arith) (omega arith)) (All-head (λ z. All (R z) ys) x xs between))
    (AllPairs-append R xs ys (λ i j d lt within. px (suc i) (suc j) d (omega arith) (omega arith)) py (All-tail (λ z. All (R z) ys) x xs between))

AllPairs-map : {X Y : Type 0} (R : Y → Y → Type 0) (f : X → Y) (xs : List X) → AllPairs (λ x y. R (f x) (f y)) xs → AllPairs R (map f xs)
AllPairs-map R f [] pairs = λ i j d lt within. absurd (omega arith)
AllPairs-map R f (x ∷ xs) pairs =
    AllPairs-cons R (f x) (map f xs) (All-map (R (f x)) f xs (λ k d within. pairs zero (suc k) d (omega arith) (omega arith)))
    (AllPairs-map R f xs (λ i j d lt within. pairs (suc i) (suc j) d (omega arith) (omega arith)))

AllPairs-weaker : {X : Type 0} (P : X → Type 0) (R S : X → X → Type 0) (xs : List X) → ((x y : X) → P x → P y → R x y → S x y) → All P xs → AllPairs R xs → AllPairs S xs
AllPairs-weaker P R S xs f all pairs = λ i j d lt within. f (get_or xs i d) (get_or xs j d) (all i d (omega arith)) (all j d within) (pairs i j d lt within)

-- with one first card, the hands behind it decide
behind : (card : ℕ) (cards hand other : List ℕ) → IsCardSet (card ∷ cards) → IsPart cards hand → HasEarlier hand other → HasEarlier (card ∷ hand) (card ∷ other)
behind card cards hand other a_set part before =
    let c = before.0 in
    let differs = head_differs card cards a_set c (IsPart-IsSubset cards hand part c before.1) in (
      c,
      or_right (card == c) (has_card hand c) before.1,
      ap₂ (λ a b. a || b) differs before.2,
      λ lower lt. ap (λ b. (card == lower) || b) (before.3 lower lt),
    )

absent_below : (card : ℕ) (cards hand : List ℕ) → IsCardSet (card ∷ cards) → IsPart cards hand → (lower : ℕ) → lower < card → has_card hand lower ≡ false
absent_below card cards hand a_set part lower lt =
    false_from_ne_true (has_card hand lower) (λ holds. absurd (omega (arith, tail-after card cards a_set lower (IsPart-IsSubset cards hand part lower holds))))

-- a hand with the first card comes before one without it
first_decides : (card : ℕ) (cards hand other : List ℕ) → IsCardSet (card ∷ cards) → IsPart cards hand → IsPart cards other → HasEarlier (card ∷ hand) other
first_decides card cards hand other a_set part other_part = (
  card,
  ap (λ b. b || has_card hand card) (eq-eqb card card refl),
  part_absent card cards other a_set other_part,
  λ lower lt. ap₂ (λ a b. a || b) (ne_eqb card lower (λ same. absurd (omega arith))) (absent_below card cards hand a_set part lower lt)
      ∙ sym (absent_below card cards other a_set other_part lower lt),
)

pub hands-ordered : (size : ℕ) (cards : List ℕ) → IsCardSet cards → AllPairs HasEarlier (hands_of_size size cards)
hands-ordered zero cards a_set = λ i j d lt within. absurd (omega arith)
hands-ordered (suc size) [] a_set = λ i j d lt within. absurd (omega arith)
hands-ordered (suc size) (card ∷ cards) a_set =
    let tail_set = IsCardSet-tail card cards a_set in
    let with_card = hands_of_size size cards in
    let without_card = hands_of_size (suc size) cards in
    let parts = hands_are_parts size cards tail_set in
    let other_parts = hands_are_parts (suc size) cards tail_set in
    AllPairs-append HasEarlier (map (λ hand. card ∷ hand) with_card) without_card
    (AllPairs-map HasEarlier (λ hand. card ∷ hand) with_card
    (AllPairs-weaker (IsPart cards) HasEarlier (λ hand other. HasEarlier (card ∷ hand) (card ∷ other)) with_card
    (λ hand other part _ before. behind card cards hand other a_set part before) parts (hands-ordered size cards tail_set)))
    (hands-ordered (suc size) cards tail_set)
    (All-map (λ hand. All (HasEarlier hand) without_card) (λ hand. card ∷ hand) with_card
    (λ k d within l e inside. first_decides card cards (get_or with_card k d) (get_or without_card l e) a_set (parts k d within) (other_parts l e inside)))

pub each_before_the_later : (b : BoardValue) (unseen : List ℕ) → IsBoard b → b.unseen ≡ Some unseen → AllPairs (λ layout later. HasEarlier layout.left later.left) (layouts_over b unseen)
unfolding layouts_over
each_before_the_later b unseen sound shown =
    AllPairs-filter (λ layout later. HasEarlier layout.left later.left) (is_allowed b unseen) (divisions (tricks_of b) unseen)
    (AllPairs-map (λ layout later. HasEarlier layout.left later.left) (layout_with unseen) (hands_of_size (tricks_of b) unseen) (hands-ordered (tricks_of b) unseen (shown_fits b unseen sound shown).set))

pub none_stands_twice : (b : BoardValue) (unseen : List ℕ) → IsBoard b → b.unseen ≡ Some unseen → AllPairs (λ layout later. layout ≢ later) (layouts_over b unseen)
none_stands_twice b unseen sound shown =
    AllPairs-weaker (λ _. Unit {0}) (λ layout later. HasEarlier layout.left later.left) (λ layout later. layout ≢ later) (layouts_over b unseen)
    (λ layout later _ _ before same. both_ways (has_card later.left before.0) before.2 (ap (λ (d : Layout). has_card d.left before.0) (sym same) ∙ before.1))
    (λ k d within. tt) (each_before_the_later b unseen sound shown)

-- ---- the order of the cards still held

-- a card that only one of two hands has isn't played, where nothing contradicts either
not_played : (s : State) (other : List ℕ) (seat : Seat) (card c : ℕ) → IsState s → IsFair (course_of s.position) seat card
    → cause_of s (record { seat = seat; card = card }) ≡ None → cause_of (record { position = s.position; left = other }) (record { seat = seat; card = card }) ≡ None
    → has_card s.left c ≡ true → has_card other c ≡ false → c ≡ card → ⊥
not_played s other Declarer card c state fair none other_none holds out same =
    both_ways (has_card s.position.unseen card) (state.sound.declarer_unseen card (legal_cards-low s.position.trick.cards s.position.declarer card fair)) (state.fits.part card (ap (has_card s.left) (sym same) ∙ holds))
not_played s other Dummy card c state fair none other_none holds out same =
    both_ways (has_card s.position.unseen card) (state.sound.dummy_unseen card (legal_cards-low s.position.trick.cards s.position.dummy card fair)) (state.fits.part card (ap (has_card s.left) (sym same) ∙ holds))
not_played s other Left card c state fair none other_none holds out same =
    both_ways (has_card other c) out (ap (has_card other) same ∙ (follows_if_none s.position.trick.cards other card other_none).0)
not_played s other Right card c state fair none other_none holds out same =
    both_ways (has_card s.left c) (ap (has_card s.left) same ∙ right_of-not_left s card (follows_if_none s.position.trick.cards (filter (λ d. not (has_card s.left d)) s.position.unseen) card none).0) holds

before_after : (card : ℕ) (hand other : List ℕ) (before : HasEarlier hand other) → (before.0 ≡ card → ⊥) → HasEarlier (take_out card hand) (take_out card other)
before_after card hand other before differs =
    let c = before.0 in (
      c,
      has_card-take_out card hand c ∙ ap₂ (λ a b. a && not b) before.1 (ne_eqb c card differs),
      has_card-take_out card other c ∙ ap (λ b. b && not (c == card)) before.2,
      λ lower lt. has_card-take_out card hand lower ∙ ap (λ b. b && not (lower == card)) (before.3 lower lt) ∙ sym (has_card-take_out card other lower),
    )

before_to_the_end : (n : ℕ) (s : State) (other : List ℕ) (plays : List Played) → IsState s → IsCourse s.position.trump (course_of s.position) plays
    → is_none (contradiction n s plays) ≡ true → is_none (contradiction n (record { position = s.position; left = other }) plays) ≡ true
    → HasEarlier s.left other → HasEarlier (hand_after s.left plays) (hand_after other plays)
before_to_the_end n s other [] state course none other_none before = before
before_to_the_end n s other (play ∷ plays) state course none other_none before =
    let first = none_parts (cause_of s play) n (contradiction (n + 1) (after s play.card) plays) none in
    let other_first = none_parts (cause_of (record { position = s.position; left = other }) play) n (contradiction (n + 1) (after (record { position = s.position; left = other }) play.card) plays) other_none in
    let on : Onward s play plays = onward s play plays state course first.0 in
    before_to_the_end (n + 1) (after s play.card) (take_out play.card other) plays on.state on.fair first.1 other_first.1
    (before_after play.card s.left other before (not_played s other play.seat play.card before.0 state course.1 first.0 other_first.0 before.1 before.2))

first_sound : (b : BoardValue) (unseen : List ℕ) → IsDealt b → FitsUnseen b unseen → IsSound (first_position b unseen)
first_sound b unseen dealt fits =
    between_tricks_sound b.declarer_hand b.dummy_hand unseen b.leader b.need b.trump
    (record {
      declarer_set = dealt.declarer_set;
      dummy_set = dealt.dummy_set;
      unseen_set = fits.set;
      declarer_dummy = dealt.apart;
      declarer_unseen = fits.declarer_apart;
      dummy_unseen = fits.dummy_apart;
      dummy_count = dealt.same_size;
      unseen_count = fits.count;
    })
    dealt.need_fits

first_state : (b : BoardValue) (unseen : List ℕ) (layout : Layout) → IsBoard b → b.unseen ≡ Some unseen → IsDivision unseen (tricks_of b) layout → IsState (record { position = first_position b unseen; left = layout.left })
first_state b unseen layout sound shown div =
    let fits = shown_fits b unseen sound shown in
    let over : FitsOver b unseen layout = record { fits = record { left_set = div.left_set; left_size = div.left_size; unseen = subst (FitsUnseen b) (sym div.whole) fits }; same = div.whole } in
    start_state b unseen layout (first_sound b unseen sound.dealt fits) over

state_at_the_end : (n : ℕ) (s : State) (plays : List Played) → IsState s → IsCourse s.position.trump (course_of s.position) plays → is_none (contradiction n s plays) ≡ true
    → IsState (record { position = position_after s.position plays; left = hand_after s.left plays })
state_at_the_end n s [] state course none = state
state_at_the_end n s (play ∷ plays) state course none =
    let first = none_parts (cause_of s play) n (contradiction (n + 1) (after s play.card) plays) none in
    let on : Onward s play plays = onward s play plays state course first.0 in
    state_at_the_end (n + 1) (after s play.card) plays on.state on.fair first.1

-- ---- card by card

lower_first : (x y : ℕ) (xs ys : List ℕ) → IsCardSet (x ∷ xs) → IsCardSet (y ∷ ys) → HasEarlier (x ∷ xs) (y ∷ ys) → y < x → ⊥
lower_first x y xs ys x_set y_set before less =
    let c = before.0 in
    let not_x : has_card (x ∷ xs) y ≡ false =
    false_from_ne_true (has_card (x ∷ xs) y) (λ holds. elim (or_cases (x == y) (has_card xs y) holds) [
      | inl same ↦ absurd (omega (arith, eqb-true x y same))
      | inr later ↦ absurd (omega (arith, tail-after x xs x_set y later))
    ]) in
    let above : y < c = elim (or_cases (x == c) (has_card xs c) before.1) [
      | inl same ↦ omega (arith, eqb-true x c same)
      | inr later ↦ omega (arith, tail-after x xs x_set c later)
    ] in
    both_ways (has_card (y ∷ ys) y) (sym (before.3 y above) ∙ not_x) (ap (λ b. b || has_card ys y) (eq-eqb y y refl))

-- behind a first card that both have
earlier_behind : (x : ℕ) (xs ys : List ℕ) → IsCardSet (x ∷ xs) → IsCardSet (x ∷ ys) → HasEarlier (x ∷ xs) (x ∷ ys) → HasEarlier xs ys
earlier_behind x xs ys x_set y_set before =
    let c = before.0 in
    let out = or_parts (x == c) (has_card ys c) before.2 in (
      c,
      elim (or_cases (x == c) (has_card xs c) before.1) [
        | inl same ↦ absurd (both_ways (x == c) out.0 same)
        | inr later ↦ later
      ],
      out.1,
      λ lower lt. elim (cases_eq x lower) [
        | inl same ↦ subst (λ (l : ℕ). has_card xs l ≡ has_card ys l) same (head_absent x xs x_set ∙ sym (head_absent x ys y_set))
        | inr other ↦ sym (ap (λ b. b || has_card xs lower) (ne_eqb x lower other)) ∙ before.3 lower lt ∙ ap (λ b. b || has_card ys lower) (ne_eqb x lower other)
      ],
    )

pub card_by_card : (xs ys : List ℕ) → IsCardSet xs → IsCardSet ys → length xs ≡ length ys → HasEarlier xs ys → ComesBefore xs ys
card_by_card [] ys x_set y_set long before = absurd (false≢true before.1)
card_by_card (x ∷ xs) [] x_set y_set long before = absurd (omega arith)
card_by_card (x ∷ xs) (y ∷ ys) x_set y_set long before =
    elim (cases_eq x y) [
      | inl same ↦ (let moved : IsCardSet (x ∷ ys) = subst (λ (z : ℕ). IsCardSet (z ∷ ys)) (sym same) y_set in
          inr (
            same,
            card_by_card xs ys (IsCardSet-tail x xs x_set) (IsCardSet-tail y ys y_set) (omega arith)
                (earlier_behind x xs ys x_set moved (subst (λ (z : ℕ). HasEarlier (x ∷ xs) (z ∷ ys)) (sym same) before)),
          ))
      | inr differ ↦ elim (cases_lt x y) [
        | inl less ↦ inl less
        | inr more ↦ absurd (lower_first x y xs ys x_set y_set before (omega arith))
      ]
    ]

pub in_order_of_what_is_held : (b : BoardValue) (unseen : List ℕ) → IsBoard b → b.unseen ≡ Some unseen
    → AllPairs (λ layout later. ComesBefore (hand_after layout.left b.plays) (hand_after later.left b.plays)) (layouts_over b unseen)
in_order_of_what_is_held b unseen sound shown =
    AllPairs-weaker (λ layout. IsDivision unseen (tricks_of b) layout × (is_allowed b unseen layout ≡ true)) (λ layout later. HasEarlier layout.left later.left)
    (λ layout later. ComesBefore (hand_after layout.left b.plays) (hand_after later.left b.plays)) (layouts_over b unseen)
    (λ layout later this that before.
    let this_state = first_state b unseen layout sound shown this.0 in
    let this_end = state_at_the_end 1 (record { position = first_position b unseen; left = layout.left }) b.plays this_state sound.fair this.1 in
    let that_end = state_at_the_end 1 (record { position = first_position b unseen; left = later.left }) b.plays (first_state b unseen later sound shown that.0) sound.fair that.1 in
    card_by_card (hand_after layout.left b.plays) (hand_after later.left b.plays) this_end.fits.set that_end.fits.set (omega (arith, this_end.fits.count, that_end.fits.count))
    (before_to_the_end 1 (record { position = first_position b unseen; left = layout.left }) later.left b.plays this_state sound.fair this.1 that.1 before))
    (λ k d within. (each_is_a_division b unseen sound shown k d within, each_is_allowed b unseen k d within))
    (each_before_the_later b unseen sound shown)
