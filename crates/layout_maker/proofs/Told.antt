-- What the play says of a layout, as sets of cards.
use Rattle.std.proofs.Common.{◌≡◌, ℕ, ◌+◌, Bool, true, false, not, cond, List, [], ◌∷◌, Option, None, Some, map, get_or, refl, sym, ap, ap₂, ◌∙◌, subst, inl, inr}
use Rattle.std.specs.Prelude.{◌==◌, ◌&&◌, ◌||◌, ◌↔◌, filter, is_none, MatchOption}
use Rattle.std.proofs.lemmas.Bool.{false≢true, eq-eqb, ne_eqb, both_ways, and_parts, and_from, and_right, not-true, not-false, cases_Bool, false_from_ne_true}
use Rattle.card_sets.specs.declared.card.Suit.{Suit}
use Rattle.card_sets.specs.declared.seat.Seat.{Seat}
use Rattle.card_sets.specs.declared.seat.Seat.TheVariants.{Declarer, Left, Dummy, Right}
use Rattle.card_sets.specs.Cards.{suit_of, same_suit}
use Rattle.card_sets.specs.SetWords.{has_card, IsCardSet, IsSubset}
use Rattle.card_sets.proofs.Sets.{has_card-filter, filter-none, fails-filter_nil}
use Rattle.trick_rules.specs.Positions.{PositionValue, State}
use Rattle.trick_rules.specs.Play.{of_suit, or_whole, legal_cards, suit_led, take_out, next_trick, after_card, after}
use Rattle.trick_rules.proofs.CardLists.{has_card-take_out, take_out-gone, list_all-from_cards, cards_from_list_all}
use Rattle.trick_rules.proofs.States.{legal_cards-low, after_card-unseen, after_card-trump, after_card-trick}
use Rattle.pbn_deal.specs.declared.board.Played.{Played}
use Rattle.pbn_deal.specs.Boards.{BoardValue, first_trick, tricks_of}
use Rattle.layout_list.specs.declared.kept.Cause.{Cause}
use Rattle.layout_list.specs.declared.kept.Cause.TheVariants.{NotHeld, Revoke}
use Rattle.layout_list.specs.declared.verdict.Contradiction.{Contradiction}
use Rattle.layout_list.specs.Verdicts.{first_position, cause_of, or_later, contradiction}
use Rattle.layout_maker.specs.declared.allowed.MayHold.{MayHold}
use Rattle.layout_maker.specs.Divisions.{hands_of_size, layout_with, is_allowed, layouts_over, if_few, layouts_shown, layouts_made}
use Rattle.layout_maker.specs.Choosing.{shows_void, without, narrowed, after_plays, fits, fitting_hands}
use Rattle.layout_maker.proofs.Hands.{filter-same, filter-map, filter-nothing, filter-members, hands_are_parts, IsPart-IsSubset}

-- ---- a card that is legal

-- a seat holds the card, and no card that it shows not to hold
abbrev pub FollowsSuit : List ℕ → List ℕ → ℕ → Type 0
FollowsSuit trick hand card = (has_card hand card ≡ true) × ((c : ℕ) → has_card hand c ≡ true → shows_void trick card c ≡ false)

legal_in_suit : (led : ℕ) (part hand : List ℕ) (card : ℕ) → part ≡ of_suit (suit_of led) hand → has_card (or_whole part hand) card ≡ true → has_card hand card ≡ true
    → (c : ℕ) → has_card hand c ≡ true → shows_void (led ∷ []) card c ≡ false
legal_in_suit led [] hand card is legal held c holds =
    ap (λ b. b && not (same_suit (suit_of card) (suit_of led))) (fails-filter_nil (λ d. same_suit (suit_of d) (suit_of led)) hand c (sym is) holds)
legal_in_suit led (x ∷ xs) hand card is legal held c holds =
    let in_suit = (and_parts (has_card hand card) (same_suit (suit_of card) (suit_of led)) (sym (has_card-filter (λ d. same_suit (suit_of d) (suit_of led)) hand card) ∙ ap (λ p. has_card p card) (sym is) ∙ legal)).1 in
    and_right (same_suit (suit_of c) (suit_of led)) (not (same_suit (suit_of card) (suit_of led))) (ap not in_suit)

no_void_from_legal : (trick hand : List ℕ) (card : ℕ) → has_card (legal_cards trick hand) card ≡ true → FollowsSuit trick hand card
no_void_from_legal [] hand card legal = (legal, λ c holds. refl)
no_void_from_legal (led ∷ rest) hand card legal =
    let held = legal_cards-low (led ∷ rest) hand card legal in
    (held, legal_in_suit led (of_suit (suit_of led) hand) hand card refl legal held)

in_part : (led : ℕ) (part hand : List ℕ) (card : ℕ) → part ≡ of_suit (suit_of led) hand → FollowsSuit (led ∷ []) hand card → has_card (or_whole part hand) card ≡ true
in_part led [] hand card is follows = follows.0
in_part led (x ∷ xs) hand card is follows =
    let x_in : has_card (of_suit (suit_of led) hand) x ≡ true = ap (λ p. has_card p x) (sym is) ∙ ap (λ e. e || has_card xs x) (eq-eqb x x refl) in
    let parts = and_parts (has_card hand x) (same_suit (suit_of x) (suit_of led)) (sym (has_card-filter (λ d. same_suit (suit_of d) (suit_of led)) hand x) ∙ x_in) in
    let same : same_suit (suit_of card) (suit_of led) ≡ true = not-false (same_suit (suit_of card) (suit_of led)) (sym (ap (λ b. b && not (same_suit (suit_of card) (suit_of led))) parts.1) ∙ follows.1 x parts.0) in
    ap (λ p. has_card p card) is ∙ has_card-filter (λ d. same_suit (suit_of d) (suit_of led)) hand card ∙ and_from (has_card hand card) (same_suit (suit_of card) (suit_of led)) follows.0 same

legal_from_no_void : (trick hand : List ℕ) (card : ℕ) → FollowsSuit trick hand card → has_card (legal_cards trick hand) card ≡ true
legal_from_no_void [] hand card follows = follows.0
legal_from_no_void (led ∷ rest) hand card follows = in_part led (of_suit (suit_of led) hand) hand card refl follows

-- the cards that it shows not to hold: none where it leads or follows suit, else those of the suit led
pub void_cards-led : (trick unseen : List ℕ) (card : ℕ) → None ≡ suit_led trick → filter (shows_void trick card) unseen ≡ []
void_cards-led [] unseen card is = filter-none (shows_void [] card) unseen (λ c holds. refl)
void_cards-led (led ∷ rest) unseen card is = cc

pub void_cards-follows : (trick unseen : List ℕ) (card : ℕ) (suit : Suit) → Some suit ≡ suit_led trick → same_suit (suit_of card) suit ≡ true → filter (shows_void trick card) unseen ≡ []
void_cards-follows [] unseen card suit is same = cc
void_cards-follows (led ∷ rest) unseen card suit is same =
    let suit_is : suit ≡ suit_of led = cc in
    filter-none (shows_void (led ∷ rest) card) unseen
    (λ c holds. and_right (same_suit (suit_of c) (suit_of led)) (not (same_suit (suit_of card) (suit_of led))) (ap not (subst (λ (s : Suit). same_suit (suit_of card) s ≡ true) suit_is same)))

and_so : (b : Bool) → (b && true) ≡ b
and_so true = refl
and_so false = refl

pub void_cards-void : (trick unseen : List ℕ) (card : ℕ) (suit : Suit) → Some suit ≡ suit_led trick → same_suit (suit_of card) suit ≡ false
    → filter (shows_void trick card) unseen ≡ filter (λ c. same_suit (suit_of c) suit) unseen
void_cards-void [] unseen card suit is other = cc
void_cards-void (led ∷ rest) unseen card suit is other =
    let suit_is : suit ≡ suit_of led = cc in
    filter-members (shows_void (led ∷ rest) card) (λ c. same_suit (suit_of c) suit) unseen
    (λ c holds. ap (λ b. same_suit (suit_of c) (suit_of led) && not b) (subst (λ (s : Suit). same_suit (suit_of card) s ≡ false) suit_is other)
    ∙ and_so (same_suit (suit_of c) (suit_of led)) ∙ ap (same_suit (suit_of c)) (sym suit_is))

-- ---- a card with no cause against it

-- the cause against a defender's card at a hand
abbrev cause_at : List ℕ → List ℕ → ℕ → Option Cause
cause_at trick hand card = cond (not (has_card hand card)) (Some NotHeld) (cond (not (has_card (legal_cards trick hand) card)) (Some Revoke) None)

legal_if_none : (held legal : Bool) → cond (not held) (Some NotHeld) (cond (not legal) (Some Revoke) None) ≡ None → legal ≡ true
legal_if_none true true none = refl
legal_if_none true false none = cc
legal_if_none false legal none = cc

none_if_legal : (held legal : Bool) → held ≡ true → legal ≡ true → cond (not held) (Some NotHeld) (cond (not legal) (Some Revoke) None) ≡ None
none_if_legal held legal h l = ap₂ (λ a b. cond (not a) (Some NotHeld) (cond (not b) (Some Revoke) None)) h l

pub follows_if_none : (trick hand : List ℕ) (card : ℕ) → cause_at trick hand card ≡ None → FollowsSuit trick hand card
follows_if_none trick hand card none = no_void_from_legal trick hand card (legal_if_none (has_card hand card) (has_card (legal_cards trick hand) card) none)

none_if_follows : (trick hand : List ℕ) (card : ℕ) → FollowsSuit trick hand card → cause_at trick hand card ≡ None
none_if_follows trick hand card follows = none_if_legal (has_card hand card) (has_card (legal_cards trick hand) card) follows.0 (legal_from_no_void trick hand card follows)

-- ---- what a hand of Left's has to do with the cards that each defender may hold

-- a hand that fits: each of its cards may be Left's, and each other unseen card may be Right's
pub record Holds (may : MayHold) (hand unseen : List ℕ) : Type 0 where
  pub left : IsSubset hand may.left
  pub right : (c : ℕ) → has_card unseen c ≡ true → has_card hand c ≡ false → has_card may.right c ≡ true

-- what is left of a hand and of the unseen cards at some moment
pub record LeftOf (hand unseen held hidden : List ℕ) : Type 0 where
  pub hidden_part : IsSubset hidden unseen
  pub held_is : (c : ℕ) → has_card held c ≡ (has_card hand c && has_card hidden c)

and_assoc : (a b c : Bool) → ((a && b) && c) ≡ (a && (b && c))
and_assoc true b c = refl
and_assoc false b c = refl

left_after : (hand unseen held hidden : List ℕ) (card : ℕ) → LeftOf hand unseen held hidden → LeftOf hand unseen (take_out card held) (take_out card hidden)
left_after hand unseen held hidden card now = record {
  hidden_part = λ c holds. now.hidden_part c ((and_parts (has_card hidden c) (not (c == card)) (sym (has_card-take_out card hidden c) ∙ holds)).0);
  held_is = λ c.
      has_card-take_out card held c ∙ ap (λ b. b && not (c == card)) (now.held_is c)
      ∙ and_assoc (has_card hand c) (has_card hidden c) (not (c == card))
      ∙ ap (λ b. has_card hand c && b) (sym (has_card-take_out card hidden c));
}

differs : (a b : ℕ) (hand : List ℕ) → has_card hand a ≡ true → has_card hand b ≡ false → not (a == b) ≡ true
differs a b hand a_in b_out = ap not (ne_eqb a b (λ same. both_ways (has_card hand b) b_out (ap (has_card hand) (sym same) ∙ a_in)))

not_both : (h v : Bool) → (h ≡ true → v ≡ false) → not (h && v) ≡ true
not_both true v none = ap not (none refl)
not_both false v none = refl

has_card-without : (others cards : List ℕ) (c : ℕ) → has_card (without others cards) c ≡ (has_card cards c && not (has_card others c))
has_card-without others cards c = has_card-filter (λ d. not (has_card others d)) cards c

-- a card is among the void ones that are hidden
void_hidden : (trick hidden : List ℕ) (card c : ℕ) → has_card (filter (shows_void trick card) hidden) c ≡ (has_card hidden c && shows_void trick card c)
void_hidden trick hidden card c = has_card-filter (shows_void trick card) hidden c

-- a set from which the void cards of a hand were taken
kept_from_void : (trick hidden cards : List ℕ) (card c : ℕ) → has_card cards c ≡ true → (has_card hidden c ≡ true → shows_void trick card c ≡ false)
    → has_card (without (filter (shows_void trick card) hidden) cards) c ≡ true
kept_from_void trick hidden cards card c holds none =
    has_card-without (filter (shows_void trick card) hidden) cards c
    ∙ and_from (has_card cards c) (not (has_card (filter (shows_void trick card) hidden) c)) holds (ap not (void_hidden trick hidden card c) ∙ not_both (has_card hidden c) (shows_void trick card c) none)

parts_from_void : (trick hidden cards : List ℕ) (card c : ℕ) → has_card (without (filter (shows_void trick card) hidden) cards) c ≡ true → (has_card cards c ≡ true) × (has_card hidden c ≡ true → shows_void trick card c ≡ false)
parts_from_void trick hidden cards card c kept =
    let parts = and_parts (has_card cards c) (not (has_card (filter (shows_void trick card) hidden) c)) (sym (has_card-without (filter (shows_void trick card) hidden) cards c) ∙ kept) in
    (parts.0, λ in_hidden. sym (ap (λ h. h && shows_void trick card c) in_hidden) ∙ sym (void_hidden trick hidden card c) ∙ not-true (has_card (filter (shows_void trick card) hidden) c) parts.1)

-- ---- Left's card

left_holds : (trick hand unseen held hidden : List ℕ) (card : ℕ) (may : MayHold) → LeftOf hand unseen held hidden → Holds may hand unseen → FollowsSuit trick held card
    → Holds (narrowed Left trick hidden card may) hand unseen
left_holds trick hand unseen held hidden card may now holds follows =
    let card_in : has_card hand card ≡ true = (and_parts (has_card hand card) (has_card hidden card) (sym (now.held_is card) ∙ follows.0)).0 in
    record {
      left = λ c in_hand.
          kept_from_void trick hidden may.left card c (holds.left c in_hand) (λ in_hidden. follows.1 c (now.held_is c ∙ and_from (has_card hand c) (has_card hidden c) in_hand in_hidden));
      right = λ c in_unseen out.
          has_card-take_out card may.right c
          ∙ and_from (has_card may.right c) (not (c == card)) (holds.right c in_unseen out) (ap not (ne_eqb c card (λ same. both_ways (has_card hand c) out (ap (has_card hand) same ∙ card_in))));
    }

left_from : (trick hand unseen held hidden : List ℕ) (card : ℕ) (may : MayHold) → LeftOf hand unseen held hidden → has_card hidden card ≡ true → Holds (narrowed Left trick hidden card may) hand unseen
    → Holds may hand unseen × FollowsSuit trick held card
left_from trick hand unseen held hidden card may now in_hidden narrow =
    let card_in : has_card hand card ≡ true =
    elim (cases_Bool (has_card hand card)) as (λ _. has_card hand card ≡ true) [
      | inl so ↦ so
      | inr out ↦ absurd (both_ways (has_card (take_out card may.right) card) (take_out-gone card may.right) (narrow.right card (now.hidden_part card in_hidden) out))
    ] in (
      record {
        left = λ c in_hand. (parts_from_void trick hidden may.left card c (narrow.left c in_hand)).0;
        right = λ c in_unseen out. (and_parts (has_card may.right c) (not (c == card)) (sym (has_card-take_out card may.right c) ∙ narrow.right c in_unseen out)).0;
      },
      (
        now.held_is card ∙ and_from (has_card hand card) (has_card hidden card) card_in in_hidden,
        λ c is_held.
            let parts = and_parts (has_card hand c) (has_card hidden c) (sym (now.held_is c) ∙ is_held) in
            (parts_from_void trick hidden may.left card c (narrow.left c parts.0)).1 parts.1,
      ),
    )

-- ---- Right's card

-- what Right has left
abbrev rights : List ℕ → List ℕ → List ℕ
rights held hidden = filter (λ c. not (has_card held c)) hidden

right_is : (hand unseen held hidden : List ℕ) (c : ℕ) → LeftOf hand unseen held hidden → has_card hidden c ≡ true → has_card (rights held hidden) c ≡ not (has_card hand c)
right_is hand unseen held hidden c now in_hidden =
    has_card-filter (λ d. not (has_card held d)) hidden c ∙ ap₂ (λ a b. a && not b) in_hidden (now.held_is c ∙ ap (λ b. has_card hand c && b) in_hidden ∙ and_true (has_card hand c)) where
      and_true : (b : Bool) → (b && true) ≡ b
      and_true true = refl
      and_true false = refl

right_hidden : (held hidden : List ℕ) (c : ℕ) → has_card (rights held hidden) c ≡ true → has_card hidden c ≡ true
right_hidden held hidden c holds = (and_parts (has_card hidden c) (not (has_card held c)) (sym (has_card-filter (λ d. not (has_card held d)) hidden c) ∙ holds)).0

right_holds : (trick hand unseen held hidden : List ℕ) (card : ℕ) (may : MayHold) → LeftOf hand unseen held hidden → Holds may hand unseen → FollowsSuit trick (rights held hidden) card
    → Holds (narrowed Right trick hidden card may) hand unseen
right_holds trick hand unseen held hidden card may now holds follows =
    let card_out : has_card hand card ≡ false = not-true (has_card hand card) (sym (right_is hand unseen held hidden card now (right_hidden held hidden card follows.0)) ∙ follows.0) in
    record {
      left = λ c in_hand.
          has_card-take_out card may.left c ∙ and_from (has_card may.left c) (not (c == card)) (holds.left c in_hand) (differs c card hand in_hand card_out);
      right = λ c in_unseen out.
          kept_from_void trick hidden may.right card c (holds.right c in_unseen out) (λ in_hidden. follows.1 c (right_is hand unseen held hidden c now in_hidden ∙ ap not out));
    }

right_from : (trick hand unseen held hidden : List ℕ) (card : ℕ) (may : MayHold) → LeftOf hand unseen held hidden → has_card hidden card ≡ true → Holds (narrowed Right trick hidden card may) hand unseen
    → Holds may hand unseen × FollowsSuit trick (rights held hidden) card
right_from trick hand unseen held hidden card may now in_hidden narrow =
    let card_out : has_card hand card ≡ false =
    false_from_ne_true (has_card hand card) (λ so. both_ways (has_card (take_out card may.left) card) (take_out-gone card may.left) (narrow.left card so)) in (
      record {
        left = λ c in_hand. (and_parts (has_card may.left c) (not (c == card)) (sym (has_card-take_out card may.left c) ∙ narrow.left c in_hand)).0;
        right = λ c in_unseen out. (parts_from_void trick hidden may.right card c (narrow.right c in_unseen out)).0;
      },
      (
        right_is hand unseen held hidden card now in_hidden ∙ ap not card_out,
        λ c is_right.
            let c_hidden = right_hidden held hidden c is_right in
            let out = not-true (has_card hand c) (sym (right_is hand unseen held hidden c now c_hidden) ∙ is_right) in
            (parts_from_void trick hidden may.right card c (narrow.right c (now.hidden_part c c_hidden) out)).1 c_hidden,
      ),
    )

-- ---- the whole play

-- what is known after the plays of a position
abbrev told : PositionValue → MayHold → List Played → Option MayHold
told t may plays = after_plays t.trump t.trick t.unseen may plays

told-after : (t : PositionValue) (card : ℕ) (may : MayHold) (plays : List Played) → told (after_card t card) may plays ≡ after_plays t.trump (next_trick t.trump t.trick card) (take_out card t.unseen) may plays
told-after t card may plays =
    ap₂ (λ trump trick. after_plays trump trick (after_card t card).unseen may plays) (after_card-trump t card) (after_card-trick t card)
    ∙ ap (λ unseen. after_plays t.trump (next_trick t.trump t.trick card) unseen may plays) (after_card-unseen t card)

-- what the plays tell of a hand: it fits, and nothing contradicts it
abbrev Tells : ℕ → State → List Played → MayHold → List ℕ → List ℕ → Option MayHold → Type 0
Tells n s plays may hand unseen final =
    MatchOption final (is_none (contradiction n s plays) ≡ false) (λ m. (Holds may hand unseen × (is_none (contradiction n s plays) ≡ true)) ↔ Holds m hand unseen)

refused : (cause : Option Cause) (n : ℕ) (later : Option Contradiction) → (cause ≡ None → ⊥) → is_none (or_later cause n later) ≡ false
refused None n later some = absurd (some refl)
refused (Some c) n later some = refl

refused_later : (cause : Option Cause) (n : ℕ) (later : Option Contradiction) → is_none later ≡ false → is_none (or_later cause n later) ≡ false
refused_later None n later found = found
refused_later (Some c) n later found = refl

pub none_parts : (cause : Option Cause) (n : ℕ) (later : Option Contradiction) → is_none (or_later cause n later) ≡ true → (cause ≡ None) × (is_none later ≡ true)
none_parts None n later none = (refl, none)
none_parts (Some c) n later none = absurd (false≢true none)

none_both : (cause : Option Cause) (n : ℕ) (later : Option Contradiction) → cause ≡ None → is_none later ≡ true → is_none (or_later cause n later) ≡ true
none_both None n later none rest = rest
none_both (Some c) n later none rest = cc

-- one card more: it has no cause against it exactly where the hand fits what is left
tells_step : (n : ℕ) (s : State) (play : Played) (plays : List Played) (may next : MayHold) (hand unseen : List ℕ) (final : Option MayHold)
    → (Holds may hand unseen → cause_of s play ≡ None → Holds next hand unseen) → (Holds next hand unseen → Holds may hand unseen × (cause_of s play ≡ None))
    → Tells (n + 1) (after s play.card) plays next hand unseen final → Tells n s (play ∷ plays) may hand unseen final
tells_step n s play plays may next hand unseen None on back rest = refused_later (cause_of s play) n (contradiction (n + 1) (after s play.card) plays) rest
tells_step n s play plays may next hand unseen (Some m) on back rest =
    let later = contradiction (n + 1) (after s play.card) plays in (
      λ (holds, none). (let parts = none_parts (cause_of s play) n later none in rest.0 (on holds parts.0, parts.1)),
      λ fits. (let before = rest.1 fits in let here = back before.0 in (here.0, none_both (cause_of s play) n later here.1 before.1)),
    )

-- a defender's card that isn't hidden
not_hidden : (n : ℕ) (s : State) (play : Played) (plays : List Played) (may : MayHold) (hand unseen : List ℕ) → (cause_of s play ≡ None → ⊥) → Tells n s (play ∷ plays) may hand unseen None
not_hidden n s play plays may hand unseen some = refused (cause_of s play) n (contradiction (n + 1) (after s play.card) plays) some

-- what is told after a card, where it is a card of declarer's side or hidden
told_on : (b : Bool) (next : Option MayHold) → b ≡ true → cond b next None ≡ next
told_on b next so = ap (λ x. cond x next None) so

told_off : (b : Bool) (next : Option MayHold) → b ≡ false → cond b next None ≡ None
told_off b next not_so = ap (λ x. cond x next None) not_so

-- a defender's card: what the hands are known to hold before it and after it agree where it was hidden, and nothing fits where it wasn't
tells_hidden : (n : ℕ) (s : State) (play : Played) (plays : List Played) (may next : MayHold) (hand unseen : List ℕ)
    → told s.position may (play ∷ plays) ≡ cond (has_card s.position.unseen play.card) (told (after_card s.position play.card) next plays) None
    → (Holds may hand unseen → cause_of s play ≡ None → Holds next hand unseen)
    → (has_card s.position.unseen play.card ≡ true → Holds next hand unseen → Holds may hand unseen × (cause_of s play ≡ None))
    → (has_card s.position.unseen play.card ≡ false → cause_of s play ≡ None → ⊥)
    → Tells (n + 1) (after s play.card) plays next hand unseen (told (after_card s.position play.card) next plays)
    → Tells n s (play ∷ plays) may hand unseen (told s.position may (play ∷ plays))
tells_hidden n s play plays may next hand unseen is on back shown rest =
    let more = told (after_card s.position play.card) next plays in
    elim (cases_Bool (has_card s.position.unseen play.card)) as (λ _. Tells n s (play ∷ plays) may hand unseen (told s.position may (play ∷ plays))) [
      | inl so ↦ subst (Tells n s (play ∷ plays) may hand unseen) (sym (is ∙ told_on (has_card s.position.unseen play.card) more so)) (tells_step n s play plays may next hand unseen more on (back so) rest)
      | inr not_so ↦ subst (Tells n s (play ∷ plays) may hand unseen) (sym (is ∙ told_off (has_card s.position.unseen play.card) more not_so)) (not_hidden n s play plays may hand unseen (shown not_so))
    ]

tells_at : (n : ℕ) (s : State) (seat : Seat) (card : ℕ) (plays : List Played) (may : MayHold) (hand unseen : List ℕ) → LeftOf hand unseen s.left s.position.unseen
    → ((next : MayHold) → Tells (n + 1) (after s card) plays next hand unseen (told (after_card s.position card) next plays))
    → Tells n s (record { seat = seat; card = card } ∷ plays) may hand unseen (told s.position may (record { seat = seat; card = card } ∷ plays))
tells_at n s Declarer card plays may hand unseen now rest =
    subst (Tells n s (record { seat = Declarer; card = card } ∷ plays) may hand unseen) (told-after s.position card may plays)
    (tells_step n s (record { seat = Declarer; card = card }) plays may may hand unseen (told (after_card s.position card) may plays) (λ holds none. holds) (λ holds. (holds, refl)) (rest may))
tells_at n s Dummy card plays may hand unseen now rest =
    subst (Tells n s (record { seat = Dummy; card = card } ∷ plays) may hand unseen) (told-after s.position card may plays)
    (tells_step n s (record { seat = Dummy; card = card }) plays may may hand unseen (told (after_card s.position card) may plays) (λ holds none. holds) (λ holds. (holds, refl)) (rest may))
tells_at n s Left card plays may hand unseen now rest =
    let next = narrowed Left s.position.trick.cards s.position.unseen card may in
    tells_hidden n s (record { seat = Left; card = card }) plays may next hand unseen (ap (λ t. cond (has_card s.position.unseen card) t None) (sym (told-after s.position card next plays)))
    (λ holds none. left_holds s.position.trick.cards hand unseen s.left s.position.unseen card may now holds (follows_if_none s.position.trick.cards s.left card none))
    (λ so holds. (let back = left_from s.position.trick.cards hand unseen s.left s.position.unseen card may now so holds in (back.0, none_if_follows s.position.trick.cards s.left card back.1)))
    (λ not_so none. both_ways (has_card s.position.unseen card) not_so ((and_parts (has_card hand card) (has_card s.position.unseen card) (sym (now.held_is card) ∙ (follows_if_none s.position.trick.cards s.left card none).0)).1))
    (rest next)
tells_at n s Right card plays may hand unseen now rest =
    let next = narrowed Right s.position.trick.cards s.position.unseen card may in
    let rest_is = rights s.left s.position.unseen in
    tells_hidden n s (record { seat = Right; card = card }) plays may next hand unseen (ap (λ t. cond (has_card s.position.unseen card) t None) (sym (told-after s.position card next plays)))
    (λ holds none. right_holds s.position.trick.cards hand unseen s.left s.position.unseen card may now holds (follows_if_none s.position.trick.cards rest_is card none))
    (λ so holds. (let back = right_from s.position.trick.cards hand unseen s.left s.position.unseen card may now so holds in (back.0, none_if_follows s.position.trick.cards rest_is card back.1)))
    (λ not_so none. both_ways (has_card s.position.unseen card) not_so (right_hidden s.left s.position.unseen card (follows_if_none s.position.trick.cards rest_is card none).0))
    (rest next)

tells : (n : ℕ) (s : State) (plays : List Played) (may : MayHold) (hand unseen : List ℕ) → LeftOf hand unseen s.left s.position.unseen → Tells n s plays may hand unseen (told s.position may plays)
tells n s [] may hand unseen now = (λ (holds, none). holds, λ holds. (holds, refl))
tells n s (play ∷ plays) may hand unseen now =
    let now_after : LeftOf hand unseen (take_out play.card s.left) (after_card s.position play.card).unseen =
    subst (LeftOf hand unseen (take_out play.card s.left)) (sym (after_card-unseen s.position play.card)) (left_after hand unseen s.left s.position.unseen play.card now) in
    tells_at n s play.seat play.card plays may hand unseen now (λ next. tells (n + 1) (after s play.card) plays next hand unseen now_after)

-- ---- what the play allows

same_from_both : (a b : Bool) → (a ≡ true → b ≡ true) → (b ≡ true → a ≡ true) → a ≡ b
same_from_both true true on back = refl
same_from_both true false on back = sym (on refl)
same_from_both false true on back = back refl
same_from_both false false on back = refl

cond_at_true : (h l r : Bool) → h ≡ true → cond h l r ≡ l
cond_at_true h l r is = ap (λ b. cond b l r) is

cond_at_false : (h l r : Bool) → h ≡ false → cond h l r ≡ r
cond_at_false h l r is = ap (λ b. cond b l r) is

holds_if_fits : (may : MayHold) (hand unseen : List ℕ) → IsSubset hand unseen → fits may unseen hand ≡ true → Holds may hand unseen
holds_if_fits may hand unseen part so =
    let each = cards_from_list_all (λ c. cond (has_card hand c) (has_card may.left c) (has_card may.right c)) unseen so in
    record {
      left = λ c in_hand. sym (cond_at_true (has_card hand c) (has_card may.left c) (has_card may.right c) in_hand) ∙ each c (part c in_hand);
      right = λ c in_unseen out. sym (cond_at_false (has_card hand c) (has_card may.left c) (has_card may.right c) out) ∙ each c in_unseen;
    }

fits_if_holds : (may : MayHold) (hand unseen : List ℕ) → Holds may hand unseen → fits may unseen hand ≡ true
fits_if_holds may hand unseen holds =
    list_all-from_cards (λ c. cond (has_card hand c) (has_card may.left c) (has_card may.right c)) unseen
    (λ c in_unseen. elim (cases_Bool (has_card hand c)) as (λ _. cond (has_card hand c) (has_card may.left c) (has_card may.right c) ≡ true) [
      | inl so ↦ cond_at_true (has_card hand c) (has_card may.left c) (has_card may.right c) so ∙ holds.left c so
      | inr not_so ↦ cond_at_false (has_card hand c) (has_card may.left c) (has_card may.right c) not_so ∙ holds.right c in_unseen not_so
    ])

-- before the first card
abbrev any_card : List ℕ → MayHold
any_card unseen = record { left = unseen; right = unseen }

left_at_first : (hand unseen : List ℕ) → IsSubset hand unseen → LeftOf hand unseen hand unseen
left_at_first hand unseen part = record {
  hidden_part = λ c holds. holds;
  held_is = λ c. in_whole (has_card hand c) (has_card unseen c) (part c);
} where
  in_whole : (h u : Bool) → (h ≡ true → u ≡ true) → h ≡ (h && u)
  in_whole true u holds = sym (holds refl)
  in_whole false u holds = refl

told_of : (b : BoardValue) (unseen hand : List ℕ) → IsSubset hand unseen
    → Tells 1 (record { position = first_position b unseen; left = hand }) b.plays (any_card unseen) hand unseen (after_plays b.trump (first_trick b) unseen (any_card unseen) b.plays)
told_of b unseen hand part = tells 1 (record { position = first_position b unseen; left = hand }) b.plays (any_card unseen) hand unseen (left_at_first hand unseen part)

is_allowed-fits : (b : BoardValue) (unseen hand : List ℕ) (may : MayHold) → after_plays b.trump (first_trick b) unseen (any_card unseen) b.plays ≡ Some may → IsSubset hand unseen
    → is_allowed b unseen (layout_with unseen hand) ≡ fits may unseen hand
is_allowed-fits b unseen hand may is part =
    let tells = subst (Tells 1 (record { position = first_position b unseen; left = hand }) b.plays (any_card unseen) hand unseen) is (told_of b unseen hand part) in
    let at_first : Holds (any_card unseen) hand unseen = record { left = part; right = λ c in_unseen out. in_unseen } in
    same_from_both (is_allowed b unseen (layout_with unseen hand)) (fits may unseen hand)
    (λ allowed. fits_if_holds may hand unseen (tells.0 (at_first, allowed)))
    (λ fit. (tells.1 (holds_if_fits may hand unseen part fit)).1)

-- the layouts that the play allows are those of the hands that fit
pub layouts_over-fitting : (b : BoardValue) (unseen : List ℕ) (may : MayHold) → IsCardSet unseen → after_plays b.trump (first_trick b) unseen (any_card unseen) b.plays ≡ Some may
    → layouts_over b unseen ≡ map (layout_with unseen) (fitting_hands may (tricks_of b) unseen)
unfolding layouts_over fitting_hands
layouts_over-fitting b unseen may a_set is =
    let hands = hands_of_size (tricks_of b) unseen in
    let parts = hands_are_parts (tricks_of b) unseen a_set in
    filter-map (is_allowed b unseen) (layout_with unseen) hands
    ∙ ap (map (layout_with unseen))
    (filter-same (λ hand. is_allowed b unseen (layout_with unseen hand)) (fits may unseen) hands
    (λ k d within. is_allowed-fits b unseen (get_or hands k d) may is (IsPart-IsSubset unseen (get_or hands k d) (parts k d within))))

-- and there is none where a defender's card wasn't unseen
pub layouts_over-none : (b : BoardValue) (unseen : List ℕ) → IsCardSet unseen → after_plays b.trump (first_trick b) unseen (any_card unseen) b.plays ≡ None → layouts_over b unseen ≡ []
unfolding layouts_over
layouts_over-none b unseen a_set is =
    let hands = hands_of_size (tricks_of b) unseen in
    let parts = hands_are_parts (tricks_of b) unseen a_set in
    filter-map (is_allowed b unseen) (layout_with unseen) hands
    ∙ ap (map (layout_with unseen))
    (filter-nothing (λ hand. is_allowed b unseen (layout_with unseen hand)) hands
    (λ k d within.
    subst (Tells 1 (record { position = first_position b unseen; left = get_or hands k d }) b.plays (any_card unseen) (get_or hands k d) unseen) is
    (told_of b unseen (get_or hands k d) (IsPart-IsSubset unseen (get_or hands k d) (parts k d within)))))

-- the answer where the unseen cards are told
pub layouts_made-shown : (b : BoardValue) (unseen : List ℕ) → b.unseen ≡ Some unseen → layouts_made b ≡ if_few (layouts_over b unseen)
layouts_made-shown b unseen is = ap (layouts_shown b) is
