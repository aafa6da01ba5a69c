-- A trick that is taken back by a card: the hands, and that the position before is sound.
use Rattle.std.proofs.Common.{◌≡◌, ◌≢◌, ◌⊎◌, inl, inr, ℕ, suc, ◌+◌, ◌<◌, ◌≤◌, Bool, true, false, not, ◌&&◌, List, [], ◌∷◌, ◌++◌, length, get_or, All, AllPairs, refl, sym, ap, ap₂, ◌∙◌, subst, arith, rules}
use Rattle.std.specs.Prelude.{◌==◌, ◌||◌, if◌then◌else◌}
use Rattle.std.proofs.lemmas.Bool.{false≢true, both_ways, cases_eq, eq-eqb, eqb-true, ne_eqb, or_cases, or_parts, false_from_ne_true}
use Rattle.std.proofs.lemmas.List.{length_push, get_or_push, get_or_append_left}
use Rattle.std.proofs.lemmas.List.Elements.{All-get_or, All-from_get_or}
use Rattle.card_sets.specs.SetWords.{has_card, IsCardSet, Apart}
use Rattle.card_sets.specs.declared.seat.Seat.{Seat}
use Rattle.card_sets.specs.declared.seat.Seat.TheVariants.{Declarer, Left, Dummy, Right}
use Rattle.card_sets.proofs.Sets.{has_card-cards_where, cards_where-agree, filter-cards_where, IsCardSet-cards_where, has_card-below, has_card-push}
use Rattle.card_sets.proofs.SetCounts.{length-put_in, take_out-absent}
use Rattle.trick_rules.specs.Positions.{PositionValue, seat_after, IsSound}
use Rattle.trick_rules.specs.Play.{after_card, put_card, take_out, held_by, CanPlay}
use Rattle.trick_rules.proofs.Soundness.{after_short}
use Rattle.trick_rules.proofs.Turns.{count_in, same_seat, count_in-suc}
use Rattle.bit_questions.specs.declared.table.Table.{Table}
use Rattle.bit_questions.specs.Tables.{position_of, with_card, put_back}
use Rattle.bit_questions.specs.Causes.{AreHandsApart, HaveSizes, IsTrickApart}

-- a set with a card or without it
abbrev put_if : Bool → ℕ → List ℕ → List ℕ
put_if true card xs = with_card card xs
put_if false card xs = xs

with_out : (b c : Bool) → ((b || c) && not c) ≡ (b && not c)
with_out true true = refl
with_out true false = refl
with_out false true = refl
with_out false false = refl

or_true : (b : Bool) → (b || true) ≡ true
or_true true = refl
or_true false = refl

-- ---- a set that doesn't have the card

module _ (xs : List ℕ) (card : ℕ) (a_set : IsCardSet xs) (within : card < 52) (absent : has_card xs card ≡ false) where
  has_card-with : has_card (with_card card xs) card ≡ true
  has_card-with = has_card-cards_where (λ c. has_card xs c || (c == card)) card within ∙ ap (λ b. has_card xs card || b) (eq-eqb card card refl) ∙ or_true (has_card xs card)

  take_out-with : take_out card (with_card card xs) ≡ xs
  take_out-with =
      filter-cards_where (λ c. not (c == card)) (λ c. has_card xs c || (c == card))
      ∙ cards_where-agree (λ c. (has_card xs c || (c == card)) && not (c == card)) (has_card xs) (λ c low. same c)
      ∙ sym a_set
    where
      same : (c : ℕ) → ((has_card xs c || (c == card)) && not (c == card)) ≡ has_card xs c
      same c =
          with_out (has_card xs c) (c == card)
          ∙ elim (cases_eq c card) [
            | inl here ↦ ap₂ (λ b e. b && not e) (ap (has_card xs) here ∙ absent) (eq-eqb c card here) ∙ sym (ap (has_card xs) here ∙ absent)
            | inr other ↦ ap (λ e. has_card xs c && not e) (ne_eqb c card other) ∙ and_true (has_card xs c)
          ]
        where
          and_true : (b : Bool) → (b && true) ≡ b
          and_true true = refl
          and_true false = refl

  set_if : (b : Bool) → IsCardSet (put_if b card xs)
  set_if true = IsCardSet-cards_where (λ c. has_card xs c || (c == card))
  set_if false = a_set

  length_if : (b : Bool) → length (put_if b card xs) ≡ length xs + (if b then 1 else 0)
  length_if true = length-put_in xs card a_set within absent
  length_if false = omega arith

  has_if : (b : Bool) (c : ℕ) → has_card (put_if b card xs) c ≡ true → (has_card xs c ≡ true) ⊎ ((c ≡ card) × (b ≡ true))
  has_if false c holds = inl holds
  has_if true c holds =
      let low = has_card-below (with_card card xs) c (IsCardSet-cards_where (λ d. has_card xs d || (d == card))) holds in
      elim (or_cases (has_card xs c) (c == card) (sym (has_card-cards_where (λ d. has_card xs d || (d == card)) c low) ∙ holds)) [
        | inl before ↦ inl before
        | inr here ↦ inr (eqb-true c card here, refl)
      ]

-- two such sets of which only one gets the card
apart_if : (xs ys : List ℕ) (card : ℕ) → IsCardSet xs → IsCardSet ys → card < 52 → has_card xs card ≡ false → has_card ys card ≡ false
    → (b d : Bool) → (b ≡ true → d ≡ true → ⊥) → Apart xs ys → Apart (put_if b card xs) (put_if d card ys)
apart_if xs ys card x_set y_set within no_x no_y b d single apart c holds =
    false_from_ne_true (has_card (put_if d card ys) c)
    (λ also. meet (has_if xs card x_set within no_x b c holds) (has_if ys card y_set within no_y d c also))
  where
    meet : (has_card xs c ≡ true) ⊎ ((c ≡ card) × (b ≡ true)) → (has_card ys c ≡ true) ⊎ ((c ≡ card) × (d ≡ true)) → ⊥
    meet (inl in_x) (inl in_y) = both_ways (has_card ys c) (apart c in_x) in_y
    meet (inl in_x) (inr at_y) = both_ways (has_card xs c) (ap (has_card xs) at_y.0 ∙ no_x) in_x
    meet (inr at_x) (inl in_y) = both_ways (has_card ys c) (ap (has_card ys) at_x.0 ∙ no_y) in_y
    meet (inr at_x) (inr at_y) = single at_x.1 at_y.1

-- cards that are apart from a set, and don't have the card
before_if : (cards xs : List ℕ) (card : ℕ) → IsCardSet xs → card < 52 → has_card xs card ≡ false → has_card cards card ≡ false → (b : Bool) → Apart cards xs → Apart cards (put_if b card xs)
before_if cards xs card a_set within absent differs b apart c holds =
    false_from_ne_true (has_card (put_if b card xs) c)
    (λ also. elim (has_if xs card a_set within absent b c also) [
      | inl in_x ↦ both_ways (has_card xs c) (apart c holds) in_x
      | inr here ↦ both_ways (has_card cards c) (ap (has_card cards) here.0 ∙ differs) holds
    ])

-- ---- a list with a card at its end

place_of : (xs : List ℕ) (c : ℕ) → has_card xs c ≡ true → (k : ℕ) × (k < length xs) × (get_or xs k 0 ≡ c)
place_of [] c holds = absurd (false≢true holds)
place_of (x ∷ xs) c holds =
    elim (cases_eq x c) [
      | inl here ↦ (0, omega arith, here)
      | inr other ↦ (let more = place_of xs c (sym (ap (λ b. b || has_card xs c) (ne_eqb x c other)) ∙ holds) in (suc more.0, omega (arith, more.1), more.2))
    ]

module _ (before : List ℕ) (card : ℕ) where
  last_has : has_card (before ++ card ∷ []) card ≡ true
  last_has = has_card-push before card card ∙ ap (λ b. has_card before card || b) (eq-eqb card card refl) ∙ or_true (has_card before card)

  before_has : (c : ℕ) → has_card before c ≡ true → has_card (before ++ card ∷ []) c ≡ true
  before_has c holds = has_card-push before card c ∙ ap (λ b. b || (card == c)) holds

  last_low : All (λ c. c < 52) (before ++ card ∷ []) → card < 52
  last_low low =
      subst (λ c. c < 52) (get_or_push before card 0 (length before) refl)
      (All-get_or (λ c. c < 52) (before ++ card ∷ []) (length before) 0 (omega (arith, length_push before card)) low)

  before_low : All (λ c. c < 52) (before ++ card ∷ []) → All (λ c. c < 52) before
  before_low low =
      All-from_get_or (λ c. c < 52) before 0 (λ i inside.
      subst (λ c. c < 52) (get_or_append_left before (card ∷ []) 0 i inside) (All-get_or (λ c. c < 52) (before ++ card ∷ []) i 0 (omega (arith, length_push before card)) low))

  at_before : (i d : ℕ) → i < length before → get_or (before ++ card ∷ []) i d ≡ get_or before i d
  at_before i d low = get_or_append_left before (card ∷ []) d i low

  before_differ : AllPairs (λ c d. c ≢ d) (before ++ card ∷ []) → AllPairs (λ c d. c ≢ d) before
  before_differ differs i j d sooner low same =
      differs i j d sooner (omega (arith, length_push before card))
      (at_before i d (omega arith) ∙ same ∙ sym (at_before j d low))

  last_differs : AllPairs (λ c d. c ≢ d) (before ++ card ∷ []) → has_card before card ≡ false
  last_differs differs =
      false_from_ne_true (has_card before card) (λ holds.
      let at = place_of before card holds in
      differs at.0 (length before) 0 at.1 (omega (arith, length_push before card))
      (at_before at.0 0 at.1 ∙ at.2 ∙ sym (get_or_push before card 0 (length before) refl)))

-- ---- the card back in the hand of the seat that played it

-- one of three is true, as the seat that plays is declarer's, dummy's or a defender's
record IsOneSeat (seat : Seat) (d m u : Bool) : Type 0 where
  pub declarer : same_seat seat Declarer ≡ (if d then 1 else 0)
  pub dummy : same_seat seat Dummy ≡ (if m then 1 else 0)
  pub defenders : same_seat seat Left + same_seat seat Right ≡ (if u then 1 else 0)
  pub not_dm : d ≡ true → m ≡ true → ⊥
  pub not_du : d ≡ true → u ≡ true → ⊥
  pub not_mu : m ≡ true → u ≡ true → ⊥

declarer_seat : IsOneSeat Declarer true false false
declarer_seat = record { declarer = refl; dummy = refl; defenders = refl; not_dm = λ a b. false≢true b; not_du = λ a b. false≢true b; not_mu = λ a b. false≢true a }

dummy_seat : IsOneSeat Dummy false true false
dummy_seat = record { declarer = refl; dummy = refl; defenders = refl; not_dm = λ a b. false≢true a; not_du = λ a b. false≢true a; not_mu = λ a b. false≢true b }

left_seat : IsOneSeat Left false false true
left_seat = record { declarer = refl; dummy = refl; defenders = refl; not_dm = λ a b. false≢true a; not_du = λ a b. false≢true a; not_mu = λ a b. false≢true a }

right_seat : IsOneSeat Right false false true
right_seat = record { declarer = refl; dummy = refl; defenders = refl; not_dm = λ a b. false≢true a; not_du = λ a b. false≢true a; not_mu = λ a b. false≢true a }

module _ (table : Table) (before : List ℕ) (card : ℕ) (sound : IsSound (position_of table (before ++ card ∷ []))) where
  low : card < 52
  low = last_low before card sound.trick_cards

  none_declarer : has_card table.declarer card ≡ false
  none_declarer = sound.trick_declarer card (last_has before card)

  none_dummy : has_card table.dummy card ≡ false
  none_dummy = sound.trick_dummy card (last_has before card)

  none_unseen : has_card table.unseen card ≡ false
  none_unseen = sound.trick_unseen card (last_has before card)

  none_before : has_card before card ≡ false
  none_before = last_differs before card sound.trick_differs

  sound_if : (d m u : Bool) → IsOneSeat (seat_after (length before) table.leader) d m u
      → IsSound (position_of (record table { declarer = put_if d card table.declarer; dummy = put_if m card table.dummy; unseen = put_if u card table.unseen }) before)
  sound_if d m u one =
      let n = length before in
      let leader = table.leader in
      let long : length (before ++ card ∷ []) ≡ suc n = omega (arith, length_push before card) in
      let few : n < 4 = omega (arith, sound.trick_short, length_push before card) in
      let rise : (s : Seat) → count_in leader (length (before ++ card ∷ [])) s ≡ count_in leader n s + same_seat (seat_after n leader) s =
      λ s. ap (λ k. count_in leader k s) long ∙ count_in-suc n leader s few in
      let dd = length_if table.declarer card sound.declarer_set low none_declarer d in
      let mm = length_if table.dummy card sound.dummy_set low none_dummy m in
      let uu = length_if table.unseen card sound.unseen_set low none_unseen u in
      record {
        declarer_set = set_if table.declarer card sound.declarer_set low none_declarer d;
        dummy_set = set_if table.dummy card sound.dummy_set low none_dummy m;
        unseen_set = set_if table.unseen card sound.unseen_set low none_unseen u;
        declarer_dummy = apart_if table.declarer table.dummy card sound.declarer_set sound.dummy_set low none_declarer none_dummy d m one.not_dm sound.declarer_dummy;
        declarer_unseen = apart_if table.declarer table.unseen card sound.declarer_set sound.unseen_set low none_declarer none_unseen d u one.not_du sound.declarer_unseen;
        dummy_unseen = apart_if table.dummy table.unseen card sound.dummy_set sound.unseen_set low none_dummy none_unseen m u one.not_mu sound.dummy_unseen;
        trick_declarer = before_if before table.declarer card sound.declarer_set low none_declarer none_before d (λ c h. sound.trick_declarer c (before_has before card c h));
        trick_dummy = before_if before table.dummy card sound.dummy_set low none_dummy none_before m (λ c h. sound.trick_dummy c (before_has before card c h));
        trick_unseen = before_if before table.unseen card sound.unseen_set low none_unseen none_before u (λ c h. sound.trick_unseen c (before_has before card c h));
        trick_short = few;
        trick_cards = before_low before card sound.trick_cards;
        trick_differs = before_differ before card sound.trick_differs;
        need_fits = sound.need_fits;
        dummy_count = omega (arith, sound.dummy_count, rise Dummy, rise Declarer, dd, mm, one.declarer, one.dummy);
        unseen_count = omega (arith, sound.unseen_count, rise Left, rise Right, rise Declarer, dd, uu, one.declarer, one.defenders);
      }

  by_seat : (seat : Seat) → seat_after (length before) table.leader ≡ seat → IsSound (position_of (put_back table seat card) before)
  by_seat Declarer turn = sound_if true false false (subst (λ s. IsOneSeat s true false false) (sym turn) declarer_seat)
  by_seat Dummy turn = sound_if false true false (subst (λ s. IsOneSeat s false true false) (sym turn) dummy_seat)
  by_seat Left turn = sound_if false false true (subst (λ s. IsOneSeat s false false true) (sym turn) left_seat)
  by_seat Right turn = sound_if false false true (subst (λ s. IsOneSeat s false false true) (sym turn) right_seat)

  -- the position before the card is sound
  pub sound_before : IsSound (position_of (put_back table (seat_after (length before) table.leader) card) before)
  sound_before = by_seat (seat_after (length before) table.leader) refl

module _ (table : Table) (before : List ℕ) (card : ℕ) (within : card < 52)
    (declarer_set : IsCardSet table.declarer) (dummy_set : IsCardSet table.dummy) (unseen_set : IsCardSet table.unseen)
    (no_declarer : has_card table.declarer card ≡ false) (no_dummy : has_card table.dummy card ≡ false) (no_unseen : has_card table.unseen card ≡ false) where
  can_by : (seat : Seat) → seat_after (length before) table.leader ≡ seat → has_card (held_by (position_of (put_back table seat card) before) seat) card ≡ true
  can_by Declarer turn = has_card-with table.declarer card declarer_set within no_declarer
  can_by Dummy turn = has_card-with table.dummy card dummy_set within no_dummy
  can_by Left turn = has_card-with table.unseen card unseen_set within no_unseen
  can_by Right turn = has_card-with table.unseen card unseen_set within no_unseen

  leads : (seat : Seat) → (put_back table seat card).leader ≡ table.leader
  leads Declarer = refl
  leads Dummy = refl
  leads Left = refl
  leads Right = refl

  -- the seat to play before the card holds it
  pub can_play : CanPlay (position_of (put_back table (seat_after (length before) table.leader) card) before) card
  can_play =
      let seat = seat_after (length before) table.leader in
      ap (λ s. has_card (held_by (position_of (put_back table seat card) before) s) card) (ap (seat_after (length before)) (leads seat)) ∙ can_by seat refl

  after_by : (seat : Seat) → put_card (position_of (put_back table seat card) before) card ≡ position_of table (before ++ card ∷ [])
  after_by Declarer = rw (take_out-with table.declarer card declarer_set within no_declarer, take_out-absent table.dummy card no_dummy, take_out-absent table.unseen card no_unseen) refl
  after_by Dummy = rw (take_out-absent table.declarer card no_declarer, take_out-with table.dummy card dummy_set within no_dummy, take_out-absent table.unseen card no_unseen) refl
  after_by Left = rw (take_out-absent table.declarer card no_declarer, take_out-absent table.dummy card no_dummy, take_out-with table.unseen card unseen_set within no_unseen) refl
  after_by Right = rw (take_out-absent table.declarer card no_declarer, take_out-absent table.dummy card no_dummy, take_out-with table.unseen card unseen_set within no_unseen) refl

  same_trick : (seat : Seat) → (position_of (put_back table seat card) before).trick.cards ≡ before
  same_trick seat = refl

  -- and leaves the position after it
  pub after_back : length before < 3 → after_card (position_of (put_back table (seat_after (length before) table.leader) card) before) card ≡ position_of table (before ++ card ∷ [])
  after_back short =
      let seat = seat_after (length before) table.leader in
      after_short (position_of (put_back table seat card) before) card short ∙ after_by seat

-- ---- a position that isn't sound

-- its parts make it sound
pub sound_of-parts : (table : Table) (cards : List ℕ) → IsCardSet table.declarer → IsCardSet table.dummy → IsCardSet table.unseen → table.need ≤ 13 → length cards < 4 → All (λ c. c < 52) cards
    → AreHandsApart (position_of table cards) → HaveSizes (position_of table cards) → IsTrickApart (position_of table cards) → IsSound (position_of table cards)
sound_of-parts table cards d m u need short low apart sizes trick = search rules

-- ---- the step of taking back

module _ (table back : Table) (trick before : List ℕ) (card : ℕ) (seat : Seat)
    (is : trick ≡ before ++ card ∷ []) (turn : seat ≡ seat_after (length before) table.leader) (is_back : back ≡ put_back table seat card) where
  back_is : back ≡ put_back table (seat_after (length before) table.leader) card
  back_is = is_back ∙ ap (λ s. put_back table s card) turn

  -- the card is in no hand if the position is sound
  pub free_of-sound : IsSound (position_of table trick) → (has_card table.declarer card || has_card table.dummy card || has_card table.unseen card) ≡ false
  free_of-sound sound =
      let now = subst (λ cards. IsSound (position_of table cards)) is sound in
      rw (now.trick_declarer card (last_has before card), now.trick_dummy card (last_has before card), now.trick_unseen card (last_has before card)) refl

  pub sound_of-later : IsSound (position_of table trick) → IsSound (position_of back before)
  sound_of-later sound =
      subst (λ b. IsSound (position_of b before)) (sym back_is) (sound_before table before card (subst (λ cards. IsSound (position_of table cards)) is sound))

  module _ (short : length trick < 4) (cards : All (λ c. c < 52) trick) (declarer_set : IsCardSet table.declarer) (dummy_set : IsCardSet table.dummy) (unseen_set : IsCardSet table.unseen)
      (free : (has_card table.declarer card || has_card table.dummy card || has_card table.unseen card) ≡ false) where
    low_card : card < 52
    low_card = last_low before card (subst (All (λ c. c < 52)) is cards)

    pub can_play_back : (earlier : PositionValue) → earlier ≡ position_of back before → CanPlay earlier card
    can_play_back earlier same =
        let both = or_parts _ _ free in
        let hands = or_parts _ _ both.0 in
        subst (λ t. CanPlay t card) (sym (same ∙ ap (λ b. position_of b before) back_is))
        (can_play table before card low_card declarer_set dummy_set unseen_set hands.0 hands.1 both.1)

    pub after_back_is : (earlier later : PositionValue) → earlier ≡ position_of back before → later ≡ after_card earlier card → later ≡ position_of table trick
    after_back_is earlier later same after =
        let both = or_parts _ _ free in
        let hands = or_parts _ _ both.0 in
        let few : length before < 3 = omega (arith, ap (length {A = ℕ}) is, length_push before card) in
        after ∙ ap (λ t. after_card t card) (same ∙ ap (λ b. position_of b before) back_is)
        ∙ after_back table before card low_card declarer_set dummy_set unseen_set hands.0 hands.1 both.1 few
        ∙ ap (position_of table) (sym is)
