-- From one of two equal cards to the other, by way of the choices between them.
use Rattle.std.proofs.Common.{◌≡◌, ℕ, zero, suc, ◌+◌, ◌-◌, ◌==◌, ◌<◌, ◌≤◌, ◌&&◌, ◌||◌, Bool, true, false, not, List, [], ◌∷◌, nat_lt, refl, sym, ap, subst, ◌∙◌, inl, inr, arith}
use Rattle.std.specs.List.{list_any}
use Rattle.std.proofs.lemmas.Bool.{false≢true, cases_Bool, cases_lt, cases_eq, lt-ltb, eq-eqb, ne_eqb, or_right}
use Rattle.card_sets.specs.Cards.{suit_of, suit_place, same_suit}
use Rattle.card_sets.specs.SetWords.{has_card, cards_where}
use Rattle.card_sets.proofs.Sets.{has_card-filter, has_card-cards_where}
use Rattle.card_sets.proofs.Suits.{same_suit-true, card_of-suit_of}
use Rattle.trick_rules.specs.Positions.{to_play}
use Rattle.trick_rules.specs.Nodes.{NodeValue, IsNode, choices, child_mask}
use Rattle.trick_rules.proofs.Soundness.{held_low}
use Rattle.trick_rules.proofs.PlayLaws.{a_choice_can_be_played}
use Rattle.double_dummy.specs.Equals.{in_play}
use Rattle.double_dummy.proofs.Mirror.{in_play-held}
use Rattle.strategy_tree.specs.Bridge.{bridge}
use Rattle.strategy_tree.proofs.BridgeNodes.{our_mask}
use Rattle.equal_cards.specs.Equals.{AreEqualAt, ComeToTheSame}
use Rattle.equal_cards.proofs.OneFront.{one_front}
use Rattle.card_forms.specs.Equals.{others_in_play, stands_between, are_equal, EqualsComeToTheSame}

-- ---- parts of a test

both_hold : (a b : Bool) → (a && b) ≡ true → (a ≡ true) × (b ≡ true)
both_hold true true h = (refl, refl)
both_hold true false h = absurd (false≢true h)
both_hold false b h = absurd (false≢true h)

not_holds : (a : Bool) → not a ≡ true → a ≡ false
not_holds false h = refl
not_holds true h = absurd (false≢true h)

either_fails : (a b : Bool) → (a || b) ≡ false → (a ≡ false) × (b ≡ false)
either_fails false b h = (refl, h)
either_fails true b h = absurd (false≢true (sym h))

-- where no element passes a test, one that does isn't among them
none_passes : (p : ℕ → Bool) (xs : List ℕ) → list_any p xs ≡ false → (x : ℕ) → has_card xs x ≡ true → p x ≡ true → ⊥
none_passes p [] none x has passes = false≢true has
none_passes p (y ∷ ys) none x has passes =
    let parts = either_fails (p y) (list_any p ys) none in
    elim (cases_eq y x) as (λ _. ⊥) [
      | inl same ↦ false≢true (sym parts.0 ∙ ap p same ∙ passes)
      | inr other ↦ none_passes p ys parts.1 x (rw (ne_eqb y x other) at has) passes
    ]

between_suit : (low c high : ℕ) → low ≤ c → c ≤ high → high < 52 → suit_of low ≡ suit_of high → suit_of low ≡ suit_of c
between_suit low c high above below fits suit =
    sym (same_suit-true (suit_of c) (suit_of low) (eq-eqb (suit_place (suit_of c)) (suit_place (suit_of low))
    (let e = ap suit_place suit in
    let one = card_of-suit_of low (omega (arith, above, below, fits)) in
    let other = card_of-suit_of c (omega (arith, below, fits)) in
    let last = card_of-suit_of high fits in
    omega (arith, e, one, other, last, above, below))))

-- ---- what comes to the same

same_self : (n : NodeValue) (card : ℕ) → ComeToTheSame n card card
same_self n card = record { same_layouts = refl; one_front = λ moves front. (λ f. f, λ f. f) }

same_then : (n : NodeValue) (a b c : ℕ) → ComeToTheSame n a b → ComeToTheSame n b c → ComeToTheSame n a c
same_then n a b c first then = record {
  same_layouts = first.same_layouts ∙ then.same_layouts;
  one_front = λ moves front.
      (λ f. (then.one_front moves front).0 ((first.one_front moves front).0 f), λ f. (first.one_front moves front).1 ((then.one_front moves front).1 f));
}

same_back : (n : NodeValue) (a b : ℕ) → ComeToTheSame n a b → ComeToTheSame n b a
same_back n a b it = record {
  same_layouts = sym it.same_layouts;
  one_front = λ moves front. ((it.one_front moves front).1, (it.one_front moves front).0);
}

module _ (n : NodeValue) (ok : IsNode n) (ours : bridge.is_ours n ≡ true) where
  choice_low : (card : ℕ) → has_card (choices n) card ≡ true → card < 52
  choice_low card h = held_low n.position ok.sound card (to_play n.position) (a_choice_can_be_played n card ok h)

  choice_in_play : (card : ℕ) → has_card (choices n) card ≡ true → in_play n.position card ≡ true
  choice_in_play card h = in_play-held n.position (to_play n.position) card (a_choice_can_be_played n card ok h)

  -- a card in play that isn't a choice is among the others
  among_others : (card : ℕ) → card < 52 → in_play n.position card ≡ true → has_card (choices n) card ≡ false → has_card (others_in_play n) card ≡ true
  among_others card low playing out =
      has_card-filter (λ c. not (has_card (choices n) c)) (cards_where (in_play n.position)) card
      ∙ rw (has_card-cards_where (in_play n.position) card low, playing, out) refl

  module _ (low high : ℕ) (fits : high < 52) (suit : suit_of low ≡ suit_of high) (top : has_card (choices n) high ≡ true)
      (none : (c : ℕ) → low < c → c < high → has_card (others_in_play n) c ≡ true → ⊥) where
    -- a choice with none in play between it and the next
    one_step : (last next : ℕ) → low ≤ last → last < next → next ≤ high → has_card (choices n) last ≡ true → has_card (choices n) next ≡ true
        → ((c : ℕ) → last < c → c < next → in_play n.position c ≡ false) → ComeToTheSame n last next
    one_step last next above order below here there empty =
        let equal : AreEqualAt n last next = record {
          low_choice = here;
          high_choice = there;
          same_layouts = our_mask n last ours here ∙ sym (our_mask n next ours there);
          suit = sym (between_suit low last high above (omega (arith, order, below)) fits suit) ∙ between_suit low next high (omega (arith, above, order)) below fits suit;
          order = order;
          between = empty;
        } in
        record { same_layouts = equal.same_layouts; one_front = λ moves front. one_front n last next moves front ok equal }

    -- from a choice onwards, past cards that aren't in play
    onwards : (k at last : ℕ) → at + k ≡ high → low ≤ last → last < at → has_card (choices n) last ≡ true → ComeToTheSame n low last
        → ((c : ℕ) → last < c → c < at → in_play n.position c ≡ false) → ComeToTheSame n low high
    onwards zero at last e above order here so_far empty =
        same_then n low last high so_far (one_step last high above (omega (arith, e, order)) (omega arith) here top (λ c l h. empty c l (omega (arith, e, h))))
    onwards (suc k) at last e above order here so_far empty =
        elim (cases_Bool (in_play n.position at)) as (λ _. ComeToTheSame n low high) [
          | inl playing ↦
              elim (cases_Bool (has_card (choices n) at)) as (λ _. ComeToTheSame n low high) [
                | inl there ↦ onwards k (at + 1) at (omega (arith, e)) (omega (arith, above, order)) (omega arith) there
                    (same_then n low last at so_far (one_step last at above order (omega (arith, e)) here there empty))
                    (λ c l h. absurd (omega (arith, l, h)))
                | inr out ↦ absurd (none at (omega (arith, above, order)) (omega (arith, e)) (among_others at (omega (arith, e, fits)) playing out))
              ]
          | inr absent ↦ onwards k (at + 1) last (omega (arith, e)) above (omega (arith, order)) here so_far (λ c l h.
              elim (cases_lt c at) as (λ _. in_play n.position c ≡ false) [
                | inl less ↦ empty c l less
                | inr more ↦ subst (λ x. in_play n.position x ≡ false) (omega (arith, more, h)) absent
              ])
        ]

  -- from the lower of two choices to the higher
  upwards : (low high : ℕ) → low < high → has_card (choices n) low ≡ true → has_card (choices n) high ≡ true → suit_of low ≡ suit_of high
      → ((c : ℕ) → low < c → c < high → has_card (others_in_play n) c ≡ true → ⊥) → ComeToTheSame n low high
  upwards low high order here there suit none =
      onwards low high (choice_low high there) suit there none (high - (low + 1)) (low + 1) low (omega (arith, order)) (omega arith) (omega arith) here (same_self n low)
      (λ c l h. absurd (omega (arith, l, h)))

pub come_to_the_same : EqualsComeToTheSame
come_to_the_same n card other ok ours here there equal =
    let parts = both_hold (not (card == other) && same_suit (suit_of card) (suit_of other)) (not (list_any (stands_between card other) (others_in_play n))) equal in
    let first = both_hold (not (card == other)) (same_suit (suit_of card) (suit_of other)) parts.0 in
    let suit = same_suit-true (suit_of card) (suit_of other) first.1 in
    let none = none_passes (stands_between card other) (others_in_play n) (not_holds (list_any (stands_between card other) (others_in_play n)) parts.1) in
    elim (cases_lt card other) as (λ _. ComeToTheSame n card other) [
      | inl less ↦ upwards n ok ours card other less here there suit (λ c l h has. none c has (rw (lt-ltb card c l, lt-ltb c other h) refl))
      | inr more ↦
          elim (cases_eq card other) as (λ _. ComeToTheSame n card other) [
            | inl same ↦ absurd (false≢true (sym (not_holds (card == other) first.0) ∙ eq-eqb card other same))
            | inr differ ↦ same_back n other card (upwards n ok ours other card (omega (arith, more, differ)) there here (sym suit)
                (λ c l h has. none c has (or_right (nat_lt card c && nat_lt c other) (nat_lt other c && nat_lt c card) (rw (lt-ltb other c l, lt-ltb c card h) refl))))
          ]
    ]
