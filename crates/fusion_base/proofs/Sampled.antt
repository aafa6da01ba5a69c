-- Double dummy after a card of declarer's side, layout by layout.
use Rattle.std.proofs.Common.{◌≡◌, ℕ, suc, ◌+◌, ◌-◌, ◌<◌, ◌≤◌, Bool, true, false, not, ◌&&◌, ◌||◌, ◌==◌, eqb, List, [], ◌∷◌, ◌++◌, map, filter, take, set, replicate, length, get_or, All, inl, inr, refl, sym, ap, subst, ◌∙◌, arith, append_assoc, append-nil, length-append}
use Rattle.std.specs.List.{list_any}
use Rattle.std.proofs.lemmas.List.{length-map, length-take, length-replicate, take_all, map_more, get_or-map}
use Rattle.std.proofs.Math.Bool.{and-true, and-false}
use Rattle.std.proofs.lemmas.Bool.{eq-eqb, eqb-true, ne_eqb, cases_eq, false_from_ne_true}
use Rattle.card_sets.specs.SetWords.{has_card, cards_where, IsCardSet}
use Rattle.card_sets.proofs.Sets.{has_card-cards_where, cards_where-agree, filter-cards_where, IsCardSet-cards_where, has_card-below, tail-after}
use Rattle.trick_rules.specs.Positions.{PositionValue, FitsLeft, to_play}
use Rattle.trick_rules.specs.Play.{take_out, after_card, after, legal_in, is_declarers, makes}
use Rattle.trick_rules.specs.Nodes.{NodeValue, IsNode, choices, is_legal}
use Rattle.trick_rules.proofs.NodeLemmas.{legal_in-ours}
use Rattle.trick_rules.proofs.PlayLaws.{our_choices_are_legal_everywhere, a_legal_card_leads_to_a_state}
use Rattle.fusion_base.specs.declared.table.CardVector.{CardVector}
use Rattle.fusion_base.specs.Sampling.{made_after, cards_that_make}

set-between : (before after : List Bool) (old new : Bool) → set (before ++ old ∷ after) (length before) new ≡ before ++ new ∷ after
set-between [] after old new = refl
set-between (b ∷ before) after old new = ap (λ bits. b ∷ bits) (set-between before after old new)

-- ---- the cards that make in a layout

-- whether Left holds these cards or others, the choices of declarer's side are legal
legal_from : (t : PositionValue) (lefts : List (List ℕ)) (card : ℕ) (left : List ℕ) → 1 ≤ length lefts → is_declarers (to_play t) ≡ true
    → All (λ s. has_card (legal_in s) card ≡ true) (map (λ l. record { position = t; left = l }) lefts) → has_card (legal_in (record { position = t; left = left })) card ≡ true
legal_from t [] card left some ours all = absurd (omega arith)
legal_from t (l ∷ ls) card left some ours all =
    ap (λ cards. has_card cards card) (legal_in-ours t left ours ∙ sym (legal_in-ours t l ours)) ∙ all 0 (record { position = t; left = l }) (omega arith)

module _ (n : NodeValue) (left : List ℕ) where
  abbrev pub makes_after : ℕ → Bool
  makes_after card = makes (after (record { position = n.position; left = left }) card)

  -- a result in the position after the card
  pub makes_there : (card : ℕ) (made : Bool) (before table : PositionValue) (hand : List ℕ) → made ≡ makes (record { position = table; left = hand })
      → table ≡ after_card before card → before ≡ n.position → hand ≡ take_out card left → made ≡ makes_after card
  makes_there card made before table hand is table_is before_is hand_is =
      is ∙ ap (λ (t : PositionValue). makes (record { position = t; left = hand })) (table_is ∙ ap (λ (t : PositionValue). after_card t card) before_is)
      ∙ ap (λ (h : List ℕ). makes (record { position = after_card n.position card; left = h })) hand_is

  pub legal_here : IsNode n → is_declarers (to_play n.position) ≡ true → (card : ℕ) → has_card (choices n) card ≡ true → has_card (legal_in (record { position = n.position; left = left })) card ≡ true
  legal_here sound ours card choice = legal_from n.position n.lefts card left sound.some ours (our_choices_are_legal_everywhere n card ours choice)

  -- Left's hand without the card fits the position after it
  pub fits_after : IsNode n → is_declarers (to_play n.position) ≡ true → FitsLeft n.position left → (card : ℕ) → has_card (choices n) card ≡ true → FitsLeft (after_card n.position card) (take_out card left)
  fits_after sound ours fits card choice =
      (a_legal_card_leads_to_a_state (record { position = n.position; left = left }) card (record { sound = sound.sound; fits = fits }) (legal_here sound ours card choice)).fits

  -- the cards that make, as far as they are known: the rest are still among them
  abbrev pub sifted : List ℕ → List ℕ
  sifted rest = cards_where (λ c. has_card (choices n) c && (has_card rest c || makes_after c))

  pub sifted-start : choices n ≡ sifted (choices n)
  sifted-start =
      IsCardSet-cards_where (λ card. list_any (is_legal n.position card) n.lefts)
      ∙ cards_where-agree (has_card (choices n)) (λ c. has_card (choices n) c && (has_card (choices n) c || makes_after c)) (λ c low. both_too (has_card (choices n) c) (makes_after c))
    where
      both_too : (a m : Bool) → a ≡ (a && (a || m))
      both_too true m = refl
      both_too false m = refl

  pub sifted-made : (cards rest : List ℕ) (card : ℕ) → cards ≡ card ∷ rest → makes_after card ≡ true → sifted cards ≡ sifted rest
  sifted-made cards rest card e made =
      ap sifted e
      ∙ cards_where-agree (λ c. has_card (choices n) c && (has_card (card ∷ rest) c || makes_after c)) (λ c. has_card (choices n) c && (has_card rest c || makes_after c))
      (λ c low. spare (has_card (choices n) c) (eqb card c) (has_card rest c) (makes_after c) (λ h. subst (λ d. makes_after d ≡ true) (eqb-true card c h) made))
    where
      spare : (a e r m : Bool) → (e ≡ true → m ≡ true) → (a && ((e || r) || m)) ≡ (a && (r || m))
      spare a true true m h = refl
      spare a true false m h = rw (h refl) refl
      spare a false r m h = refl

  pub sifted-failed : (cards rest : List ℕ) (card : ℕ) → cards ≡ card ∷ rest → IsCardSet cards → makes_after card ≡ false → filter (λ c. not (c == card)) (sifted cards) ≡ sifted rest
  sifted-failed cards rest card e set failed =
      filter-cards_where (λ c. not (c == card)) (λ c. has_card (choices n) c && (has_card cards c || makes_after c))
      ∙ cards_where-agree (λ c. (has_card (choices n) c && (has_card cards c || makes_after c)) && not (c == card)) (λ c. has_card (choices n) c && (has_card rest c || makes_after c))
      (λ c low. rw e (gone c))
    where
      alone : has_card rest card ≡ false
      alone = false_from_ne_true (has_card rest card) (λ h. absurd (omega (arith, tail-after card rest (subst IsCardSet e set) card h)))

      gone : (c : ℕ) → ((has_card (choices n) c && (has_card (card ∷ rest) c || makes_after c)) && not (c == card)) ≡ (has_card (choices n) c && (has_card rest c || makes_after c))
      gone c =
          elim (cases_eq c card) as (λ _. ((has_card (choices n) c && (has_card (card ∷ rest) c || makes_after c)) && not (c == card)) ≡ (has_card (choices n) c && (has_card rest c || makes_after c))) [
            | inl same ↦ rw (same, eq-eqb card card refl, alone, failed) (and-false (has_card (choices n) card && true) ∙ sym (and-false (has_card (choices n) card)))
            | inr other ↦ rw (ne_eqb c card other, ne_eqb card c (λ f. other (sym f))) (and-true (has_card (choices n) c && (has_card rest c || makes_after c)))
          ]

  pub sifted-all : (rest : List ℕ) → rest ≡ [] → sifted rest ≡ cards_that_make n left
  sifted-all rest e = ap sifted e

-- a card with its vector
abbrev pub line_of : NodeValue → ℕ → CardVector
line_of n card = record { card = card; vector = made_after n card }

-- ---- in which layouts a card makes

module _ (n : NodeValue) (card : ℕ) where
  -- whether a layout is made after the card
  abbrev pub made : List ℕ → Bool
  made left = makes (after (record { position = n.position; left = left }) card)

  -- the results in the first layouts, and 0 for the others
  abbrev pub made_upto : ℕ → List Bool
  made_upto place = map made (take place n.lefts) ++ replicate (length n.lefts - place) false

  length_first : (place : ℕ) → place ≤ length n.lefts → length (map made (take place n.lefts)) ≡ place
  length_first place low = length-map (take place n.lefts) made ∙ omega (arith, length-take place n.lefts)

  pub made_upto-none : replicate (length n.lefts) false ≡ made_upto 0
  made_upto-none = let all : length n.lefts ≡ length n.lefts - 0 = omega arith in ap (λ k. replicate k false) all

  pub length-made_upto : (place : ℕ) → place ≤ length n.lefts → length (made_upto place) ≡ length n.lefts
  length-made_upto place low =
      omega (arith, length-append (map made (take place n.lefts)) (replicate (length n.lefts - place) false), length_first place low, length-replicate (length n.lefts - place) false)

  -- whether the card is among those that make in the layout at a place
  pub made_here : has_card (choices n) card ≡ true → (place : ℕ) (cards : List ℕ) → place < length n.lefts → get_or (map (cards_that_make n) n.lefts) place cards ≡ cards
      → has_card cards card ≡ made (get_or n.lefts place [])
  made_here choice place cards low is =
      let left = get_or n.lefts place [] in
      let there : cards ≡ cards_that_make n left = sym is ∙ get_or-map (cards_that_make n) n.lefts place [] cards low in
      ap (λ xs. has_card xs card) there
      ∙ has_card-cards_where (λ c. has_card (choices n) c && makes_after n left c) card (has_card-below (choices n) card (IsCardSet-cards_where (λ c. list_any (is_legal n.position c) n.lefts)) choice)
      ∙ ap (λ b. b && made left) choice

  pub made_upto-more : (place : ℕ) → place < length n.lefts → set (made_upto place) place (made (get_or n.lefts place [])) ≡ made_upto (place + 1)
  made_upto-more place low =
      let left = get_or n.lefts place [] in
      let first = map made (take place n.lefts) in
      let rest = replicate (length n.lefts - (place + 1)) false in
      let more : length n.lefts - place ≡ suc (length n.lefts - (place + 1)) = omega arith in
      let here : map made (take (place + 1) n.lefts) ≡ first ++ made left ∷ [] = map_more made n.lefts place [] low in
      subst (λ k. set (first ++ replicate k false) place (made left) ≡ made_upto (place + 1)) (sym more)
      (subst (λ k. set (first ++ false ∷ rest) k (made left) ≡ made_upto (place + 1)) (length_first place (omega arith))
      (set-between first rest false (made left) ∙ sym (append_assoc first (made left ∷ []) rest) ∙ ap (λ bits. bits ++ rest) (sym here)))

  made_all : (lefts : List (List ℕ)) → map made lefts ≡ map (λ s. makes (after s card)) (map (λ left. record { position = n.position; left = left }) lefts)
  made_all [] = refl
  made_all (left ∷ lefts) = ap (λ bits. made left ∷ bits) (made_all lefts)

  pub made_upto-all : (place : ℕ) → length n.lefts ≤ place → made_upto place ≡ made_after n card
  made_upto-all place all =
      let none : length n.lefts - place ≡ 0 = omega arith in
      ap (λ k. map made (take place n.lefts) ++ replicate k false) none
      ∙ append-nil (map made (take place n.lefts)) ∙ ap (map made) (take_all place n.lefts all) ∙ made_all n.lefts
