-- This many highest cards of a suit of a hand, and all higher ones.
use Rattle.std.proofs.Common.{◌≡◌, ℕ, ◌<◌, ◌≤◌, true, not, ◌&&◌, eqb, nat_lt, None, Some, List, length, refl, sym, ap, ◌∙◌, inl, inr, arith}
use Rattle.std.proofs.lemmas.Bool.{false≢true, cases_eq, eq-eqb, ne_eqb, and_parts, lt-ltb}
use Rattle.card_sets.specs.declared.card.Suit.{Suit}
use Rattle.card_sets.specs.Cards.{suit_of, same_suit}
use Rattle.card_sets.specs.SetWords.{has_card, IsCardSet, IsSubset, first_card}
use Rattle.card_sets.proofs.Sets.{has_card-filter, has_card-below, IsCardSet-filter, find-holds, find-first, find-fails}
use Rattle.card_sets.proofs.SetCounts.{length-take_out, length-IsSubset}
use Rattle.card_sets.proofs.Suits.{same_suit-true}
use Rattle.trick_rules.specs.Play.{of_suit, take_out}
use Rattle.trick_rules.proofs.CardLists.{has_card-take_out}
use Rattle.sure_tricks.specs.Sure.{above}
use Rattle.sure_tricks.proofs.Holding.{suit_test}
use Rattle.dd_solver.specs.Closed.{up_from}
use Rattle.dd_solver.proofs.Winner.{up_has}

-- of the hand's cards of the suit, those with fewer than this many above them are among the rest
pub record AreLeft (hand : List ℕ) (suit : Suit) (many : ℕ) (rest : List ℕ) : Type 0 where
  pub part : IsSubset rest (of_suit suit hand)
  pub highest : (c : ℕ) → has_card hand c ≡ true → suit_of c ≡ suit → length (above c hand) < many → has_card rest c ≡ true

pub left-start : (hand rest : List ℕ) (suit : Suit) (many : ℕ) → rest ≡ of_suit suit hand → AreLeft hand suit many rest
left-start hand rest suit many e = record {
  part = λ c h. sym (ap (λ (l : List ℕ). has_card l c) e) ∙ h;
  highest = λ c held is few. ap (λ (l : List ℕ). has_card l c) e ∙ has_card-filter (λ d. same_suit (suit_of d) suit) hand c ∙ rw (held, suit_test c suit is) refl;
}

module _ (hand : List ℕ) (hand_set : IsCardSet hand) (suit : Suit) (many : ℕ) (rest : List ℕ) (set : IsCardSet rest) (r : AreLeft hand suit many rest) where
  of_rest : (c : ℕ) → has_card rest c ≡ true → (has_card hand c ≡ true) × (suit_of c ≡ suit)
  of_rest c h =
      let both = and_parts (has_card hand c) (same_suit (suit_of c) suit) (sym (has_card-filter (λ d. same_suit (suit_of d) suit) hand c) ∙ r.part c h) in
      (both.0, same_suit-true (suit_of c) suit both.1)

  pub left-none : first_card rest ≡ None → (c : ℕ) → has_card hand c ≡ true → suit_of c ≡ suit → length (above c hand) < many → ⊥
  left-none e c held is few = false≢true (sym (find-fails (λ _. true) rest c e (r.highest c held is few)))

  module _ (low : ℕ) (first : first_card rest ≡ Some low) where
    there : has_card rest low ≡ true
    there = (find-holds (λ _. true) rest low first).0

    least : (c : ℕ) → has_card rest c ≡ true → low ≤ c
    least c h = find-first (λ _. true) rest low c set first h refl

    pub left-up : (c : ℕ) → has_card hand c ≡ true → suit_of c ≡ suit → length (above c hand) < many → has_card (up_from low) c ≡ true
    left-up c held is few =
        let h = r.highest c held is few in
        up_has low c (has_card-below rest c set h) (is ∙ sym (of_rest low there).1) (least c h)

    pub left-fewer : (new : List ℕ) → new ≡ take_out low rest → length new < length rest
    left-fewer new e = let n = length-take_out rest low set there in let m = ap (length {A = ℕ}) e in omega arith

    -- the lowest has as many above it as there are others
    others_above : length (take_out low rest) ≤ length (above low hand)
    others_above = length-IsSubset (above low hand) (take_out low rest)
        (IsCardSet-filter (λ d. same_suit (suit_of d) (suit_of low) && nat_lt low d) hand hand_set)
        (IsCardSet-filter (λ d. not (eqb d low)) rest set)
        (λ d h.
        let both = and_parts (has_card rest d) (not (eqb d low)) (sym (has_card-take_out low rest d) ∙ h) in
        let one = of_rest d both.0 in
        let two = of_rest low there in
        has_card-filter (λ e. same_suit (suit_of e) (suit_of low) && nat_lt low e) hand d
        ∙ rw (one.0, suit_test d (suit_of low) (one.1 ∙ sym two.1), lt-ltb low d (past d both.0 both.1)) refl)
      where
        past : (d : ℕ) → has_card rest d ≡ true → not (eqb d low) ≡ true → low < d
        past d h other = elim (cases_eq d low) as (λ _. low < d) [
          | inl same ↦ absurd (false≢true (sym (ap not (eq-eqb d low same)) ∙ other))
          | inr differ ↦ omega (arith, least d h, differ)
        ]

    pub left-drop : (new : List ℕ) → new ≡ take_out low rest → many < length rest → AreLeft hand suit many new
    left-drop new e more = record {
      part = λ c h. r.part c ((and_parts (has_card rest c) (not (eqb c low)) (sym (has_card-take_out low rest c) ∙ sym (ap (λ (l : List ℕ). has_card l c) e) ∙ h)).0);
      highest = λ c held is few. elim (cases_eq c low) as (λ _. has_card new c ≡ true) [
        | inl same ↦ (let n = length-take_out rest low set there in
            let k = ap (λ x. length (above x hand)) same in
            absurd (omega (arith, n, k, others_above, few, more)))
        | inr differ ↦ ap (λ (l : List ℕ). has_card l c) e ∙ has_card-take_out low rest c ∙ rw (r.highest c held is few, ne_eqb c low differ) refl
      ];
    }
