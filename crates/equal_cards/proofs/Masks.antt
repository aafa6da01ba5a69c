-- Whether two cards are legal in the same layouts, layout by layout.
use Rattle.std.proofs.Common.{◌≡◌, ℕ, ◌+◌, ◌<◌, ◌≤◌, Bool, true, false, not, List, length, map, get_or, refl, sym, ap, subst, ◌∙◌, inl, inr, arith}
use Rattle.std.proofs.Math.Bool.{beq}
use Rattle.std.proofs.lemmas.Bool.{false≢true, cases_lt}
use Rattle.std.proofs.lemmas.List.{get_or_default}
use Rattle.trick_rules.specs.Positions.{PositionValue}
use Rattle.trick_rules.specs.Nodes.{NodeValue, is_legal, child_mask}
use Rattle.strategy_games.proofs.Lists.{map-agree}
use Rattle.equal_cards.proofs.Zips.{agree_at}

-- the test of two bits that differ
pub bits-agree : (a b : Bool) → not (beq a b) ≡ false → a ≡ b
bits-agree true true h = refl
bits-agree false false h = refl
bits-agree true false h = absurd (false≢true (sym h))
bits-agree false true h = absurd (false≢true (sym h))

pub bits-differ : (a b : Bool) → not (beq a b) ≡ true → a ≡ b → ⊥
bits-differ true true h e = false≢true h
bits-differ false false h e = false≢true h
bits-differ true false h e = false≢true (sym e)
bits-differ false true h e = false≢true e

module _ (t : PositionValue) (card other : ℕ) (lefts : List (List ℕ)) where
  -- in each of the first layouts, up to a number, both cards are legal, or neither is
  abbrev pub AgreeBelow : ℕ → Type 0
  AgreeBelow i = (k : ℕ) (d : List ℕ) → k < i → is_legal t card (get_or lefts k d) ≡ is_legal t other (get_or lefts k d)

  pub agree-more : (i : ℕ) (left : List ℕ) → i < length lefts → left ≡ get_or lefts i left → is_legal t card left ≡ is_legal t other left → AgreeBelow i → AgreeBelow (i + 1)
  agree-more i left low is here before k d below =
      elim (cases_lt k i) as (λ _. is_legal t card (get_or lefts k d) ≡ is_legal t other (get_or lefts k d)) [
        | inl h ↦ before k d h
        | inr h ↦
            (let at : k ≡ i = omega arith in
            let same : left ≡ get_or lefts k d = is ∙ get_or_default lefts i left d low ∙ ap (λ j. get_or lefts j d) (sym at) in
            subst (λ x. is_legal t card x ≡ is_legal t other x) same here)
      ]

  module _ (n : NodeValue) (position : t ≡ n.position) (all : lefts ≡ n.lefts) where
    pub agree-all : (i : ℕ) → length lefts ≤ i → AgreeBelow i → child_mask n card ≡ child_mask n other
    agree-all i long agree =
        let masks : map (is_legal t card) lefts ≡ map (is_legal t other) lefts =
        map-agree (is_legal t card) (is_legal t other) lefts (λ x among.
        subst (λ y. is_legal t card y ≡ is_legal t other y) among.2 (agree among.0 x (omega (arith, among.1)))) in
        rw (position, all) at masks

    pub differ-at : (i : ℕ) (left : List ℕ) → i < length lefts → left ≡ get_or lefts i left → child_mask n card ≡ child_mask n other → is_legal t card left ≡ is_legal t other left
    differ-at i left low is same =
        let masks : map (is_legal t card) lefts ≡ map (is_legal t other) lefts = rw (position, all) same in
        agree_at (is_legal t card) (is_legal t other) lefts masks left (i, low, sym is)
