-- The first and the last of the cards that may be played.
use Rattle.std.proofs.Common.{◌≡◌, ◌≤◌, ◌==◌, ◌||◌, ◌⊎◌, ℕ, Bool, true, false, Some, List, [], ◌∷◌, refl, sym, ap, subst, ◌∙◌, inl, inr, ⊎_elim, arith}
use borrow.Author.Tests.{eqb-true, eq-eqb}
use Rattle.card_sets.specs.SetWords.{has_card, IsCardSet, first_card}
use Rattle.card_sets.proofs.Sets.{tail-after, IsCardSet-tail, find-holds, find-first}
use Rattle.trick_rules.specs.Positions.{PositionValue}
use Rattle.trick_rules.specs.Play.{legal_cards, or_whole, of_suit}
use Rattle.am_match.specs.Defences.{MayPlay}

pub has_head : (x : ℕ) (xs : List ℕ) → has_card (x ∷ xs) x ≡ true
has_head x xs = ap (λ b. b || has_card xs x) (eq-eqb x x refl)

has_tail : (x : ℕ) (xs : List ℕ) (c : ℕ) → has_card xs c ≡ true → has_card (x ∷ xs) c ≡ true
has_tail x xs c holds = go (x == c)
  where
    go : (b : Bool) → (b || has_card xs c) ≡ true
    go true = refl
    go false = holds

head_or_tail : (x : ℕ) (xs : List ℕ) (c : ℕ) → has_card (x ∷ xs) c ≡ true → (x ≡ c) ⊎ (has_card xs c ≡ true)
head_or_tail x xs c holds = go (x == c) refl holds
  where
    go : (b : Bool) → (x == c) ≡ b → (b || has_card xs c) ≡ true → (x ≡ c) ⊎ (has_card xs c ≡ true)
    go true same h = inl (eqb-true x c same)
    go false differs h = inr h

-- who holds a card has one that may be played
pub no_hand : (trick hand : List ℕ) → legal_cards trick hand ≡ [] → hand ≡ []
no_hand [] hand none = none
no_hand (led ∷ rest) hand none = go (of_suit _ hand) none
  where
    go : (cards : List ℕ) → or_whole cards hand ≡ [] → hand ≡ []
    go [] none = none
    go (c ∷ cs) none = cc

pub plays_first : (t : PositionValue) (hand legal : List ℕ) (card : ℕ) → legal ≡ legal_cards t.trick.cards hand → IsCardSet legal
    → first_card legal ≡ Some card → MayPlay 1 t hand card
plays_first t hand legal card is a_set first = record {
  legal = ap (λ cs. has_card cs card) (sym is) ∙ (find-holds (λ _. true) legal card first).0;
  first = λ style other holds. find-first (λ _. true) legal card other a_set first (ap (λ cs. has_card cs other) is ∙ holds) refl;
  last = λ style other there. absurd (omega arith);
}

pub plays_last : (t : PositionValue) (hand legal : List ℕ) (card : ℕ) → legal ≡ legal_cards t.trick.cards hand
    → has_card legal card ≡ true → ((other : ℕ) → has_card legal other ≡ true → other ≤ card) → MayPlay 2 t hand card
plays_last t hand legal card is holds greatest = record {
  legal = ap (λ cs. has_card cs card) (sym is) ∙ holds;
  first = λ style other there. absurd (omega arith);
  last = λ style other there. greatest other (ap (λ cs. has_card cs other) is ∙ there);
}

-- ---- the last card of a set

-- the last of the cards that were gone through, and those that weren't
pub record IsLastSoFar (cards : List ℕ) (last : ℕ) (rest : List ℕ) : Type 0 where
  pub a_set : IsCardSet (last ∷ rest)
  pub held : has_card cards last ≡ true
  pub part : (other : ℕ) → has_card rest other ≡ true → has_card cards other ≡ true
  pub later : (other : ℕ) → has_card cards other ≡ true → (other ≤ last) ⊎ (has_card rest other ≡ true)

pub first_of_all : (cards : List ℕ) (last : ℕ) (rest : List ℕ) → cards ≡ last ∷ rest → IsCardSet cards → IsLastSoFar cards last rest
first_of_all cards last rest is a_set = record {
  a_set = subst IsCardSet is a_set;
  held = ap (λ cs. has_card cs last) is ∙ has_head last rest;
  part = λ other holds. ap (λ cs. has_card cs other) is ∙ has_tail last rest other holds;
  later = λ other holds. ⊎_elim
      (λ (same : last ≡ other). inl (at_most other same))
      (λ (after : has_card rest other ≡ true). inr after)
      (head_or_tail last rest other (sym (ap (λ cs. has_card cs other) is) ∙ holds));
}
  where
    at_most : (other : ℕ) → last ≡ other → other ≤ last
    at_most other same = omega arith

pub one_further : (cards : List ℕ) (last : ℕ) (rest : List ℕ) (card : ℕ) (more : List ℕ) → IsLastSoFar cards last rest → rest ≡ card ∷ more
    → IsLastSoFar cards card more
one_further cards last rest card more so_far is = record {
  a_set = IsCardSet-tail last (card ∷ more) (subst (λ (cs : List ℕ). IsCardSet (last ∷ cs)) is so_far.a_set);
  held = so_far.part card here;
  part = λ other holds. so_far.part other (ap (λ cs. has_card cs other) is ∙ has_tail card more other holds);
  later = λ other holds. ⊎_elim
      (λ (before : other ≤ last). inl (further other before))
      (λ (after : has_card rest other ≡ true). ⊎_elim
      (λ (same : card ≡ other). inl (at_most other same))
      (λ (later : has_card more other ≡ true). inr later)
      (head_or_tail card more other (sym (ap (λ cs. has_card cs other) is) ∙ after)))
      (so_far.later other holds);
}
  where
    here : has_card rest card ≡ true
    here = ap (λ cs. has_card cs card) is ∙ has_head card more

    further : (other : ℕ) → other ≤ last → other ≤ card
    further other before = omega (arith, tail-after last rest so_far.a_set card here)

    at_most : (other : ℕ) → card ≡ other → other ≤ card
    at_most other same = omega arith

pub last_of_all : (cards : List ℕ) (last : ℕ) (rest : List ℕ) → IsLastSoFar cards last rest → rest ≡ []
    → (other : ℕ) → has_card cards other ≡ true → other ≤ last
last_of_all cards last rest so_far none other holds = ⊎_elim
    (λ (before : other ≤ last). before)
    (λ (after : has_card rest other ≡ true). absurd (nothing (sym (ap (λ cs. has_card cs other) none) ∙ after)))
    (so_far.later other holds)
  where
    nothing : false ≡ true → ⊥
    nothing same = cc
