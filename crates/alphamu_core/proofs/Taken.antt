-- A card taken out of a set.
use Rattle.std.proofs.Common.{◌≡◌, ◌||◌, ◌==◌, not, ℕ, true, false, List, [], ◌∷◌, Contains, filter, sym, ap, subst, inl, inr, ⊎_elim, arith}
use Rattle.std.proofs.lemmas.Bool.{cases_eq, ne_eqb}
use Rattle.std.proofs.lemmas.List.Sums.{sum_by-cons}
use Rattle.card_sets.specs.SetWords.{has_card, IsCardSet}
use Rattle.card_sets.proofs.Sets.{take_out-head, IsCardSet-tail}
use Rattle.strategy_games.proofs.Lists.{Contains-here, Contains-there, Contains-cons}
use Rattle.alphamu_core.specs.Kept.{IsTaken}

-- the first of a list
pub taken_first : (cards : List ℕ) (card : ℕ) (rest : List ℕ) → cards ≡ card ∷ rest → IsTaken cards card rest
taken_first cards card rest e = subst (λ cards. IsTaken cards card rest) (sym e) (record {
  among = Contains-here card rest;
  part = λ other among. Contains-there card rest other among;
  others = λ other among. ⊎_elim (λ (e : card ≡ other). inl (sym e)) (λ (k : Contains rest other). inr k) (Contains-cons card rest other among);
  sums = λ size. sum_by-cons size card rest;
  fewer = omega arith;
})

-- a card before others
later : (x : ℕ) (xs rest : List ℕ) (card : ℕ) → IsTaken xs card rest → IsTaken (x ∷ xs) card (x ∷ rest)
later x xs rest card t = record {
  among = Contains-there x xs card t.among;
  part = λ other among. ⊎_elim (λ (e : x ≡ other). subst (λ y. Contains (x ∷ xs) y) e (Contains-here x xs)) (λ (k : Contains rest other). Contains-there x xs other (t.part other k)) (Contains-cons x rest other among);
  others = λ other among. ⊎_elim
      (λ (e : x ≡ other). inr (subst (λ y. Contains (x ∷ rest) y) e (Contains-here x rest)))
      (λ (k : Contains xs other). ⊎_elim (λ (e : other ≡ card). inl e) (λ (l : Contains rest other). inr (Contains-there x rest other l)) (t.others other k))
      (Contains-cons x xs other among);
  sums = λ size. (let e = t.sums size in omega (arith, sum_by-cons size x xs, sum_by-cons size x rest));
  fewer = (let f = t.fewer in omega arith);
}

-- a card of a set, taken out
pub taken_out : (cards : List ℕ) (card : ℕ) → IsCardSet cards → has_card cards card ≡ true → IsTaken cards card (filter (λ c. not (c == card)) cards)
taken_out [] card is has = absurd cc
taken_out (x ∷ xs) card is has = elim (cases_eq x card) [
  | inl same ↦ subst (λ card. IsTaken (x ∷ xs) card (filter (λ c. not (c == card)) (x ∷ xs))) same
      (taken_first (x ∷ xs) x (filter (λ c. not (c == x)) (x ∷ xs)) (ap (λ (l : List ℕ). x ∷ l) (sym (take_out-head x xs is))))
  | inr other ↦
      let off : (x == card) ≡ false = ne_eqb x card other in
      let there : has_card xs card ≡ true = subst (λ b. (b || has_card xs card) ≡ true) off has in
      rw off (later x xs (filter (λ c. not (c == card)) xs) card (taken_out xs card (IsCardSet-tail x xs is) there))
]
