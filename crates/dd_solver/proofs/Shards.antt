-- Each step on a shard's turn keeps the rule.
use Rattle.std.proofs.Common.{◌≡◌, ◌≢◌, ℕ, ◌<◌, List, [], ◌∷◌, length, length-set, set, get_or-set_same, get_or-set_other, refl, sym, ap, ◌∙◌, subst, arith}
use Rattle.std.proofs.lemmas.List.{length-map}
use Rattle.std.specs.Prelude.{⊤, slice_index}
use mathlib.Core.Option.{Option, none, some}
use mathlib.Core.Logic.{dite}
use native.Mathlib.Decide.{ℕ_discrete}
use lib.ListN.{get_elem?}
use Rattle.atomic_table.specs.Table.{State, Me, keeps, takes, gives, Allows, Arrives, homes_after, opening, rest}
use Rattle.atomic_table.proofs.Lists.{set_here, set_else, some_there}
use Rattle.dd_solver.specs.Shards.{IsHome, AreHome, HoldsOnly}

module _ {S V : Type 0} where
  -- the word of the shard i becomes n, and no other shard goes out
  kept : (s : State S V) → AreHome s → (i n : ℕ) → i < length s.homes → (homes : List (Option S)) (views : List V) → length homes ≡ length s.homes → ((k : ℕ) → k ≢ i → get_elem? homes k ≡ get_elem? s.homes k)
      → (n ≡ 0 → (shard : S) × (get_elem? homes i ≡ some (some shard))) → AreHome (record { words = set s.words i n; homes = homes; views = views })
  kept s h i n inside homes views size others here = record {
    turns = length-set s.words i n ∙ h.turns ∙ sym size;
    home = λ k within free. dite (ℕ_discrete k i)
        (λ e.
        let long = h.turns in
        let lies : i < length s.words = omega arith in
        let word : slice_index (set s.words i n) i ≡ n = get_or-set_same s.words i n 0 lies in
        subst (λ z. IsHome z (record { words = set s.words i n; homes = homes; views = views })) (sym e)
        (here (sym word ∙ subst (λ z. slice_index (set s.words i n) z ≡ 0) e free)))
        (λ ne.
        let word : slice_index (set s.words i n) k ≡ slice_index s.words k = get_or-set_other s.words i k n 0 ne in
        let there = h.home k (omega (arith, size)) (sym word ∙ free) in
        (there.0, others k ne ∙ there.1));
  }

  -- a swap takes the shard, if its word was 0
  pub takes_shard : (v : V) (slots i : ℕ) → i < slots → Arrives {S = S} {V = V} AreHome slots i (λ _. 1) (λ found m. found ≡ 0 → HoldsOnly i m)
  takes_shard v slots i inside s h size fits =
      let within : i < length s.homes = omega arith in
      dite (ℕ_discrete (slice_index s.words i) 0)
      (λ free.
      let there = h.home i within free in (
        v,
        takes i there.0,
        there.1,
        kept s h i 1 within (set s.homes i none) _ (length-set s.homes i none) (λ k ne. set_else s.homes i k none ne) (λ e. absurd (omega arith)),
        λ _. (there.0, refl),
      ))
      (λ taken. (
        v,
        keeps,
        tt,
        kept s h i 1 within s.homes _ refl (λ k ne. refl) (λ e. absurd (omega arith)),
        λ e. absurd (taken e),
      ))

  -- a store of 0 brings the shard home
  pub gives_shard : (slots id i : ℕ) (m : Me S V) → i < slots → HoldsOnly i m → Allows AreHome slots id m i (λ _. 0) (λ _ _. ⊤)
  gives_shard slots id i m inside holds s h size at fits =
      let within : i < length s.homes = omega arith in
      let after : List (Option S) = set s.homes i (some holds.0) in
      let same : homes_after s.homes m.1 gives ≡ after = ap (λ (c : List (ℕ × S)). homes_after s.homes c gives) holds.1 in (
        m.0,
        gives,
        tt,
        subst (λ z. AreHome (record { words = set s.words i 0; homes = z; views = set s.views id m.0 })) (sym same)
            (kept s h i 0 within after _ (length-set s.homes i (some holds.0)) (λ k ne. set_else s.homes i k (some holds.0) ne) (λ _. (holds.0, set_here s.homes i (some holds.0) within))),
        tt,
      )

  -- all shards of a new memo are at home
  pub begins : (words : List ℕ) (shards : List S) (v : V) → length words ≡ length shards → AreHome (opening words shards v)
  begins words shards v same = record {
    turns = same ∙ sym (length-map shards some);
    home = λ i within _. some_there shards i (let size = length-map shards some in omega arith);
  }

  -- the shard that a seat holds is the one that it took last
  pub holds_last : (i : ℕ) (m : Me S V) → HoldsOnly i m → (shard : S) × (m.1 ≡ (i, shard) ∷ rest m.1)
  holds_last i m holds = (holds.0, holds.1 ∙ ap (λ (l : List (ℕ × S)). (i, holds.0) ∷ rest l) (sym holds.1))

  -- and it still holds that one alone if the shard changes
  pub holds_still : (i : ℕ) (m : Me S V) (later : S) → HoldsOnly i m → (shard : S) × ((i, later) ∷ rest m.1 ≡ (i, shard) ∷ [])
  holds_still i m later holds = (later, ap (λ (l : List (ℕ × S)). (i, later) ∷ rest l) holds.1)
