-- A plan has one verdict only.
use Rattle.std.proofs.Common.{◌≡◌, ◌≤◌, ◌<◌, ◌-◌, ◌==◌, ℕ, Bool, true, false, not, None, Some, refl, sym, ap, ap₂, ◌∙◌, take, get_or, arith}
use Rattle.std.specs.List.{slice_get}
use Rattle.std.proofs.lemmas.Option.{get_or_from_slice_get}
use Rattle.std.proofs.lemmas.List.{get_or-take}
use Rattle.std.proofs.lemmas.Bool.{false≢true}
use Rattle.win_vectors.specs.Fronts.{Vector}
use Rattle.trick_rules.specs.Nodes.{NodeValue}
use Rattle.strategy_games.specs.Plans.{Plan, Fits, wins_vector}
use Rattle.strategy_games.specs.Misfits.{first_misfit}
use Rattle.strategy_tree.specs.Bridge.{bridge}
use Rattle.strategy_tree.proofs.BridgeLaws as laws
use Rattle.strategy_check.specs.declared.verdict.Verdict.{Verdict}
use Rattle.strategy_check.specs.declared.verdict.Verdict.TheVariants.{Good, NotAStrategy, OtherVector}
use Rattle.strategy_check.specs.Verdicts.{IsFirstDifference, IsVerdict}

not_itself : (b : Bool) → b ≡ not b → ⊥
not_itself true h = false≢true (sym h)
not_itself false h = false≢true h

some_same : {A : Type 0} (x y : A) → Some x ≡ Some y → x ≡ y
some_same x y h = cc

-- the bits of a place that both lists have as far as it
bits_agree : (u v : Vector) (k j : ℕ) (a b : Bool) → j < k → take k u ≡ take k v → slice_get u j ≡ Some a → slice_get v j ≡ Some b → a ≡ b
bits_agree u v k j a b below same at_u at_v =
    sym (get_or_from_slice_get u j a a at_u) ∙ sym (get_or-take k u j a below) ∙ ap (λ l. get_or l j a) same ∙ get_or-take k v j a below ∙ get_or_from_slice_get v j b a at_v

not_before : (u v : Vector) (here there : ℕ) (a b : Bool) → IsFirstDifference u v here a → IsFirstDifference u v there b → here < there → ⊥
not_before u v here there a b x y below =
    let one : 1 ≤ here = x.counted in
    let apart : here - 1 < there - 1 = omega arith in
    not_itself a (bits_agree u v (there - 1) (here - 1) a (not a) apart y.same_before x.own_bit x.given_bit)

same_place : (u v : Vector) (here there : ℕ) (a b : Bool) → IsFirstDifference u v here a → IsFirstDifference u v there b → here ≡ there
same_place u v here there a b x y =
    let one = not_before u v here there a b x y in
    let other = not_before u v there here b a y x in
    omega (arith, one, other)

same_difference : (u v : Vector) (here there : ℕ) (a b : Bool) → IsFirstDifference u v here a → IsFirstDifference u v there b → (here ≡ there) × (a ≡ b)
same_difference u v here there a b x y =
    let place = same_place u v here there a b x y in
    (place, some_same a b (sym x.own_bit ∙ ap (λ k. slice_get u (k - 1)) place ∙ y.own_bit))

differs : (u v : Vector) (place : ℕ) (bit : Bool) → IsFirstDifference u v place bit → u ≡ v → ⊥
differs u v place bit x same = not_itself bit (some_same bit (not bit) (sym x.own_bit ∙ ap (λ l. slice_get l (place - 1)) same ∙ x.given_bit))

module _ (n : NodeValue) (moves : ℕ) (plan : Plan ℕ) (vector : Vector) where
  fits_or_not : (number : ℕ) → Fits bridge plan n moves → first_misfit bridge ◌==◌ plan n moves ≡ Some number → ⊥
  fits_or_not number fits at_fault = let none : first_misfit bridge ◌==◌ plan n moves ≡ None = (laws.first_misfit.none plan n moves).0 fits in cc

  pub one_verdict : (one other : Verdict) → IsVerdict n moves plan vector one → IsVerdict n moves plan vector other → one ≡ other
  one_verdict Good Good x y = refl
  one_verdict Good (NotAStrategy i) x y = absurd (fits_or_not i x.0 y)
  one_verdict Good (OtherVector k b) x y = absurd (differs (wins_vector bridge plan n) vector k b y.1 x.1)
  one_verdict (NotAStrategy i) Good x y = absurd (fits_or_not i y.0 x)
  one_verdict (NotAStrategy i) (NotAStrategy j) x y = ap (λ k. NotAStrategy k) (some_same i j (sym x ∙ y))
  one_verdict (NotAStrategy i) (OtherVector k b) x y = absurd (fits_or_not i y.0 x)
  one_verdict (OtherVector k b) Good x y = absurd (differs (wins_vector bridge plan n) vector k b x.1 y.1)
  one_verdict (OtherVector k b) (NotAStrategy i) x y = absurd (fits_or_not i x.0 y)
  one_verdict (OtherVector k a) (OtherVector j b) x y = let same = same_difference (wins_vector bridge plan n) vector k j a b x.1 y.1 in ap₂ (λ (p : ℕ) (c : Bool). OtherVector p c) same.0 same.1
