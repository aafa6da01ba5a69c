-- The place of a verdict, where a plan is at fault.
use Rattle.std.proofs.Common.{◌≡◌, ◌<◌, ◌≤◌, subst, drop, slice_index_or, ◌+◌, ◌-◌, ◌==◌, ℕ, zero, suc, Bool, true, false, not, Option, None, Some, List, [], ◌∷◌, length, take, refl, sym, ap, ◌∙◌, arith}
use Rattle.std.specs.List.{slice_get}
use Rattle.std.proofs.lemmas.Bool.{false≢true}
use Rattle.std.proofs.lemmas.List.{drop_more}
use Rattle.std.proofs.Math.ListN.{drop_of_length-le}
use Rattle.std.proofs.lemmas.Bool.Decides.{nat_tests}
use Rattle.win_vectors.specs.Fronts.{Vector}
use Rattle.win_vectors.specs.Weights.{weight_of}
use Rattle.trick_rules.specs.Nodes.{NodeValue}
use Rattle.strategy_games.specs.Plans.{Plan, Fits, wins_vector}
use Rattle.strategy_games.specs.Misfits.{first_misfit}
use Rattle.strategy_tree.specs.Bridge.{bridge}
use Rattle.strategy_tree.proofs.BridgeLaws as laws
use Rattle.strategy_check.specs.declared.verdict.Verdict.{Verdict}
use Rattle.strategy_check.specs.declared.verdict.Verdict.TheVariants.{Good, NotAStrategy, OtherVector}
use Rattle.strategy_check.specs.Verdicts.{IsVerdict}
use Rattle.am_answer.specs.declared.status.Place.{Place}
use Rattle.am_answer.specs.declared.status.Place.TheVariants.{Node, Layout}
use Rattle.am_report.specs.Answers.{EntryValue, ReadEntryValue}
use Rattle.am_answer.specs.Judging.{first_difference, plan_fault, entry_fault, or_later_plan, first_plan_fault}

-- the same vector differs nowhere
no_difference : (number : ℕ) (vector : Vector) → first_difference number vector vector ≡ None
no_difference number [] = refl
no_difference number (true ∷ rest) = no_difference (number + 1) rest
no_difference number (false ∷ rest) = no_difference (number + 1) rest

same_heads : {X : Type 0} (x y : X) (xs ys : List X) → x ∷ xs ≡ y ∷ ys → (x ≡ y) × (xs ≡ ys)
same_heads x y xs ys same = (cc, cc)

some_same : {A : Type 0} (x y : A) → Some x ≡ Some y → x ≡ y
some_same x y h = cc

plus_zero : (n : ℕ) → n + 0 ≡ n
plus_zero n = omega arith

-- two bits that are the same are passed over
first_difference-same : (number : ℕ) (a b : Bool) (rest others : Vector) → a ≡ b → first_difference number (a ∷ rest) (b ∷ others) ≡ first_difference (number + 1) rest others
first_difference-same number true true rest others is = refl
first_difference-same number true false rest others is = absurd (false≢true (sym is))
first_difference-same number false true rest others is = absurd (false≢true is)
first_difference-same number false false rest others is = refl

-- the first difference after this many bits that are the same
difference_after : (number k : ℕ) (own given : Vector) (bit : Bool) → take k own ≡ take k given → slice_get own k ≡ Some bit → slice_get given k ≡ Some (not bit) → first_difference number own given ≡ Some (Layout (number + k) bit)
difference_after number k [] given bit same at_own at_given = absurd cc
difference_after number k (own ∷ rest) [] bit same at_own at_given = absurd cc
difference_after number zero (true ∷ rest) (true ∷ others) bit same at_own at_given = absurd cc
difference_after number zero (true ∷ rest) (false ∷ others) bit same at_own at_given = ap (λ b. Some (Layout number b)) (some_same true bit at_own) ∙ ap (λ n. Some (Layout n bit)) (sym (plus_zero number))
difference_after number zero (false ∷ rest) (true ∷ others) bit same at_own at_given = ap (λ b. Some (Layout number b)) (some_same false bit at_own) ∙ ap (λ n. Some (Layout n bit)) (sym (plus_zero number))
difference_after number zero (false ∷ rest) (false ∷ others) bit same at_own at_given = absurd cc
difference_after number (suc k) (own ∷ rest) (given ∷ others) bit same at_own at_given =
    let heads = same_heads own given (take k rest) (take k others) same in
    let next : (number + 1) + k ≡ number + suc k = omega arith in
    first_difference-same number own given rest others heads.0 ∙ difference_after (number + 1) k rest others bit heads.1 at_own at_given ∙ ap (λ n. Some (Layout n bit)) next

-- where a verdict finds a plan at fault
abbrev pub place_of : Verdict → Option Place
place_of Good = None
place_of (NotAStrategy number) = Some (Node number)
place_of (OtherVector layout bit) = Some (Layout layout bit)

module _ (node : NodeValue) (moves : ℕ) (plan : Plan ℕ) (vector : Vector) where
  fits-fault : Fits bridge plan node moves → plan_fault (first_misfit bridge ◌==◌ plan node moves) (wins_vector bridge plan node) vector ≡ first_difference 1 (wins_vector bridge plan node) vector
  fits-fault fits = ap (λ misfit. plan_fault misfit (wins_vector bridge plan node) vector) ((laws.first_misfit.none plan node moves).0 fits)

  pub plan_fault-verdict : (verdict : Verdict) → IsVerdict node moves plan vector verdict → plan_fault (first_misfit bridge ◌==◌ plan node moves) (wins_vector bridge plan node) vector ≡ place_of verdict
  plan_fault-verdict Good (fits, wins) = fits-fault fits ∙ ap (first_difference 1 (wins_vector bridge plan node)) (sym wins) ∙ no_difference 1 (wins_vector bridge plan node)
  plan_fault-verdict (NotAStrategy number) misfit = ap (λ found. plan_fault found (wins_vector bridge plan node) vector) misfit
  plan_fault-verdict (OtherVector layout bit) (fits, differs) =
      let place : 1 + (layout - 1) ≡ layout = omega (arith, differs.counted) in
      fits-fault fits ∙ difference_after 1 (layout - 1) (wins_vector bridge plan node) vector bit differs.same_before differs.own_bit differs.given_bit ∙ ap (λ n. Some (Layout n bit)) place

module _ (node : NodeValue) (weights : List ℕ) (moves : ℕ) (read : ReadEntryValue) where
  -- the place of a verdict is where the entry is at fault
  pub entry_fault-verdict : (verdict : Verdict) → length read.entry.vector ≡ length node.lefts → read.weight ≡ weight_of weights read.entry.vector
      → IsVerdict node moves read.entry.plan read.entry.vector verdict → place_of verdict ≡ entry_fault node weights moves read
  unfolding entry_fault
  entry_fault-verdict verdict width weight is =
      let wide : (length read.entry.vector == length node.lefts) ≡ true = grind (arith, nat_tests, width) in
      let heavy : (read.weight == weight_of weights read.entry.vector) ≡ true = grind (arith, nat_tests, weight) in
      rw (wide, heavy) (sym (plan_fault-verdict node moves read.entry.plan read.entry.vector verdict is))

-- ---- the plans one after another

module _ (node : NodeValue) (weights : List ℕ) (moves : ℕ) (entries : List ReadEntryValue) where
  module _ (index : ℕ) (read : ReadEntryValue) (low : index < length entries) (is : read ≡ slice_index_or entries index read) where
    first_plan_fault-at : first_plan_fault node weights moves (1 + index) (drop index entries)
        ≡ or_later_plan (1 + index) (entry_fault node weights moves read) (first_plan_fault node weights moves (1 + index + 1) (drop (index + 1) entries))
    first_plan_fault-at = ap (first_plan_fault node weights moves (1 + index)) (drop_more entries index read low ∙ ap (λ e. e ∷ drop (index + 1) entries) (sym is))

    pub first_plan_fault-found : (place : Place) → entry_fault node weights moves read ≡ Some place → first_plan_fault node weights moves (1 + index) (drop index entries) ≡ Some (index + 1, place)
    first_plan_fault-found place found =
        let number : 1 + index ≡ index + 1 = omega arith in
        first_plan_fault-at ∙ ap (λ f. or_later_plan (1 + index) f (first_plan_fault node weights moves (1 + index + 1) (drop (index + 1) entries))) found ∙ ap (λ n. Some (n, place)) number

    pub first_plan_fault-later : entry_fault node weights moves read ≡ None
        → first_plan_fault node weights moves (1 + index) (drop index entries) ≡ first_plan_fault node weights moves (1 + (index + 1)) (drop (index + 1) entries)
    first_plan_fault-later found =
        let number : 1 + index + 1 ≡ 1 + (index + 1) = omega arith in
        first_plan_fault-at ∙ ap (λ f. or_later_plan (1 + index) f (first_plan_fault node weights moves (1 + index + 1) (drop (index + 1) entries))) found
        ∙ ap (λ n. first_plan_fault node weights moves n (drop (index + 1) entries)) number

  -- past the last plan
  pub first_plan_fault-end : (index : ℕ) → length entries ≤ index → first_plan_fault node weights moves (1 + index) (drop index entries) ≡ None
  first_plan_fault-end index past = ap (first_plan_fault node weights moves (1 + index)) (drop_of_length-le entries past)

-- the fault of an entry as it is opened is that of the entry as it was read
pub fault_as : (n : NodeValue) (ws : List ℕ) (moves weight : ℕ) (place : Option Place) (opened entry : EntryValue) → opened ≡ entry
    → (read : ReadEntryValue) → record { entry = entry; weight = weight } ≡ read
    → place ≡ entry_fault n ws moves (record { entry = opened; weight = weight }) → place ≡ entry_fault n ws moves read
fault_as n ws moves weight place opened entry is read is_read fault =
    subst (λ (r : ReadEntryValue). place ≡ entry_fault n ws moves r) is_read
    (subst (λ (e : EntryValue). place ≡ entry_fault n ws moves (record { entry = e; weight = weight })) is fault)
