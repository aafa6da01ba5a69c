-- What the numbers of a version's texts are.
use Rattle.std.proofs.Common.{◌≡◌, ℕ, ◌+◌, ◌*◌, ◌≤◌, Bool, true, false, ◌==◌, Some, List, [], ◌∷◌, length, take, get_or, slice_get, sum, All, refl, sym, ap, ◌∙◌, arith, if◌then◌else◌, codes}
use Rattle.std.specs.Prelude.{replicate}
use Rattle.std.specs.Fmt.{decimal}
use Rattle.std.proofs.lemmas.Bool.{and_parts, ne_eqb}
use Rattle.std.proofs.lemmas.Bool.Decides.{Decides-eqb}
use Rattle.std.proofs.lemmas.List.Elements.{All-head, All-tail}
use Rattle.std.proofs.lemmas.List.Sums.{sum_by-cons}
use Rattle.std.proofs.lemmas.List.Folds.{list_all_at, list_all_more}
use Rattle.std.proofs.lemmas.Option.{slice_get_within, get_or_from_slice_get}
use Rattle.byte_text.proofs.PlainLines.{is_plain, plain_both, decimal_plain}
use Rattle.win_vectors.specs.Vectors.{ones_of}
use Rattle.win_vectors.specs.Weights.{weight_of, IsWeight}
use Rattle.win_vectors.proofs.WeightLemmas.{weight_of-equal}
use Rattle.am_report.specs.declared.version.Version.{Version}
use Rattle.am_report.specs.declared.version.Version.TheVariants.{Counts, Weights}
use Rattle.am_report.specs.Versions.{weigh_alike, version_of, version_number, most_written, may_stand, weight_text}
use Rattle.am_report.specs.ReadBack.{ArePrintableWeights}

sum-cons : (w : ℕ) (ws : List ℕ) → sum (w ∷ ws) ≡ w + sum ws
sum-cons w ws = sum_by-cons (λ x. x) w ws

one_first : (w : ℕ) (ws : List ℕ) → weigh_alike (w ∷ ws) ≡ true → (w ≡ 1) × (weigh_alike ws ≡ true)
one_first w ws alike = let parts = and_parts (w == 1) (weigh_alike ws) alike in ((Decides-eqb w 1).0 parts.0, parts.1)

-- each weight is 1
alike_ones : (ws : List ℕ) → weigh_alike ws ≡ true → ws ≡ replicate (length ws) 1
alike_ones [] alike = refl
alike_ones (w ∷ ws) alike = let parts = one_first w ws alike in ap (λ x. x ∷ ws) parts.0 ∙ ap (λ xs. 1 ∷ xs) (alike_ones ws parts.1)

alike_sum : (ws : List ℕ) → weigh_alike ws ≡ true → sum ws ≡ length ws
alike_sum [] alike = refl
alike_sum (w ∷ ws) alike = let parts = one_first w ws alike in let rest = alike_sum ws parts.1 in let sums = sum-cons w ws in omega arith

weights_sum : (ws : List ℕ) → All IsWeight ws → sum ws ≤ 1000000 * length ws
weights_sum [] each = omega arith
weights_sum (w ∷ ws) each =
    let first = All-head IsWeight w ws each in let rest = weights_sum ws (All-tail IsWeight w ws each) in let sums = sum-cons w ws in omega arith

-- one layout more
pub alike_more : (ws : List ℕ) (place w : ℕ) → slice_get ws place ≡ Some w → w ≡ 1 → weigh_alike (take place ws) ≡ true → weigh_alike (take (place + 1) ws) ≡ true
alike_more ws place w here one so_far =
    let at : get_or ws place 0 ≡ 1 = get_or_from_slice_get ws place w 0 here ∙ one in
    list_all_more (λ x. x == 1) ws place 0 (slice_get_within ws place w here) ∙ rw (so_far, at) refl

-- a layout that doesn't weigh 1
pub apart_at : (ws : List ℕ) (place w : ℕ) → slice_get ws place ≡ Some w → (w ≡ 1 → ⊥) → weigh_alike ws ≡ false
apart_at ws place w here apart =
    list_all_at (λ x. x == 1) ws place 0 (slice_get_within ws place w here) (ap (λ x. x == 1) (get_or_from_slice_get ws place w 0 here) ∙ ne_eqb w 1 apart)

-- all layouts weigh no more than may be written
pub sum_written : (ws : List ℕ) → ArePrintableWeights ws → sum ws ≤ most_written (version_of ws)
sum_written ws are = go (weigh_alike ws) refl
  where
    go : (b : Bool) → weigh_alike ws ≡ b → sum ws ≤ most_written (if b then Counts else Weights)
    go true alike = let sums = alike_sum ws alike in let few = are.few_layouts in omega arith
    go false apart = let sums = weights_sum ws are.each in let few = are.few_layouts in omega arith

-- a vector's weight is a number that may stand behind it
pub weight_stands : (ws : List ℕ) (vector : List Bool) → length vector ≡ length ws → may_stand (version_of ws) vector (weight_of ws vector) ≡ true
weight_stands ws vector wide = go (weigh_alike ws) refl
  where
    go : (b : Bool) → weigh_alike ws ≡ b → may_stand (if b then Counts else Weights) vector (weight_of ws vector) ≡ true
    go true alike =
        let ones : ws ≡ replicate (length vector) 1 = alike_ones ws alike ∙ ap (λ n. replicate n 1) (sym wide) in
        (Decides-eqb (weight_of ws vector) (ones_of vector)).1 (ap (λ xs. weight_of xs vector) ones ∙ weight_of-equal vector)
    go false apart = refl

pub number_plain : (version : Version) → is_plain (version_number version) ≡ true
number_plain Counts = refl
number_plain Weights = refl

pub weight_plain : (version : Version) (weight : ℕ) → is_plain (weight_text version weight) ≡ true
weight_plain Counts weight = plain_both (codes " count ") (decimal weight) refl (decimal_plain weight)
weight_plain Weights weight = plain_both (codes " weight ") (decimal weight) refl (decimal_plain weight)
