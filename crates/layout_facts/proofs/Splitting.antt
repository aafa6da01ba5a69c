-- The first reason of the table of all facts is the first of all reasons.
use Rattle.std.proofs.Common.{◌≡◌, ◌≢◌, ◌∙◌, Bool, true, false, ◌&&◌, ◌||◌, Option, Some, None, MatchOption, List, [], ◌∷◌, ◌++◌, length, map, flat_map, find, get_or, All, refl, ap, ap₂, sym, if◌then◌else◌}
use Rattle.std.specs.Option.{option_or}
use Rattle.std.specs.Cmp.Lexicographic.{pointwise}
use Rattle.std.proofs.Math.Bool.{beq}
use Rattle.std.proofs.lemmas.List.{length-map}
use Rattle.std.proofs.lemmas.List.Elements.{All-map, All-weaker}
use Rattle.std.proofs.lemmas.List.Folds.{find-append}
use Rattle.win_vectors.specs.Fronts.{Vector}
use Rattle.win_vectors.proofs.VectorLemmas.{Decides-same}
use Rattle.trick_rules.specs.Positions.{State}
use Rattle.trick_rules.specs.Nodes.{NodeValue, states}
use Rattle.layout_facts.specs.declared.fact.Fact.{Fact}
use Rattle.layout_facts.specs.declared.judged.Judged.{Judged}
use Rattle.layout_facts.specs.declared.deciding.Joint.{Joint}
use Rattle.layout_facts.specs.declared.deciding.Joint.TheVariants.{And, Or}
use Rattle.layout_facts.specs.declared.deciding.Reason.{Reason}
use Rattle.layout_facts.specs.declared.deciding.Reason.TheVariants.{One, Two}
use Rattle.layout_facts.specs.Facts.{holds_in, facts}
use Rattle.layout_facts.specs.Reasons.{is_so, decides, joined_to, reasons, is_split, what_decides, where_so, judge}
use Rattle.layout_facts.specs.Tables.{joined, first_one, second_of, first_two, first_reason}
use Rattle.layout_facts.proofs.Finding.{passes_or_none}

-- two facts joined are so in the layouts of the two, joined
joined-so : (joint : Joint) (first second : Fact) (ss : List State) → joined joint (map (holds_in first) ss) (map (holds_in second) ss) ≡ map (is_so (Two first joint second)) ss
joined-so And first second [] = refl
joined-so And first second (s ∷ ss) = ap (λ (bits : List Bool). (holds_in first s && holds_in second s) ∷ bits) (joined-so And first second ss)
joined-so Or first second [] = refl
joined-so Or first second (s ∷ ss) = ap (λ (bits : List Bool). (holds_in first s || holds_in second s) ∷ bits) (joined-so Or first second ss)

wide : (n : NodeValue) (fact : Fact) → length (where_so n fact) ≡ length (states n)
wide n fact = length-map (states n) (holds_in fact)

-- all vectors of the table are of one width
pub all_wide : (n : NodeValue) (fs : List Fact) → All (λ (first : Judged). All (λ (second : Judged). length first.vector ≡ length second.vector) (map (judge n) fs)) (map (judge n) fs)
all_wide n fs =
    All-map (λ (first : Judged). All (λ (second : Judged). length first.vector ≡ length second.vector) (map (judge n) fs)) (judge n) fs
    (λ k d low. All-map (λ (second : Judged). length (where_so n (get_or fs k d)) ≡ length second.vector) (judge n) fs
    (λ j e within. wide n (get_or fs k d) ∙ sym (wide n (get_or fs j e))))

module _ (n : NodeValue) (vector : Vector) where
  one-find : (fs : List Fact) → first_one vector (map (judge n) fs) ≡ find (decides n vector) (map (λ fact. One fact) fs)
  one-find [] = refl
  one-find (f ∷ fs) = ap (λ (rest : Option Reason). if pointwise beq (where_so n f) vector then Some (One f) else rest) (one-find fs)

  second-find : (joint : Joint) (first : Fact) (fs : List Fact) → second_of vector joint (judge n first) (map (judge n) fs) ≡ find (decides n vector) (map (λ second. Two first joint second) fs)
  second-find joint first [] = refl
  second-find joint first (f ∷ fs) =
      ap₂ (λ (bits : List Bool) (rest : Option Reason). if pointwise beq bits vector then Some (Two first joint f) else rest) (joined-so joint first f (states n)) (second-find joint first fs)

  two-find : (joint : Joint) (fs : List Fact) → first_two vector joint (map (judge n) facts) (map (judge n) fs) ≡ find (decides n vector) (flat_map (joined_to joint) fs)
  two-find joint [] = refl
  two-find joint (f ∷ fs) =
      ap₂ (λ (a b : Option Reason). option_or a b) (second-find joint f facts) (two-find joint fs)
      ∙ sym (find-append (decides n vector) (joined_to joint f) (flat_map (joined_to joint) fs))

  pub table-find : first_reason vector (map (judge n) facts) ≡ find (decides n vector) reasons
  unfolding reasons
  table-find =
      ap₂ (λ (a b : Option Reason). option_or a b)
      (ap₂ (λ (a b : Option Reason). option_or a b) (one-find facts) (two-find And facts)
      ∙ sym (find-append (decides n vector) (map (λ fact. One fact) facts) (flat_map (joined_to And) facts)))
      (two-find Or facts)
      ∙ sym (find-append (decides n vector) (map (λ fact. One fact) facts ++ flat_map (joined_to And) facts) (flat_map (joined_to Or) facts))

  -- what the table gives at a vector with some of the layouts, and not all
  pub decided_by_table : (found : Option Reason) (table : List Judged) → is_split n vector ≡ true → table ≡ map (judge n) facts → found ≡ first_reason vector table → found ≡ what_decides n vector
  unfolding what_decides
  decided_by_table found table split is first =
      first ∙ ap (first_reason vector) is ∙ table-find ∙ ap (λ b. if b then find (decides n vector) reasons else None) (sym split)

  pub decided_by_none : is_split n vector ≡ false → None ≡ what_decides n vector
  unfolding what_decides
  decided_by_none split = ap (λ b. if b then find (decides n vector) reasons else None) (sym split)

  -- what decides a vector is so in exactly its layouts, and if there is none, no reason is
  pub exact_or_none : MatchOption (what_decides n vector) (is_split n vector ≡ true → All (λ reason. vector ≢ map (is_so reason) (states n)) reasons) (λ reason. vector ≡ map (is_so reason) (states n))
  unfolding what_decides
  exact_or_none = by (is_split n vector) (find (decides n vector) reasons) (passes_or_none (decides n vector) reasons)
    where
      same : (reason : Reason) → decides n vector reason ≡ true → vector ≡ map (is_so reason) (states n)
      same reason passed = sym ((Decides-same (map (is_so reason) (states n)) vector).0 passed)

      differs : (reason : Reason) → decides n vector reason ≡ false → vector ≢ map (is_so reason) (states n)
      differs reason failed is =
          let passed : decides n vector reason ≡ true = (Decides-same (map (is_so reason) (states n)) vector).1 (sym is) in
          cc

      by : (split : Bool) (found : Option Reason) → MatchOption found (All (λ reason. decides n vector reason ≡ false) reasons) (λ reason. decides n vector reason ≡ true)
          → MatchOption (if split then found else None) (split ≡ true → All (λ reason. vector ≢ map (is_so reason) (states n)) reasons) (λ reason. vector ≡ map (is_so reason) (states n))
      by true None none = λ _. All-weaker (λ reason. decides n vector reason ≡ false) (λ reason. vector ≢ map (is_so reason) (states n)) differs reasons none
      by true (Some reason) passed = same reason passed
      by false found whatever = λ not_split. cc
