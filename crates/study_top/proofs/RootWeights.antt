-- The weights of a root that was read.
use Rattle.std.proofs.Common.{◌≡◌, ◌≤◌, ◌+◌, ◌==◌, ◌&&◌, ℕ, Bool, true, false, cond, Option, None, Some, Result, Ok, Err, List, [], ◌∷◌, filter, take, drop, is_none, nat_le, All, refl, subst, arith}
use Rattle.std.specs.Prelude.{ok_or}
use Rattle.std.specs.Option.{option_map}
use Rattle.std.specs.List.{enumerate_from, position_or_len}
use Rattle.std.specs.Str.Parse.{digits_value}
use Rattle.std.proofs.lemmas.Bool.Decides.{nat_tests}
use Rattle.std.proofs.lemmas.List.Elements.{All-nil, All-cons, All-head, All-tail, All-map, All-filter}
use Rattle.byte_text.specs.Blanks.{after_blanks}
use Rattle.byte_text.specs.Steps.{◌>>=◌}
use Rattle.win_vectors.specs.Weights.{IsWeight}
use Rattle.trick_rules.specs.Positions.{PositionValue}
use Rattle.pbn_deal.specs.declared.board.Played.{Played}
use Rattle.pbn_deal.specs.Boards.{BoardValue}
use Rattle.pbn_deal.specs.BoardRead.{together}
use Rattle.pbn_deal.specs.Deal.{deal_read}
use Rattle.pbn_deal.specs.Sections.{prepend}
use Rattle.layout_list.specs.declared.fault.LayoutFault.{LayoutFault}
use Rattle.layout_list.specs.declared.fault.LayoutFault.TheVariants.{BadWeight, TooMany}
use Rattle.layout_list.specs.declared.line.Weighed.{Weighed}
use Rattle.layout_list.specs.Kept.{KeptValue}
use Rattle.layout_list.specs.Verdicts.{first_position}
use Rattle.layout_list.specs.Lines.{ends_digits, weight_said, begins_blank, weight_of_digits, weight_read, deal_of_line, line_read, lines_read, numbered_lines, layout_lines, most_listed, HaveWeights}
use Rattle.layout_list.specs.Layouts.{verdict, numbers_kept, unless_none, kept_over, kept_of, layouts_read}
use Rattle.am_answer.specs.declared.root.Root.{Root}
use Rattle.am_answer.specs.Answers.{kept_or, kept_in, root_in}
use Rattle.study_top.proofs.RootBoard.{kept_of_root}

some_same : {A : Type 0} (x y : A) → Some x ≡ Some y → x ≡ y
some_same x y h = cc

ok_same : {A E : Type 0} (x y : A) → ◌≡◌ {A = Result A E} (Ok x) (Ok y) → x ≡ y
ok_same x y h = cc

bind_ok : {A B E : Type 0} (r : Result A E) (f : A → Result B E) (y : B) → (r >>= f) ≡ Ok y → (x : A) × (r ≡ Ok x) × (f x ≡ Ok y)
bind_ok (Ok x) f y h = (x, refl, h)
bind_ok (Err e) f y h = absurd cc

there : {A E : Type 0} (o : Option A) (e : E) (x : A) → ok_or o e ≡ Ok x → o ≡ Some x
there None e x h = absurd cc
there (Some y) e x h = cc

-- ---- the weight of a line

if_within : (value weight : ℕ) (low high : Bool) → nat_le 1 value ≡ low → nat_le value 1000000 ≡ high → cond (low && high) (Some value) None ≡ Some weight → IsWeight weight
if_within value weight true true some few is =
    let low : 1 ≤ value = grind (arith, nat_tests) in
    let high : value ≤ 1000000 = grind (arith, nat_tests) in
    subst IsWeight (some_same value weight is) (record { low = low; high = high })
if_within value weight true false some few is = absurd cc
if_within value weight false high some few is = absurd cc

said-weight : (digits : List ℕ) (weight : ℕ) → weight_said digits ≡ Some weight → IsWeight weight
said-weight digits weight =
    let value = digits_value 10 digits in
    if_within value weight (nat_le 1 value) (nat_le value 1000000) refl refl

-- a weight, and what follows it
abbrev Weighs : ℕ × List ℕ → Type 0
Weighs said = IsWeight said.0

with_rest : (weight : Option ℕ) (rest : List ℕ) (said : ℕ × List ℕ) → ((w : ℕ) → weight ≡ Some w → IsWeight w) → option_map (λ w. (w, rest)) weight ≡ Some said → Weighs said
with_rest None rest said is h = absurd cc
with_rest (Some w) rest said is h = subst Weighs (some_same (w, rest) said h) (is w refl)

if_blank : (blank : Bool) (found : Option (ℕ × List ℕ)) (said : ℕ × List ℕ) → (found ≡ Some said → Weighs said) → cond blank found None ≡ Some said → Weighs said
if_blank true found said is h = is h
if_blank false found said is h = absurd cc

digits-weight : (count : ℕ) (text : List ℕ) (said : ℕ × List ℕ) → weight_of_digits count text ≡ Some said → Weighs said
digits-weight count text said =
    if_blank (begins_blank (drop count text)) (option_map (λ w. (w, drop count text)) (weight_said (take count text))) said
    (with_rest (weight_said (take count text)) (drop count text) said (said-weight (take count text)))

if_none : (none : Bool) (line : List ℕ) (found : Option (ℕ × List ℕ)) (said : ℕ × List ℕ) → (found ≡ Some said → Weighs said) → cond none (Some (1, line)) found ≡ Some said → Weighs said
if_none true line found said is h = subst Weighs (some_same (1, line) said h) (record { low = omega arith; high = omega arith })
if_none false line found said is h = is h

read-weight : (line : List ℕ) (said : ℕ × List ℕ) → weight_read line ≡ Some said → Weighs said
unfolding weight_read
read-weight line said =
    let text = after_blanks line in
    let count = position_or_len ends_digits text in
    if_none (count == 0) line (weight_of_digits count text) said (digits-weight count text said)

line-weight : (board : BoardValue) (unseen : Option (List ℕ)) (number : ℕ) (line : List ℕ) (weighed : Weighed) → line_read board unseen number line ≡ Ok weighed → IsWeight weighed.weight
unfolding line_read
line-weight board unseen number line weighed h =
    let (said, is_said, on) = bind_ok (ok_or (weight_read line) (BadWeight number)) _ weighed h in
    let (layout, is_layout, last) = bind_ok (deal_of_line board unseen number (deal_read said.1)) _ weighed on in
    subst (λ (w : Weighed). IsWeight w.weight) (ok_same (record { weight = said.0; layout = layout }) weighed last)
    (read-weight line said (there (weight_read line) (BadWeight number) said is_said))

-- ---- the weights of a file

prepended : (weighed : Weighed) (later : Result (List Weighed) LayoutFault) (layouts : List Weighed) → IsWeight weighed.weight → ((ws : List Weighed) → later ≡ Ok ws → HaveWeights ws)
    → prepend (weighed ∷ []) later ≡ Ok layouts → HaveWeights layouts
prepended weighed (Ok ws) layouts first rest h =
    subst HaveWeights (ok_same (weighed ∷ ws) layouts h) (All-cons (λ (w : Weighed). IsWeight w.weight) weighed ws first (rest ws refl))
prepended weighed (Err fault) layouts first rest h = absurd cc

unless_full : (full : Bool) (fault : LayoutFault) (found : Result (List Weighed) LayoutFault) (layouts : List Weighed) → (found ≡ Ok layouts → HaveWeights layouts)
    → cond full (Err fault) found ≡ Ok layouts → HaveWeights layouts
unless_full true fault found layouts is h = absurd cc
unless_full false fault found layouts is h = is h

lines-weights : (board : BoardValue) (unseen : Option (List ℕ)) (count : ℕ) (lines : List (ℕ × List ℕ)) (layouts : List Weighed) → lines_read board unseen count lines ≡ Ok layouts → HaveWeights layouts
lines-weights board unseen count [] layouts h = subst HaveWeights (ok_same [] layouts h) (All-nil (λ (w : Weighed). IsWeight w.weight))
lines-weights board unseen count (line ∷ lines) layouts h =
    unless_full (count == most_listed) (TooMany line.0) _ layouts
    (λ on.
    let (weighed, is, later) = bind_ok (line_read board unseen line.0 line.1) _ layouts on in
    prepended weighed _ layouts (line-weight board unseen line.0 line.1 weighed is)
    (lines-weights board (Some (together weighed.layout.left weighed.layout.right)) (count + 1) lines) later)
    h

numbered-weights : (number : ℕ) (layouts : List Weighed) → HaveWeights layouts → All (λ (l : ℕ × Weighed). IsWeight l.1.weight) (enumerate_from number layouts)
numbered-weights number [] each = All-nil (λ (l : ℕ × Weighed). IsWeight l.1.weight)
numbered-weights number (weighed ∷ layouts) each =
    All-cons (λ (l : ℕ × Weighed). IsWeight l.1.weight) (number, weighed) (enumerate_from (number + 1) layouts) (All-head (λ (w : Weighed). IsWeight w.weight) weighed layouts each)
    (numbered-weights (number + 1) layouts (All-tail (λ (w : Weighed). IsWeight w.weight) weighed layouts each))

some_kept : (numbers : List ℕ) (all kept : KeptValue) → unless_none numbers all ≡ Ok kept → all ≡ kept
some_kept [] all kept h = absurd cc
some_kept (number ∷ numbers) all kept h = ok_same all kept h

over-weights : (plays : List Played) (t : PositionValue) (layouts : List Weighed) (kept : KeptValue) → HaveWeights layouts → kept_over plays t (enumerate_from 1 layouts) ≡ Ok kept → All IsWeight kept.weights
over-weights plays t layouts kept each h =
    let all = enumerate_from 1 layouts in
    let allowed = λ (l : ℕ × Weighed). is_none (verdict plays t l.1.layout) in
    subst (λ (k : KeptValue). All IsWeight k.weights) (some_kept (numbers_kept plays t all) _ kept h)
    (All-map IsWeight (λ (l : ℕ × Weighed). l.1.weight) (filter allowed all)
    (All-filter allowed (λ (l : ℕ × Weighed). IsWeight l.1.weight) all (numbered-weights 1 layouts each)))

kept-weights : (board : BoardValue) (layouts : List Weighed) (kept : KeptValue) → HaveWeights layouts → kept_of board layouts ≡ Ok kept → All IsWeight kept.weights
kept-weights board [] kept each h = absurd cc
kept-weights board (first ∷ rest) kept each h = over-weights board.plays (first_position board (together first.layout.left first.layout.right)) (first ∷ rest) kept each h

file-weights : (bytes : List ℕ) (board : BoardValue) (kept : KeptValue) → layouts_read bytes board ≡ Ok kept → All IsWeight kept.weights
unfolding layouts_read
file-weights bytes board kept h =
    let (layouts, are, on) = bind_ok (lines_read board board.unseen 0 (layout_lines (numbered_lines bytes))) _ kept h in
    kept-weights board layouts kept (lines-weights board board.unseen 0 (layout_lines (numbered_lines bytes)) layouts are) on

as_read : (found : Result KeptValue LayoutFault) (kept : KeptValue) → kept_or found ≡ Ok kept → found ≡ Ok kept
as_read (Ok k) kept h = cc
as_read (Err fault) kept h = absurd cc

-- each kept layout weighs 1 to 1,000,000
pub weights_of_root : (deal layouts : List ℕ) (root : Root) → root_in deal layouts ≡ Ok root → All IsWeight root.kept.weights
unfolding kept_in
weights_of_root deal layouts root h = file-weights layouts root.board root.kept (as_read (layouts_read layouts root.board) root.kept (kept_of_root deal layouts root h))
