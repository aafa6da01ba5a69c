-- The plans of a report that was read have fewer nodes than the report has bytes, and there are fewer of them.
use Rattle.std.proofs.Common.{◌≡◌, ◌≤◌, ◌<◌, ◌+◌, ℕ, zero, suc, Option, None, Some, option_and_then, Result, Ok, Err, List, [], ◌∷◌, length, take, drop, position, ◌==◌, ok_or, All, refl, subst, ap, arith}
use Rattle.std.specs.Option.{option_map}
use Rattle.std.proofs.lemmas.List.Elements.{All-nil, All-cons}
use Rattle.std.proofs.lemmas.List.Quantifiers.{position-Some}
use Rattle.std.proofs.lemmas.List.{length-drop}
use Rattle.strategy_games.specs.Plans.{Plan}
use Rattle.strategy_games.specs.Misfits.{node_count}
use Rattle.byte_text.specs.Lines.{line_at, said_at}
use Rattle.strategy_tree.specs.PlanRead.{plan_read}
use Rattle.strategy_tree.specs.declared.plan_reader.PlanFault.{PlanFault}
use Rattle.strategy_tree.specs.declared.plan_reader.PlanFault.TheVariants as plan_faults
use Rattle.strategy_check.proofs.ReadSizes.{said_later, read_nodes}
use Rattle.am_report.specs.declared.fault.ReportKind.{ReportKind}
use Rattle.am_report.specs.declared.fault.ReportKind.TheVariants as kinds
use Rattle.am_report.specs.declared.version.Version.{Version}
use Rattle.am_report.specs.Answers.{ReadEntryValue}
use Rattle.am_report.specs.ReportLines.{vector_said, card_said}
use Rattle.am_report.specs.Reading.{ReadReportValue, expected, plan_or_fault, entry_read, entries_read, head_read, end_read, below_read, report_read, version_said}
use Rattle.byte_text.specs.Steps.{◌>>=◌}

bind_ok : {A B : Type 0} (r : Result A (ℕ × ReportKind)) (f : A → Result B (ℕ × ReportKind)) (y : B) → (r >>= f) ≡ Ok y → (x : A) × (r ≡ Ok x) × (f x ≡ Ok y)
bind_ok (Ok x) f y h = (x, refl, h)
bind_ok (Err e) f y h = absurd cc

ok_same : {A : Type 0} (x y : A) → ◌≡◌ {A = Result A (ℕ × ReportKind)} (Ok x) (Ok y) → x ≡ y
ok_same x y h = cc

expected_ok : {A : Type 0} (kind : ReportKind) (bytes : List ℕ) (at : ℕ) (o : Option A) (x : A) → expected kind bytes at o ≡ Ok x → o ≡ Some x
expected_ok kind bytes at None x h = absurd cc
expected_ok kind bytes at (Some y) x h = ap (λ z. Some z) (ok_same y x h)

plan_ok : (bytes : List ℕ) (r : Result (Plan ℕ × ℕ) PlanFault) (x : Plan ℕ × ℕ) → plan_or_fault bytes r ≡ Ok x → r ≡ Ok x
plan_ok bytes (Ok y) x h = ap (λ z. Ok z) (ok_same y x h)
plan_ok bytes (Err (plan_faults.Line at)) x h = absurd cc
plan_ok bytes (Err (plan_faults.Deep at)) x h = absurd cc
plan_ok bytes (Err plan_faults.Memory) x h = absurd cc

-- a vector with its plan ends after it began, by more bytes than the plan has nodes
entry_sizes : (version : Version) (bytes : List ℕ) (at : ℕ) (x : ReadEntryValue × ℕ) → entry_read version bytes at ≡ Ok x → (at + 1 ≤ x.1) × (node_count x.0.entry.plan ≤ x.1)
unfolding entry_read
entry_sizes version bytes at x h =
    let (said, is_said, on) = bind_ok (expected kinds.Vector bytes at (said_at (vector_said version) bytes at)) _ x h in
    let (plan, is_plan, last) = bind_ok (plan_or_fault bytes (plan_read bytes said.1)) _ x on in
    let later = said_later (vector_said version) bytes at said (expected_ok kinds.Vector bytes at (said_at (vector_said version) bytes at) said is_said) in
    let nodes = read_nodes bytes said.1 plan.1 plan.0 (plan_ok bytes (plan_read bytes said.1) plan is_plan) in
    subst (λ (y : ReadEntryValue × ℕ). (at + 1 ≤ y.1) × (node_count y.0.entry.plan ≤ y.1)) (ok_same (record { entry = record { vector = said.0.0; plan = plan.0 }; weight = said.0.1 }, plan.1) x last)
    (omega (arith, later, nodes), omega (arith, later, nodes))

-- this many of them
entries_sizes : (version : Version) (count : ℕ) (bytes : List ℕ) (at : ℕ) (x : List ReadEntryValue × ℕ) → entries_read version count bytes at ≡ Ok x → (at + length x.0 ≤ x.1) × All (λ e. node_count e.entry.plan ≤ x.1) x.0
entries_sizes version zero bytes at x h = subst (λ (y : List ReadEntryValue × ℕ). (at + length y.0 ≤ y.1) × All (λ e. node_count e.entry.plan ≤ y.1) y.0) (ok_same ([], at) x h) (omega arith, All-nil (λ e. node_count e.entry.plan ≤ at))
entries_sizes version (suc count) bytes at x h =
    let (entry, is_entry, on) = bind_ok (entry_read version bytes at) _ x h in
    let (later, are_later, last) = bind_ok (entries_read version count bytes entry.1) _ x on in
    let first = entry_sizes version bytes at entry is_entry in
    let rest = entries_sizes version count bytes entry.1 later are_later in
    subst (λ (y : List ReadEntryValue × ℕ). (at + length y.0 ≤ y.1) × All (λ e. node_count e.entry.plan ≤ y.1) y.0) (ok_same (entry.0 ∷ later.0, later.1) x last)
    (omega (arith, first.0, rest.0), All-cons (λ e. node_count e.entry.plan ≤ later.1) entry.0 later.0 (omega (arith, first.1, rest.0)) rest.1)

-- what is below a number is below a greater one
pub All-below : {X : Type 0} (size : X → ℕ) (less most : ℕ) → less ≤ most → (xs : List X) → All (λ x. size x < less) xs → All (λ x. size x < most) xs
All-below size less most within xs small = λ k d inside. let one = small k d inside in omega (arith, one, within)

-- a line that is said begins inside the text
line_inside : (bytes : List ℕ) (at : ℕ) (line : List ℕ) → line_at bytes at ≡ Some line → at < length bytes
unfolding line_at
line_inside bytes at line h = from_end (position (λ b. b == 10) (drop at bytes)) refl h
  where
    from_end : (o : Option ℕ) → position (λ b. b == 10) (drop at bytes) ≡ o → option_map (λ n. take n (drop at bytes)) o ≡ Some line → at < length bytes
    from_end None is h = absurd cc
    from_end (Some n) is h = let end = position-Some (λ b. b == 10) (drop at bytes) n 0 is in omega (arith, end.0, length-drop at bytes)

said_inside : {A : Type 0} (says : List ℕ → Option A) (bytes : List ℕ) (at : ℕ) (x : A × ℕ) → said_at says bytes at ≡ Some x → at < length bytes
said_inside {A} says bytes at x h = from_line (line_at bytes at) refl h
  where
    from_line : (o : Option (List ℕ)) → line_at bytes at ≡ o → option_and_then (λ line. option_map (λ said. (said, at + length line + 1)) (says line)) o ≡ Some x → at < length bytes
    from_line None is h = absurd cc
    from_line (Some line) is h = line_inside bytes at line is

below_sizes : (version : Version) (bytes : List ℕ) (report : ReadReportValue) → below_read version bytes ≡ Ok report → (length report.entries < length bytes) × All (λ e. node_count e.entry.plan < length bytes) report.entries
unfolding below_read
below_sizes version bytes report h =
    let (head, is_head, on) = bind_ok (head_read bytes) _ report h in
    let (front, is_front, further) = bind_ok (entries_read version head.vectors bytes head.next) _ report on in
    let (said, is_said, more) = bind_ok (expected kinds.Card bytes front.1 (said_at (card_said version) bytes front.1)) _ report further in
    let (ended, is_end, last) = bind_ok (end_read bytes said.1) _ report more in
    let sizes = entries_sizes version head.vectors bytes head.next front is_front in
    let inside = said_inside (card_said version) bytes front.1 said (expected_ok kinds.Card bytes front.1 (said_at (card_said version) bytes front.1) said is_said) in
    let entries : front.0 ≡ report.entries = ap (λ (r : ReadReportValue). r.entries) (ok_same _ report last) in
    subst (λ (es : List ReadEntryValue). (length es < length bytes) × All (λ e. node_count e.entry.plan < length bytes) es) entries
    (omega (arith, sizes.0, inside), (λ k d within. let few = sizes.1 k d within in omega (arith, few, inside)))

pub report_sizes : (bytes : List ℕ) (report : ReadReportValue) → report_read bytes ≡ Ok report → (length report.entries < length bytes) × All (λ e. node_count e.entry.plan < length bytes) report.entries
unfolding report_read
report_sizes bytes report h =
    let (version, is_version, on) = bind_ok (ok_or (version_said bytes) (1, kinds.Version)) (λ version. below_read version bytes) report h in
    below_sizes version bytes report on
