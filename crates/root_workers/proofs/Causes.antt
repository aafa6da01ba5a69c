-- The causes of reports.
use Rattle.std.proofs.Common.{◌≡◌, ◌∙◌, ◌+◌, ◌-◌, ◌≤◌, ℕ, Some, List, [], ◌∷◌, ◌++◌, map, length, take, slice_get, Contains, inl, inr, refl, sym, ap, subst, arith}
use Rattle.std.proofs.lemmas.List.{length-append, length-map, map-append, append_assoc, append-nil}
use Rattle.std.proofs.lemmas.Option.{slice_get_within}
use mathlib.Core.List.{IsPrefix}
use Rattle.trick_rules.specs.Nodes.{NodeValue, choices, child}
use Rattle.strategy_games.proofs.Lists.{Contains-here, Contains-append_first, Contains-append_second}
use Rattle.front_table.specs.Entries.{StoredFrontValue, HasKey, stored_front_of}
use Rattle.front_table.specs.Proven.{ProvenFrontValue, IsFrontAt}
use Rattle.front_table.specs.declared.store.Put.{Put}
use Rattle.front_table.specs.declared.store.Put.TheVariants as put
use Rattle.front_table.specs.declared.store.Put.TheVariants.{Kept, Present}
use Rattle.shared_table.specs.declared.SharedTable.{SharedTable}
use Rattle.shared_table.specs.declared.Pass.{Pass}
use Rattle.shared_table.specs.declared.rule.TablePlan.{TablePlan}
use Rattle.shared_table.specs.declared.rule.TableView.{TableView}
use Rattle.shared_table.specs.Passes.{PutTells, view_of, list_at}
use Rattle.shared_table.specs.Stores.{HasGrownAt}
use Rattle.root_workers.specs.Roots.{AreEnough}
use Rattle.root_workers.specs.Rounds.{HasSeenMore}
use Rattle.root_workers.specs.declared.root.Options.{Options}
use Rattle.root_workers.specs.declared.reports.Stored.{Stored}
use Rattle.root_workers.specs.declared.reports.Stored.TheVariants.{Table, Full, TooWide, Busy, Memory, Off}
use Rattle.root_workers.specs.declared.reports.Outcome.{Outcome}
use Rattle.root_workers.specs.declared.reports.Outcome.TheVariants.{Exact, Below, Skipped}
use Rattle.root_workers.specs.declared.reports.CardReport.{CardReport}
use Rattle.root_workers.specs.Reports.{stored_of, IsStoredAs, HasCause, AreReports, shard_at, course_of}
use Rattle.root_workers.proofs.CardPlaces.{taken_more}
use Rattle.root_workers.proofs.Founds.{get_push}
use Rattle.root_workers.proofs.RootSoFar.{get_seam}

has_key_later : (early late : List StoredFrontValue) (n : NodeValue) (moves : ℕ) → IsPrefix early late → HasKey early n moves → HasKey late n moves
has_key_later early late n moves begins key =
    (key.0, subst (λ (es : List StoredFrontValue). Contains es key.0) begins.1 (Contains-append_first early begins.0 key.0 key.1), key.2)

-- what was so where a pass knew less is so where it knows more
stored_later : (plan : TablePlan) (n : NodeValue) (moves : ℕ) (u v w : TableView) (stored : Stored) → ((i : ℕ) → HasGrownAt i v w) → IsStoredAs plan n moves u v stored → IsStoredAs plan n moves u w stored
stored_later plan n moves u v w Table grown is = let at = grown (shard_at plan n moves) in has_key_later (list_at (shard_at plan n moves) v) (list_at (shard_at plan n moves) w) n moves at.list is
stored_later plan n moves u v w Full grown is =
    let at = grown (shard_at plan n moves) in
    let longer : length (list_at (shard_at plan n moves) v) + length at.list.0 ≡ length (list_at (shard_at plan n moves) w) = sym (length-append (list_at (shard_at plan n moves) v) at.list.0) ∙ ap length at.list.1 in
    omega (arith, is, longer)
stored_later plan n moves u v w TooWide grown is = is
stored_later plan n moves u v w Busy grown is = let at = grown (shard_at plan n moves) in omega (arith, is, at.busy)
stored_later plan n moves u v w Memory grown is = is
stored_later plan n moves u v w Off grown is = is

stored_earlier : (plan : TablePlan) (n : NodeValue) (moves : ℕ) (u v w : TableView) (stored : Stored) → ((i : ℕ) → HasGrownAt i u v) → IsStoredAs plan n moves v w stored → IsStoredAs plan n moves u w stored
stored_earlier plan n moves u v w Table grown is = is
stored_earlier plan n moves u v w Full grown is = is
stored_earlier plan n moves u v w TooWide grown is = is
stored_earlier plan n moves u v w Busy grown is = let at = grown (shard_at plan n moves) in omega (arith, is, at.busy)
stored_earlier plan n moves u v w Memory grown is = is
stored_earlier plan n moves u v w Off grown is = is

-- a put tells where its front stands
stored_by : (plan : TablePlan) (p : ProvenFrontValue) (v w : TableView) (answer : Put) → IsFrontAt p.node p.moves p.front → PutTells plan p v w answer → IsStoredAs plan p.node p.moves v w (stored_of answer)
stored_by plan p v w Kept is tells =
    let leaves = tells.1.2 in
    (stored_front_of p, subst (λ (es : List StoredFrontValue). Contains es (stored_front_of p)) (sym leaves.3) (Contains-append_second tells.1.0 (stored_front_of p ∷ []) (stored_front_of p) (Contains-here (stored_front_of p) [])), record { node = refl; moves = refl })
stored_by plan p v w (Present back) is tells =
    let leaves = tells.1.2 in
    subst (λ (es : List StoredFrontValue). HasKey es p.node p.moves) (sym leaves.2) leaves.1
stored_by plan p v w (put.Full back) is tells =
    let leaves = tells.1.2 in
    subst (λ (es : List StoredFrontValue). plan.room ≤ length es) (sym leaves.3) leaves.2
stored_by plan p v w (put.TooWide back) is tells = (p.front.vectors, is.front, tells.0)
stored_by plan p v w (put.Busy back) is tells = let taken = tells.1.busy in omega (arith, taken)
stored_by plan p v w (put.Memory back) is tells = tt

pub stored_at : (plan : TablePlan) (p : ProvenFrontValue) (n : NodeValue) (moves : ℕ) (v w : TableView) (answer : Put) → p.node ≡ n → p.moves ≡ moves → IsFrontAt p.node p.moves p.front → PutTells plan p v w answer → IsStoredAs plan n moves v w (stored_of answer)
stored_at plan p n moves v w answer node same is tells =
    subst (λ m. IsStoredAs plan n m v w (stored_of answer)) same
    (subst (λ (m : NodeValue). IsStoredAs plan m p.moves v w (stored_of answer)) node (stored_by plan p v w answer is tells))

pub never_off : (answer : Put) → stored_of answer ≡ Off → ⊥
never_off Kept e = let no : Table ≡ Off = e in cc
never_off (Present back) e = let no : Table ≡ Off = e in cc
never_off (put.Full back) e = let no : Full ≡ Off = e in cc
never_off (put.TooWide back) e = let no : TooWide ≡ Off = e in cc
never_off (put.Busy back) e = let no : Busy ≡ Off = e in cc
never_off (put.Memory back) e = let no : Memory ≡ Off = e in cc

module _ (n : NodeValue) (moves : ℕ) (o : Options) (table : SharedTable) where
  pub cause_later : (p q r : Pass) (earlier : List ℕ) (card : ℕ) (outcome : Outcome) → HasSeenMore q r
      → HasCause (course_of n moves o table p q) earlier card outcome → HasCause (course_of n moves o table p r) earlier card outcome
  cause_later p q r earlier card (Exact stored) grown is = (stored_later table.plan (child n card) (moves - 1) (view_of p) (view_of q) (view_of r) stored grown is.0, is.1)
  cause_later p q r earlier card Below grown is = is
  cause_later p q r earlier card Skipped grown is = is

  pub cause_earlier : (p q r : Pass) (earlier : List ℕ) (card : ℕ) (outcome : Outcome) → HasSeenMore p q
      → HasCause (course_of n moves o table q r) earlier card outcome → HasCause (course_of n moves o table p r) earlier card outcome
  cause_earlier p q r earlier card (Exact stored) grown is = (stored_earlier table.plan (child n card) (moves - 1) (view_of p) (view_of q) (view_of r) stored grown is.0, is.1)
  cause_earlier p q r earlier card Below grown is = is
  cause_earlier p q r earlier card Skipped grown is = is

  pub reports_earlier : (p q r : Pass) (reports : List CardReport) → HasSeenMore p q → AreReports (course_of n moves o table q r) reports → AreReports (course_of n moves o table p r) reports
  reports_earlier p q r reports grown are = record {
    cards = are.cards;
    causes = λ place report e. cause_earlier p q r (take place (choices n)) report.card report.outcome grown (are.causes place report e);
  }

  -- the reports of the first cards
  pub record ReportsSoFar (p q : Pass) (cards : List ℕ) (reports : List CardReport) : Type 0 where
    pub split : map (λ (report : CardReport). report.card) reports ++ cards ≡ choices n
    pub causes : (place : ℕ) (report : CardReport) → slice_get reports place ≡ Some report
        → HasCause (course_of n moves o table p q) (take place (choices n)) report.card report.outcome

  pub no_report : (p : Pass) (cards : List ℕ) (reports : List CardReport) → cards ≡ choices n → reports ≡ [] → ReportsSoFar p p cards reports
  no_report p cards reports all none = subst (λ (rs : List CardReport). ReportsSoFar p p cards rs) (sym none)
      (record { split = all; causes = λ place report e. absurd (let within = slice_get_within [] place report e in omega arith) })

  -- the next card
  pub card_next : (p q : Pass) (cards rest : List ℕ) (reports : List CardReport) (card : ℕ) → ReportsSoFar p q cards reports → cards ≡ card ∷ rest → slice_get (choices n) (length reports) ≡ Some card
  card_next p q cards rest reports card so taken =
      let known = map (λ (report : CardReport). report.card) reports in
      let here : known ++ card ∷ rest ≡ choices n = ap (λ cs. known ++ cs) (sym taken) ∙ so.split in
      subst (λ k. slice_get (choices n) k ≡ Some card) (length-map reports (λ (report : CardReport). report.card))
      (subst (λ cs. slice_get cs (length known) ≡ Some card) here (get_seam known card rest))

  pub report_more : (p q r : Pass) (cards rest : List ℕ) (reports now : List CardReport) (report : CardReport) → ReportsSoFar p q cards reports → cards ≡ report.card ∷ rest → HasSeenMore p q → HasSeenMore q r
      → HasCause (course_of n moves o table q r) (take (length reports) (choices n)) report.card report.outcome → now ≡ reports ++ report ∷ [] → ReportsSoFar p r rest now
  report_more p q r cards rest reports now report so taken early late cause pushed =
      let known = map (λ (report : CardReport). report.card) reports in
      let mapped : map (λ (report : CardReport). report.card) now ≡ known ++ report.card ∷ [] = ap (map (λ (report : CardReport). report.card)) pushed ∙ map-append (λ (report : CardReport). report.card) reports (report ∷ []) in record {
        split = ap (λ cs. cs ++ rest) mapped ∙ append_assoc known (report.card ∷ []) rest ∙ ap (λ cs. known ++ cs) (sym taken) ∙ so.split;
        causes = λ place other e. elim (get_push reports report place other (subst (λ (rs : List CardReport). slice_get rs place ≡ Some other) pushed e)) [
          | inl old ↦ cause_later p q r (take place (choices n)) other.card other.outcome late (so.causes place other old)
          | inr (at, is) ↦ subst (λ k. HasCause (course_of n moves o table p r) (take k (choices n)) other.card other.outcome) (sym at)
              (subst (λ (x : CardReport). HasCause (course_of n moves o table p r) (take (length reports) (choices n)) x.card x.outcome) is
              (cause_earlier p q r (take (length reports) (choices n)) report.card report.outcome early cause))
        ];
      }

  pub reports_done : (p q : Pass) (cards : List ℕ) (reports : List CardReport) → cards ≡ [] → ReportsSoFar p q cards reports → AreReports (course_of n moves o table p q) reports
  reports_done p q cards reports none so = record {
    cards = sym (append-nil (map (λ (report : CardReport). report.card) reports)) ∙ ap (λ cs. map (λ (report : CardReport). report.card) reports ++ cs) (sym none) ∙ so.split;
    causes = so.causes;
  }

  -- more cards are enough too
  pub enough_more : (i k : ℕ) → AreEnough n moves (take i (choices n)) → i ≤ k → AreEnough n moves (take k (choices n))
  enough_more i k enough fewer p fits =
      let by = enough p fits in
      (by.0, (by.1.0, taken_more (choices n) i k by.1.0 by.1.1 fewer, by.1.2), by.2)
