-- What a look and a put tell.
use Rattle.std.proofs.Common.{◌≡◌, ℕ, ◌+◌, ◌<◌, true, false, [], ◌∷◌, ◌++◌, length, length-set, sym, ap, ◌∙◌, subst, inl, inr, arith, Contains}
use Rattle.std.proofs.lemmas.List.{get_or_push, get_or_append_left, length_push}
use Rattle.std.proofs.lemmas.Bool.{cases_order}
use mathlib.Core.List.{IsPrefix, prefix-append}
use Rattle.front_table.specs.Proven.{ProvenFrontValue}
use Rattle.front_table.specs.declared.store.Put.{Put}
use Rattle.front_table.specs.declared.store.Put.TheVariants.{Kept, Present, Full, TooWide, Busy, Memory}
use Rattle.front_table.specs.Entries.{StoredFrontValue, stored_front_of, HasKey, IsTooWide, PutLeaves}
use Rattle.front_table.proofs.Keeping.{once-push}
use Rattle.shared_table.specs.declared.rule.TablePlan.{TablePlan}
use Rattle.shared_table.specs.declared.rule.SeenShard.{SeenShard}
use Rattle.shared_table.specs.declared.rule.TableView.{TableView}
use Rattle.shared_table.specs.Keys.{shard_of}
use Rattle.shared_table.specs.Shard.{IsShard}
use Rattle.shared_table.specs.Shards.{seen, seen_at, taken, refused, given}
use Rattle.shared_table.specs.Passes.{list_at, got_at, busy_at, GotTurn, FoundTaken, PutTells as TableTells}
use Rattle.shared_table.proofs.Prefixes.{E, prefix_self, prefix_more}
use Rattle.shared_table.proofs.Views.{changed_here, changed_else}

-- the turn was got, and given back with a list that begins with the one that was found
pub got_turn : (plan : TablePlan) (i : ℕ) (v w : TableView) (found left : E) → i < length v.shards → w ≡ given i left (taken i found v) → IsPrefix (list_at i v) found → IsPrefix found left → IsShard plan i left → GotTurn plan i v w
got_turn plan i v w found left inside is begins more good =
    let mid = taken i found v in
    let size = length-set v.shards i (seen found true (got_at i v + 1) (busy_at i v)) in
    let at : seen_at i mid ≡ seen found true (got_at i v + 1) (busy_at i v) = changed_here i _ v inside in
    let last : seen_at i w ≡ seen left false (seen_at i mid).got (seen_at i mid).busy = ap (seen_at i) is ∙ changed_here i _ mid (omega arith) in
    let list : list_at i w ≡ left = ap (λ (s : SeenShard). s.list) last in record {
      begins = subst (IsPrefix (list_at i v)) (sym list) (prefix_more (list_at i v) found left begins more);
      good = subst (IsShard plan i) (sym list) good;
      got = ap (λ (s : SeenShard). s.got) last ∙ ap (λ (s : SeenShard). s.got) at;
      busy = ap (λ (s : SeenShard). s.busy) last ∙ ap (λ (s : SeenShard). s.busy) at;
      others = λ k other. ap (seen_at k) is ∙ (changed_else i k _ mid other ∙ changed_else i k _ v other);
    }

-- the list that the pass has seen then
pub seen_last : (i : ℕ) (v w : TableView) (found left : E) → i < length v.shards → w ≡ given i left (taken i found v) → list_at i w ≡ left
seen_last i v w found left inside is =
    let mid = taken i found v in
    let size = length-set v.shards i (seen found true (got_at i v + 1) (busy_at i v)) in
    ap (λ (x : TableView). list_at i x) is ∙ ap (λ (s : SeenShard). s.list) (changed_here i (seen left false (seen_at i mid).got (seen_at i mid).busy) mid (omega arith))

-- who took the turn is inside
pub inside_taken : (i : ℕ) (v w : TableView) (found : E) → i < length v.shards → w ≡ taken i found v → (seen_at i w).inside ≡ true
inside_taken i v w found inside is = ap (λ (x : TableView). (seen_at i x).inside) is ∙ ap (λ (s : SeenShard). s.inside) (changed_here i (seen found true (got_at i v + 1) (busy_at i v)) v inside)

pub list_taken : (i : ℕ) (v w : TableView) (found : E) → i < length v.shards → w ≡ taken i found v → list_at i w ≡ found
list_taken i v w found inside is = ap (λ (x : TableView). list_at i x) is ∙ ap (λ (s : SeenShard). s.list) (changed_here i (seen found true (got_at i v + 1) (busy_at i v)) v inside)

-- the turn was taken by another
pub found_taken : (i : ℕ) (v w : TableView) → i < length v.shards → w ≡ refused i v → FoundTaken i v w
found_taken i v w inside is =
    let at : seen_at i w ≡ seen (list_at i v) (seen_at i v).inside (got_at i v) (busy_at i v + 1) = ap (seen_at i) is ∙ changed_here i _ v inside in record {
      list = ap (λ (s : SeenShard). s.list) at;
      got = ap (λ (s : SeenShard). s.got) at;
      busy = ap (λ (s : SeenShard). s.busy) at;
      others = λ k other. ap (seen_at k) is ∙ changed_else i k _ v other;
    }

-- an element of a list with one more at its end
end_or_before : (list : E) (e x : StoredFrontValue) → Contains (list ++ e ∷ []) x → (P : StoredFrontValue → Type 0) → ((y : StoredFrontValue) → Contains list y → P y) → P e → P x
end_or_before list e x (k, within, is) P before last =
    let long = length_push list e in
    elim (cases_order k (length list)) [
      | inl there ↦ subst P (sym (get_or_push list e x k (sym there)) ∙ is) last
      | inr (inl below) ↦ before x (k, below, sym (get_or_append_left list (e ∷ []) x k below) ∙ is)
      | inr (inr above) ↦ absurd (omega arith)
    ]

kept_good : (plan : TablePlan) (i : ℕ) (list : E) (e : StoredFrontValue) → IsShard plan i list → shard_of plan.shards e.node e.moves ≡ i → length list < plan.room → (¬ HasKey list e.node e.moves) → IsShard plan i (list ++ e ∷ [])
kept_good plan i list e good here room new = record {
  fits = let long = length_push list e in omega arith;
  here = λ x there. end_or_before list e x there (λ y. shard_of plan.shards y.node y.moves ≡ i) good.here here;
  once = once-push list e good.once new;
}

abbrev Stays : TablePlan → ℕ → E → E → Type 0
Stays plan i list later = IsShard plan i later × IsPrefix list later

stays_same : (plan : TablePlan) (i : ℕ) (list later : E) → IsShard plan i list → later ≡ list → Stays plan i list later
stays_same plan i list later good same = subst (Stays plan i list) (sym same) (good, prefix_self list)

-- a put leaves a list that keeps the rule of its shard and begins with the one that it found
pub put_good : (plan : TablePlan) (i : ℕ) (list later : E) (p : ProvenFrontValue) (answer : Put) → IsShard plan i list → shard_of plan.shards p.node p.moves ≡ i → PutLeaves plan.room list p answer later → Stays plan i list later
put_good plan i list later p Kept good here t = subst (Stays plan i list) (sym t.3) (kept_good plan i list (stored_front_of p) good here t.2 t.1, prefix-append list (stored_front_of p ∷ []))
put_good plan i list later p (Present back) good here t = stays_same plan i list later good t.2
put_good plan i list later p (Full back) good here t = stays_same plan i list later good t.3
put_good plan i list later p (TooWide back) good here t = stays_same plan i list later good t.1
put_good plan i list later p (Busy back) good here t = absurd t
put_good plan i list later p (Memory back) good here t = stays_same plan i list later good t.3

put_told_here : (plan : TablePlan) (p : ProvenFrontValue) (v w : TableView) (list : E) (answer : Put) → let i = shard_of plan.shards p.node p.moves in GotTurn plan i v w × IsPrefix (list_at i v) list × PutLeaves plan.room list p answer (list_at i w)
    → (¬ IsTooWide p) → TableTells plan p v w answer
put_told_here plan p v w list Kept t narrow = (t.0, (list, t.1, t.2))
put_told_here plan p v w list (Present back) t narrow = (t.0, (list, t.1, t.2))
put_told_here plan p v w list (Full back) t narrow = (t.0, (list, t.1, t.2))
put_told_here plan p v w list (TooWide back) t narrow = absurd (narrow t.2.0)
put_told_here plan p v w list (Busy back) t narrow = absurd t.2
put_told_here plan p v w list (Memory back) t narrow = (t.0, (list, t.1, t.2))

-- what was put into the list that was found is what the table tells
pub put_told : (plan : TablePlan) (i : ℕ) (p : ProvenFrontValue) (v w : TableView) (list : E) (answer : Put) → i ≡ shard_of plan.shards p.node p.moves → GotTurn plan i v w → IsPrefix (list_at i v) list → PutLeaves plan.room list p answer (list_at i w)
    → (¬ IsTooWide p) → TableTells plan p v w answer
put_told plan i p v w list answer here got begins put narrow =
    put_told_here plan p v w list answer (subst (λ k. GotTurn plan k v w × IsPrefix (list_at k v) list × PutLeaves plan.room list p answer (list_at k w)) here (got, begins, put)) narrow
