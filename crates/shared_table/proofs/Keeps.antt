-- Each kind of step keeps the rule of the table.
use Rattle.std.proofs.Common.{◌≡◌, ◌≢◌, ℕ, ◌+◌, ◌<◌, ◌==◌, true, false, List, [], ◌∷◌, ◌++◌, map, length, length-set, set, get_or-set_same, get_or-set_other, refl, sym, ap, ◌∙◌, subst, inl, inr, ⊎_elim, arith}
use Rattle.std.specs.Prelude.{slice_index}
use mathlib.Core.Option.{Option, none, some}
use mathlib.Core.Logic.{dite}
use mathlib.Core.List.{IsPrefix, map-append}
use native.Mathlib.Decide.{ℕ_discrete}
use lib.ListN.{get_elem?}
use lib.Seq.{set-get_or, map-set}
use prog.Atomic.{either}
use Rattle.atomic_table.specs.Table.{Act, keeps, takes, gives, step, stepped, Allows, Splits, Joins, Valid, carried_after, homes_after}
use Rattle.atomic_table.proofs.Lists.{at_set, at_map, set_again, set_here, set_else, exchanged}
use Rattle.shared_table.specs.declared.rule.TablePlan.{TablePlan}
use Rattle.shared_table.specs.declared.rule.SeenShard.{SeenShard}
use Rattle.shared_table.specs.declared.rule.TableView.{TableView}
use Rattle.shared_table.specs.Shard.{IsShard, IsOutside, IsFree, IsTaken, IsOneShard}
use Rattle.shared_table.specs.Shards.{seen, unseen, seen_at, Table, IsSharded, taken, refused, given, newcomer, new_shard, both, settled_view, spent, Sat, took, held, gave, settles, IsOut}
use Rattle.shared_table.proofs.Prefixes.{E, prefix_none, prefix_longer}
use Rattle.shared_table.proofs.OneShard.{take_one, give_one, change_one, push_one, outside_some}
use Rattle.shared_table.proofs.Views.{changed_here, changed_else, seen_newcomer, seen_settled, seen_both}

-- what the views know of a shard, after a change of one view
seen_set : (k : ℕ) (views : List TableView) (id : ℕ) (w : TableView) → map (seen_at k) (set views id w) ≡ set (map (seen_at k) views) id (seen_at k w)
seen_set k views id w = map-set (seen_at k) views id w

-- a shard of which the view knows what it knew keeps its rule
same_shard : (plan : TablePlan) (s : Table) (k id : ℕ) (v w : TableView) (word : ℕ) (home : Option (Option E)) → get_elem? s.views id ≡ some v → seen_at k w ≡ seen_at k v
    → IsOneShard plan k word home (map (seen_at k) s.views) → IsOneShard plan k word home (map (seen_at k) (set s.views id w))
same_shard plan s k id v w word home at same h =
    subst (IsOneShard plan k word home)
    (sym (seen_set k s.views id w ∙ ap (set (map (seen_at k) s.views) id) same ∙ set_again (map (seen_at k) s.views) id (seen_at k v) (at_map (seen_at k) s.views id v at)))
    h

-- a step on the word of the shard i, by which the word becomes n and the slots homes
touched : (plan : TablePlan) (s : Table) → IsSharded plan s → (i n id : ℕ) (v w : TableView) (homes : List (Option E)) → get_elem? s.views id ≡ some v → ((k : ℕ) → k ≢ i → seen_at k w ≡ seen_at k v)
    → length homes ≡ length s.homes → ((k : ℕ) → k ≢ i → get_elem? homes k ≡ get_elem? s.homes k)
    → (i < plan.shards → IsOneShard plan i n (get_elem? homes i) (set (map (seen_at i) s.views) id (seen_at i w)))
    → IsSharded plan (record { words = set s.words i n; homes = homes; views = set s.views id w })
touched plan s h i n id v w homes at others size others_home here = record {
  words = length-set s.words i n ∙ h.words;
  slots = size ∙ h.slots;
  each = λ k inside. dite (ℕ_discrete k i)
      (λ e.
      let one = here (subst (λ z. z < plan.shards) e inside) in
      let wide = h.words in
      let lies : i < length s.words = omega (arith, e) in
      let word : slice_index (set s.words i n) i ≡ n = get_or-set_same s.words i n 0 lies in
      subst (λ z. IsOneShard plan z (slice_index (set s.words i n) z) (get_elem? homes z) (map (seen_at z) (set s.views id w))) (sym e)
      (subst (λ z. IsOneShard plan i z (get_elem? homes i) (map (seen_at i) (set s.views id w))) (sym word)
      (subst (IsOneShard plan i n (get_elem? homes i)) (sym (seen_set i s.views id w)) one)))
      (λ ne.
      let word : slice_index (set s.words i n) k ≡ slice_index s.words k = get_or-set_other s.words i k n 0 ne in
      subst (λ z. IsOneShard plan k z (get_elem? homes k) (map (seen_at k) (set s.views id w))) (sym word)
      (subst (λ z. IsOneShard plan k (slice_index s.words k) z (map (seen_at k) (set s.views id w))) (sym (others_home k ne))
      (same_shard plan s k id v w (slice_index s.words k) (get_elem? s.homes k) at (others k ne) (h.each k inside))));
}

-- a shard with the word 0 is free
is_free : (plan : TablePlan) (k word : ℕ) (home : Option (Option E)) (views : List SeenShard) → word ≡ 0 → IsOneShard plan k word home views → IsFree plan k home views
is_free plan k word home views zero_word (inl h) = h.1
is_free plan k word home views zero_word (inr h) = absurd (let e = h.0 in omega arith)

pub takes_turn : (plan : TablePlan) (slots id i : ℕ) (m : Sat) → i < plan.shards → m.0.plan ≡ plan → length m.0.shards ≡ plan.shards → (seen_at i m.0).inside ≡ false
    → Allows (IsSharded plan) slots id m i (λ n. either (n == 0) 1 n) (took (step slots i 0 1 none) m)
takes_turn plan slots id i m inside of_plan all out s h homes at fits =
    let word = slice_index s.words i in
    let one = h.each i inside in
    let lies : i < length m.0.shards = omega arith in
    let mine = at_map (seen_at i) s.views id m.0 at in
    exchanged word 0 1 (λ x. (w : TableView) × (a : Act E) × Valid s.homes m.1 a × IsSharded plan (stepped s i x id m.1 w a) × took (step slots i 0 1 none) m word (w, carried_after m.1 a))
    (λ free.
    let f = is_free plan i word (get_elem? s.homes i) (map (seen_at i) s.views) free one in
    let w = taken i f.list m.0 in
    let now = changed_here i (seen f.list true ((seen_at i m.0).got + 1) (seen_at i m.0).busy) m.0 lies in (
      w,
      takes i f.list,
      f.home_is,
      touched plan s h i 1 id m.0 w (set s.homes i none) at (λ k ne. changed_else i k _ m.0 ne) (length-set s.homes i none) (λ k ne. set_else s.homes i k none ne)
          (λ _. inr (
            refl,
            subst (λ x. IsTaken plan i (set (map (seen_at i) s.views) id x)) (sym now)
                (take_one plan i (get_elem? s.homes i) (map (seen_at i) s.views) id ((seen_at i m.0).got + 1) (seen_at i m.0).busy (seen_at i m.0) mine f),
          )),
      ((λ _. (f.list, (refl, refl, (f.each id (seen_at i m.0) mine).1, subst (λ z. IsShard z i f.list) (sym of_plan) f.good))), (λ ne. absurd (ne free))),
    ))
    (λ busy.
    let w = refused i m.0 in
    let now = changed_here i (seen (seen_at i m.0).list (seen_at i m.0).inside (seen_at i m.0).got ((seen_at i m.0).busy + 1)) m.0 lies in (
      w,
      keeps,
      tt,
      touched plan s h i word id m.0 w s.homes at (λ k ne. changed_else i k _ m.0 ne) refl (λ k ne. refl)
          (λ _. subst (λ x. IsOneShard plan i word (get_elem? s.homes i) (set (map (seen_at i) s.views) id x)) (sym now)
          (change_one plan i word (get_elem? s.homes i) (map (seen_at i) s.views) id id (seen_at i m.0) (seen_at i m.0) _ mine mine out out
          (λ list o _. (o.0, o.1, prefix_none list)) one)),
      ((λ e. absurd (busy e)), (λ _. (refl, refl))),
    ))

pub gives_turn : (plan : TablePlan) (slots id i : ℕ) (m : Sat) (list : E) → i < plan.shards → length m.0.shards ≡ plan.shards → m.1 ≡ (i, list) ∷ [] → (seen_at i m.0).inside ≡ true
    → IsPrefix (seen_at i m.0).list list → IsShard plan i list → Allows (IsSharded plan) slots id m i (λ _. 0) (λ _. gave (step slots i 0 0 none) m)
gives_turn plan slots id i m list inside all holds inside_there more good s h homes at fits =
    let one = h.each i inside in
    let size = h.slots in
    let lies : i < length m.0.shards = omega arith in
    let there : i < length s.homes = omega arith in
    let mine = at_map (seen_at i) s.views id m.0 at in
    let w = given i list m.0 in
    let now = changed_here i (seen list false (seen_at i m.0).got (seen_at i m.0).busy) m.0 lies in
    let after : List (Option E) = set s.homes i (some list) in
    let same : homes_after s.homes m.1 gives ≡ after = ap (λ (c : List (ℕ × E)). homes_after s.homes c gives) holds in (
      w,
      gives,
      tt,
      subst (λ z. IsSharded plan (record { words = set s.words i 0; homes = z; views = set s.views id w })) (sym same)
          (touched plan s h i 0 id m.0 w after at (λ k ne. changed_else i k _ m.0 ne) (length-set s.homes i (some list)) (λ k ne. set_else s.homes i k (some list) ne)
          (λ _. inl (
            refl,
            subst (λ x. IsFree plan i (get_elem? after i) (set (map (seen_at i) s.views) id x)) (sym now)
                (give_one plan i (slice_index s.words i) (get_elem? s.homes i) (get_elem? after i) (map (seen_at i) s.views) id (seen_at i m.0).got (seen_at i m.0).busy (seen_at i m.0) list mine inside_there
                (set_here s.homes i (some list) there) more good one),
          ))),
      (refl, ap (λ (c : List (ℕ × E)). given i (held c) m.0) (sym holds)),
    )

-- one view changes and no word, where what each shard is known of stays in order
viewed : (plan : TablePlan) (s : Table) → IsSharded plan s → (views : List TableView)
    → ((k : ℕ) → k < plan.shards → IsOneShard plan k (slice_index s.words k) (get_elem? s.homes k) (map (seen_at k) s.views) → IsOneShard plan k (slice_index s.words k) (get_elem? s.homes k) (map (seen_at k) views))
    → IsSharded plan (record { words = s.words; homes = s.homes; views = views })
viewed plan s h views each = record { words = h.words; slots = h.slots; each = λ k inside. each k inside (h.each k inside) }

pub splits : (plan : TablePlan) (id : ℕ) (v : TableView) → IsOut v → Splits (IsSharded plan) id v v (newcomer v)
splits plan id v out s h at =
    viewed plan s h (set s.views id v ++ newcomer v ∷ [])
    (λ k inside one.
    let all : map (seen_at k) (set s.views id v ++ newcomer v ∷ []) ≡ map (seen_at k) s.views ++ new_shard (seen_at k v) ∷ [] =
    map-append (seen_at k) (set s.views id v) (newcomer v ∷ [])
    ∙ (ap (λ (l : List TableView). map (seen_at k) l ++ seen_at k (newcomer v) ∷ []) (set_again s.views id v at)
    ∙ ap (λ x. map (seen_at k) s.views ++ x ∷ []) (seen_newcomer k v)) in
    subst (IsOneShard plan k (slice_index s.words k) (get_elem? s.homes k)) (sym all)
    (push_one plan k (slice_index s.words k) (get_elem? s.homes k) (map (seen_at k) s.views) id (seen_at k v) (new_shard (seen_at k v)) (at_map (seen_at k) s.views id v at) (out k).0
    (λ list o. (refl, o.1, prefix_none list)) one))

pub joins : (plan : TablePlan) (id other : ℕ) (v w : TableView) → IsOut v → IsOut w → length v.shards ≡ length w.shards → Joins (IsSharded plan) id v other w (both v w) spent
joins plan id other v w out out' sizes s h at apart there =
    let theirs : get_elem? s.views other ≡ some w = ⊎_elim (λ (t : (other ≡ id) × (both v w ≡ w)). absurd (apart t.0)) (λ (t : (other ≢ id) × (get_elem? s.views other ≡ some w)). t.1) (at_set s.views id other (both v w) w there) in
    viewed plan s h (set (set s.views id (both v w)) other spent)
    (λ k inside one.
    let views = map (seen_at k) s.views in
    let first : IsOneShard plan k (slice_index s.words k) (get_elem? s.homes k) (set views id (seen_at k (both v w))) =
    change_one plan k (slice_index s.words k) (get_elem? s.homes k) views id other (seen_at k v) (seen_at k w) (seen_at k (both v w)) (at_map (seen_at k) s.views id v at) (at_map (seen_at k) s.views other w theirs) (out k).0 (out' k).0
    (λ list o p. subst (IsOutside list) (sym (seen_both k v w sizes)) (o.0, o.1, p.1)) one in
    let second : get_elem? (set views id (seen_at k (both v w))) other ≡ some (seen_at k w) = set_else views id other (seen_at k (both v w)) apart ∙ at_map (seen_at k) s.views other w theirs in
    let all : map (seen_at k) (set (set s.views id (both v w)) other spent) ≡ set (set views id (seen_at k (both v w))) other unseen =
    seen_set k (set s.views id (both v w)) other spent ∙ ap (λ (l : List SeenShard). set l other unseen) (seen_set k s.views id (both v w)) in
    subst (IsOneShard plan k (slice_index s.words k) (get_elem? s.homes k)) (sym all)
    (change_one plan k (slice_index s.words k) (get_elem? s.homes k) (set views id (seen_at k (both v w))) other other (seen_at k w) (seen_at k w) unseen second second (out' k).0 (out' k).0
    (λ list _ _. (refl, prefix_none list, prefix_none list)) first))

pub settles_all : (plan : TablePlan) (slots id i : ℕ) (m : Sat) → m.0.plan ≡ plan → ((k : ℕ) → (seen_at k m.0).inside ≡ false) → Allows (IsSharded plan) slots id m i (λ n. n) (λ _. settles m)
settles_all plan slots id i m of_plan out s h homes at fits =
    let w = settled_view m.0 in
    let mine : (k : ℕ) → get_elem? (map (seen_at k) s.views) id ≡ some (seen_at k m.0) = λ k. at_map (seen_at k) s.views id m.0 at in (
      w,
      keeps,
      tt,
      subst (λ (l : List ℕ). IsSharded plan (record { words = l; homes = s.homes; views = set s.views id w })) (sym (set-get_or s.words i 0))
          (viewed plan s h (set s.views id w)
          (λ k inside one.
          subst (IsOneShard plan k (slice_index s.words k) (get_elem? s.homes k)) (sym (seen_set k s.views id w))
          (change_one plan k (slice_index s.words k) (get_elem? s.homes k) (map (seen_at k) s.views) id id (seen_at k m.0) (seen_at k m.0) (seen_at k w) (mine k) (mine k) (out k) (out k)
          (λ list o _. subst (IsOutside list) (sym (seen_settled k m.0)) (o.0, (prefix_longer (seen_at k m.0).list (seen_at k m.0).also list o.1 o.2).2, prefix_none list)) one))),
      (
        refl,
        refl,
        λ k inside.
            let o = outside_some plan k (slice_index s.words k) (get_elem? s.homes k) (map (seen_at k) s.views) id (seen_at k m.0) (mine k) (out k) (h.each k (subst (λ (z : TablePlan). k < z.shards) of_plan inside)) in
            let p = prefix_longer (seen_at k m.0).list (seen_at k m.0).also o.0 o.1.1 o.1.2 in
            (p.0, p.1),
      ),
    )
