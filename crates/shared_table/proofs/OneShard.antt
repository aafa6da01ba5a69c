-- Each kind of step keeps the rule of one shard.
use Rattle.std.proofs.Common.{◌≡◌, ◌≢◌, ℕ, zero, suc, Bool, true, false, true≢false, List, [], ◌∷◌, ◌++◌, set, refl, sym, ap, ◌∙◌, subst, inl, inr, ⊎_elim}
use mathlib.Core.Option.{Option, some, some-injective}
use mathlib.Core.Logic.{dite}
use mathlib.Core.List.{IsPrefix}
use native.Mathlib.Decide.{ℕ_discrete}
use lib.ListN.{get_elem?}
use Rattle.atomic_table.proofs.Lists.{at_set, at_snoc, at_longer, set_else}
use Rattle.shared_table.specs.declared.rule.TablePlan.{TablePlan}
use Rattle.shared_table.specs.declared.rule.SeenShard.{SeenShard}
use Rattle.shared_table.specs.Shard.{IsShard, IsOutside, IsFree, IsTaken, IsOneShard}
use Rattle.shared_table.specs.Shards.{seen}
use Rattle.shared_table.proofs.Prefixes.{E, prefix_none, prefix_self, prefix_more}

not_both : {A : Type 0} (b : Bool) → b ≡ true → b ≡ false → A
not_both b t f = absurd (true≢false (sym t ∙ f))

-- a view that changes is there afterwards
pub set_there : (vs : List SeenShard) (me : ℕ) (v w : SeenShard) → get_elem? vs me ≡ some v → get_elem? (set vs me w) me ≡ some w
set_there [] me v w at = absurd (cc)
set_there (x ∷ xs) zero v w at = refl
set_there (x ∷ xs) (suc me) v w at = set_there xs me v w at

module _ (plan : TablePlan) (i : ℕ) where
  -- a free shard is taken
  pub take_one : (home : Option (Option E)) (vs : List SeenShard) (me got busy : ℕ) (v : SeenShard) → get_elem? vs me ≡ some v → (f : IsFree plan i home vs) → IsTaken plan i (set vs me (seen f.list true got busy))
  take_one home vs me got busy v at f = record {
    by = me;
    holder = seen f.list true got busy;
    at = set_there vs me v (seen f.list true got busy) at;
    inside = refl;
    good = f.good;
    others = λ j u other there. f.each j u (sym (set_else vs me j (seen f.list true got busy) other) ∙ there);
  }

  -- who is inside is the one that took it
  pub is_holder : (word : ℕ) (home : Option (Option E)) (vs : List SeenShard) (me : ℕ) (v : SeenShard) → get_elem? vs me ≡ some v → v.inside ≡ true → IsOneShard plan i word home vs → (word ≡ 1) × ((t : IsTaken plan i vs) × (t.by ≡ me) × (t.holder ≡ v))
  is_holder word home vs me v at inside (inl h) = not_both v.inside inside (h.1.each me v at).0
  is_holder word home vs me v at inside (inr h) =
      let t = h.1 in
      dite (ℕ_discrete me t.by)
      (λ e. (h.0, (t, sym e, some-injective t.holder v (sym t.at ∙ subst (λ k. get_elem? vs k ≡ some v) e at))))
      (λ ne. not_both v.inside inside (t.others me v ne at).0)

  -- a shard that is taken is given back with a list that begins with the one that the holder took
  pub give_one : (word : ℕ) (home back : Option (Option E)) (vs : List SeenShard) (me got busy : ℕ) (v : SeenShard) (list : E) → get_elem? vs me ≡ some v → v.inside ≡ true → back ≡ some (some list) → IsPrefix v.list list → IsShard plan i list
      → IsOneShard plan i word home vs → IsFree plan i back (set vs me (seen list false got busy))
  give_one word home back vs me got busy v list at inside is more good h =
      let t = is_holder word home vs me v at inside h in record {
        list = list;
        home_is = is;
        good = good;
        each = λ j u there.
            ⊎_elim
            (λ (s : (j ≡ me) × (seen list false got busy ≡ u)). subst (IsOutside list) s.1 (refl, prefix_self list, prefix_none list))
            (λ (s : (j ≢ me) × (get_elem? vs j ≡ some u)).
            let o = t.1.0.others j u (λ e. s.0 (e ∙ t.1.1)) s.1 in
            let begins : IsPrefix t.1.0.holder.list list = subst (λ (x : SeenShard). IsPrefix x.list list) (sym t.1.2) more in
            (o.0, prefix_more u.list t.1.0.holder.list list o.1 begins, prefix_more u.also t.1.0.holder.list list o.2 begins))
            (at_set vs me j (seen list false got busy) u there);
      }

  -- a free shard stays free while each pass is outside
  still_free : (home : Option (Option E)) (vs later : List SeenShard) (f : IsFree plan i home vs) → ((j : ℕ) (x : SeenShard) → get_elem? later j ≡ some x → IsOutside f.list x) → IsFree plan i home later
  still_free home vs later f each = record { list = f.list; home_is = f.home_is; good = f.good; each = each }

  -- a pass that is outside changes what it has seen, from what two passes that are outside had seen
  pub change_one : (word : ℕ) (home : Option (Option E)) (vs : List SeenShard) (me other : ℕ) (v u w : SeenShard) → get_elem? vs me ≡ some v → get_elem? vs other ≡ some u → v.inside ≡ false → u.inside ≡ false
      → ((list : E) → IsOutside list v → IsOutside list u → IsOutside list w) → IsOneShard plan i word home vs → IsOneShard plan i word home (set vs me w)
  change_one word home vs me other v u w at there out out' keeps (inl h) =
      let f = h.1 in
      inl (
        h.0,
        still_free home vs (set vs me w) f (λ j x is. ⊎_elim
            (λ (s : (j ≡ me) × (w ≡ x)). subst (IsOutside f.list) s.1 (keeps f.list (f.each me v at) (f.each other u there)))
            (λ (s : (j ≢ me) × (get_elem? vs j ≡ some x)). f.each j x s.1)
            (at_set vs me j w x is)),
      )
  change_one word home vs me other v u w at there out out' keeps (inr h) =
      let t = h.1 in
      let apart : (k : ℕ) (x : SeenShard) → get_elem? vs k ≡ some x → x.inside ≡ false → k ≢ t.by =
      λ k x is false_there e. not_both t.holder.inside t.inside (ap (λ (y : SeenShard). y.inside) (some-injective t.holder x (sym t.at ∙ subst (λ n. get_elem? vs n ≡ some x) e is)) ∙ false_there) in
      inr (
        h.0,
        record {
          by = t.by;
          holder = t.holder;
          at = set_else vs me t.by w (λ e. apart me v at out (sym e)) ∙ t.at;
          inside = t.inside;
          good = t.good;
          others = λ j x other_j is. ⊎_elim
              (λ (s : (j ≡ me) × (w ≡ x)). subst (IsOutside t.holder.list) s.1 (keeps t.holder.list (t.others me v (apart me v at out) at) (t.others other u (apart other u there out') there)))
              (λ (s : (j ≢ me) × (get_elem? vs j ≡ some x)). t.others j x other_j s.1)
              (at_set vs me j w x is);
        },
      )

  -- a new pass is outside, by what one that is outside has seen
  pub push_one : (word : ℕ) (home : Option (Option E)) (vs : List SeenShard) (me : ℕ) (v w : SeenShard) → get_elem? vs me ≡ some v → v.inside ≡ false → ((list : E) → IsOutside list v → IsOutside list w)
      → IsOneShard plan i word home vs → IsOneShard plan i word home (vs ++ w ∷ [])
  push_one word home vs me v w at out keeps (inl h) =
      let f = h.1 in
      inl (
        h.0,
        still_free home vs (vs ++ w ∷ []) f (λ j x is. ⊎_elim
            (λ (s : get_elem? vs j ≡ some x). f.each j x s)
            (λ (s : w ≡ x). subst (IsOutside f.list) s (keeps f.list (f.each me v at)))
            (at_snoc vs w x j is)),
      )
  push_one word home vs me v w at out keeps (inr h) =
      let t = h.1 in
      let apart : me ≢ t.by = λ e. not_both t.holder.inside t.inside (ap (λ (y : SeenShard). y.inside) (some-injective t.holder v (sym t.at ∙ subst (λ n. get_elem? vs n ≡ some v) e at)) ∙ out) in
      inr (
        h.0,
        record {
          by = t.by;
          holder = t.holder;
          at = at_longer vs (w ∷ []) t.by t.holder t.at;
          inside = t.inside;
          good = t.good;
          others = λ j x other_j is. ⊎_elim
              (λ (s : get_elem? vs j ≡ some x). t.others j x other_j s)
              (λ (s : w ≡ x). subst (IsOutside t.holder.list) s (keeps t.holder.list (t.others me v apart at)))
              (at_snoc vs w x j is);
        },
      )

  -- what a pass that is outside has seen begins some list
  pub outside_some : (word : ℕ) (home : Option (Option E)) (vs : List SeenShard) (me : ℕ) (v : SeenShard) → get_elem? vs me ≡ some v → v.inside ≡ false → IsOneShard plan i word home vs → (list : E) × IsOutside list v
  outside_some word home vs me v at out (inl h) = (h.1.list, h.1.each me v at)
  outside_some word home vs me v at out (inr h) =
      let t = h.1 in
      let apart : me ≢ t.by = λ e. not_both t.holder.inside t.inside (ap (λ (y : SeenShard). y.inside) (some-injective t.holder v (sym t.at ∙ subst (λ n. get_elem? vs n ≡ some v) e at)) ∙ out) in
      (t.holder.list, t.others me v apart at)
