-- What passes know after they parted or joined.
use Rattle.std.proofs.Common.{◌≡◌, ◌⊎◌, ℕ, ◌<◌, ◌≤◌, arith, Bool, true, false, [], length, ltb, cond, refl, sym, ap, ◌∙◌, subst, inl, inr}
use Rattle.std.proofs.lemmas.List.{length-map}
use Rattle.std.proofs.Math.ListN.{get_or-eq_default}
use mathlib.Core.Logic.{dite}
use native.Mathlib.Decide.{dec_le}
use mathlib.Core.List.{IsPrefix}
use Rattle.atomic_table.specs.Seated.{TableId}
use Rattle.atomic_table.specs.declared.shared.Seat.{Seat}
use Rattle.shared_table.specs.declared.rule.TablePlan.{TablePlan}
use Rattle.shared_table.specs.declared.rule.SeenShard.{SeenShard}
use Rattle.shared_table.specs.declared.rule.TableView.{TableView}
use Rattle.shared_table.specs.Shards.{seen_at, first_view, unseen, newcomer, new_shard, both, paired, settled, settled_view, settles, IsOut, Sat}
use Rattle.shared_table.specs.Passes.{IsOutAt, list_at, got_at, busy_at, IsNew, HasParted, HasJoined}
use Rattle.shared_table.proofs.Prefixes.{E, prefix_none}
use Rattle.shared_table.proofs.Views.{length-paired, seen_first, seen_newcomer, seen_settled, seen_both}

-- a seat with a view that is inside no shard
pub seat_out : (id : TableId) (plan : TablePlan) (s : Seat E TableView) (v : TableView) → s.table_id ≡ id → s.me ≡ (v, []) → v.plan ≡ plan → length v.shards ≡ plan.shards → IsOut v → IsOutAt id plan s
seat_out id plan s v at me plan_is all out = record {
  seat = record { table = at; plan_is = ap (λ (m : Sat). m.0.plan) me ∙ plan_is; all = ap (λ (m : Sat). length m.0.shards) me ∙ all };
  out = subst (λ (m : Sat). IsOut m.0) (sym me) out;
  empty = ap (λ (m : Sat). m.1) me;
}

pub newcomer_out : (v : TableView) → IsOut (newcomer v)
newcomer_out v i = (ap (λ (s : SeenShard). s.inside) (seen_newcomer i v), ap (λ (s : SeenShard). s.also) (seen_newcomer i v))

pub length-newcomer : (v : TableView) → length (newcomer v).shards ≡ length v.shards
length-newcomer v = length-map v.shards new_shard

pub has_parted : (v w new : TableView) → w ≡ v → new ≡ newcomer v → HasParted v w new
has_parted v w new same is = record {
  same = same;
  lists = λ i. ap (λ (x : TableView). list_at i x) is ∙ ap (λ (s : SeenShard). s.list) (seen_newcomer i v);
  counts = λ i. (ap (λ (x : TableView). got_at i x) is ∙ ap (λ (s : SeenShard). s.got) (seen_newcomer i v), ap (λ (x : TableView). busy_at i x) is ∙ ap (λ (s : SeenShard). s.busy) (seen_newcomer i v));
}

pub first_out : (plan : TablePlan) → IsOut (first_view plan)
first_out plan i = (ap (λ (s : SeenShard). s.inside) (seen_first i plan), ap (λ (s : SeenShard). s.also) (seen_first i plan))

pub first_new : (plan : TablePlan) → IsNew (first_view plan)
first_new plan i = (ap (λ (s : SeenShard). s.list) (seen_first i plan), ap (λ (s : SeenShard). s.got) (seen_first i plan), ap (λ (s : SeenShard). s.busy) (seen_first i plan))

-- what is known of a shard after a join
pub seen_joined : (i : ℕ) (v w : TableView) → length v.shards ≡ length w.shards → seen_at i (settled_view (both v w)) ≡ settled (paired (seen_at i v) (seen_at i w))
seen_joined i v w e = seen_settled i (both v w) ∙ ap settled (seen_both i v w e)

pub length-joined : (v w : TableView) → length (settled_view (both v w)).shards ≡ length v.shards
length-joined v w = length-map (both v w).shards settled ∙ length-paired v.shards w.shards

both_inside : (i : ℕ) (v w : TableView) → length v.shards ≡ length w.shards → IsOut v → (seen_at i (both v w)).inside ≡ false
both_inside i v w e out = ap (λ (s : SeenShard). s.inside) (seen_both i v w e) ∙ (out i).0

pub both_out : (v w : TableView) → length v.shards ≡ length w.shards → IsOut v → (i : ℕ) → (seen_at i (both v w)).inside ≡ false
both_out v w e out i = both_inside i v w e out

pub joined_out : (v w : TableView) → length v.shards ≡ length w.shards → IsOut v → IsOut (settled_view (both v w))
joined_out v w e out i = (ap (λ (s : SeenShard). s.inside) (seen_joined i v w e) ∙ (out i).0, ap (λ (s : SeenShard). s.also) (seen_joined i v w e))

one_of_two : (b : Bool) (xs ys : E) → (cond b ys xs ≡ xs) ⊎ (cond b ys xs ≡ ys)
one_of_two true xs ys = inr refl
one_of_two false xs ys = inl refl

-- beyond the shards nothing is known
beyond : (i : ℕ) (plan : TablePlan) (v : TableView) → length v.shards ≡ plan.shards → plan.shards ≤ i → list_at i v ≡ []
beyond i plan v all after = ap (λ (s : SeenShard). s.list) (get_or-eq_default v.shards unseen (omega arith))

-- where what two passes had seen begins what is seen in each shard, it does so everywhere
begins_all : (plan : TablePlan) (v w : TableView) → length v.shards ≡ plan.shards → ((i : ℕ) → i < plan.shards → IsPrefix (list_at i v) (list_at i w)) → (i : ℕ) → IsPrefix (list_at i v) (list_at i w)
begins_all plan v w all inside i = dite (dec_le plan.shards i)
    (λ after. subst (λ (l : E). IsPrefix l (list_at i w)) (sym (beyond i plan v all after)) (prefix_none (list_at i w)))
    (λ before. inside i (omega arith))

pub has_joined : (plan : TablePlan) (v other : TableView) (m k : Sat) (w : TableView) → length v.shards ≡ plan.shards → length other.shards ≡ plan.shards → v.plan ≡ plan → m.0 ≡ both v other → settles m k → w ≡ k.0 → HasJoined v other w
has_joined plan v other m k w all all' plan_is is tells out =
    let e = all ∙ sym all' in
    let now : w ≡ settled_view (both v other) = out ∙ (tells.1 ∙ ap settled_view is) in
    let at : (i : ℕ) → seen_at i w ≡ settled (paired (seen_at i v) (seen_at i other)) = λ i. ap (seen_at i) now ∙ seen_joined i v other e in
    let paired_at : (i : ℕ) → seen_at i m.0 ≡ paired (seen_at i v) (seen_at i other) = λ i. ap (seen_at i) is ∙ seen_both i v other e in
    let inside : (i : ℕ) → i < plan.shards → i < m.0.plan.shards = λ i h. subst (λ (z : TablePlan). i < z.shards) (sym (ap (λ (x : TableView). x.plan) is ∙ plan_is)) h in
    let both_begin : (i : ℕ) → i < plan.shards → IsPrefix (list_at i v) (list_at i w) × IsPrefix (list_at i other) (list_at i w) =
    λ i h. subst (λ (z : SeenShard). IsPrefix (list_at i v) z.list × IsPrefix (list_at i other) z.list) (sym (at i))
    (subst (λ (z : SeenShard). IsPrefix z.list (settled z).list × IsPrefix z.also (settled z).list) (paired_at i) (tells.2 i (inside i h))) in record {
      first = begins_all plan v w all (λ i h. (both_begin i h).0);
      second = begins_all plan other w all' (λ i h. (both_begin i h).1);
      one_of = λ i. subst (λ (z : SeenShard). (z.list ≡ list_at i v) ⊎ (z.list ≡ list_at i other)) (sym (at i)) (one_of_two (ltb (length (list_at i v)) (length (list_at i other))) (list_at i v) (list_at i other));
      got = λ i. ap (λ (z : SeenShard). z.got) (at i);
      busy = λ i. ap (λ (z : SeenShard). z.busy) (at i);
    }
