-- How the shards of a table end, one after another.
use Rattle.std.proofs.Common.{◌≡◌, ◌⊎◌, ℕ, zero, suc, ◌+◌, ◌<◌, true, List, [], ◌∷◌, ◌++◌, length, refl, sym, ap, ◌∙◌, subst, inl, inr, ⊎_elim, arith}
use mathlib.Core.Option.{some, some-injective, some-ne-none}
use mathlib.Core.List.{IsPrefix}
use lib.ListN.{get_elem?}
use Rattle.shared_table.specs.declared.rule.TablePlan.{TablePlan}
use Rattle.shared_table.specs.declared.rule.TableView.{TableView}
use Rattle.shared_table.specs.declared.rule.SeenShard.{SeenShard}
use Rattle.shared_table.specs.declared.close.ShardEnd.{ShardEnd}
use Rattle.shared_table.specs.declared.close.ShardEnd.TheVariants.{Home, Held}
use Rattle.shared_table.specs.Shard.{IsShard}
use Rattle.shared_table.specs.Shards.{seen, seen_at, taken, refused}
use Rattle.shared_table.specs.Passes.{OthersStay}
use Rattle.shared_table.specs.Ends.{IsEndOf}
use Rattle.shared_table.proofs.Prefixes.{E}
use Rattle.shared_table.proofs.Views.{changed_here, changed_else}

module _ {A : Type 0} where
  at_inside : (l : List A) (i : ℕ) (a : A) → get_elem? l i ≡ some a → i < length l
  at_inside [] i a at = absurd (some-ne-none a (sym at))
  at_inside (x ∷ xs) zero a at = omega arith
  at_inside (x ∷ xs) (suc i) a at = let h = at_inside xs i a at in omega arith

  at_end : (l : List A) (a b : A) (i : ℕ) → get_elem? (l ++ a ∷ []) i ≡ some b → (get_elem? l i ≡ some b) ⊎ ((i ≡ length l) × (a ≡ b))
  at_end [] a b zero at = inr (refl, some-injective a b at)
  at_end [] a b (suc i) at = absurd (some-ne-none b (sym at))
  at_end (x ∷ xs) a b zero at = inl at
  at_end (x ∷ xs) a b (suc i) at = ⊎_elim inl (λ (t : (i ≡ length xs) × (a ≡ b)). inr (ap suc t.0, t.1)) (at_end xs a b i at)

-- a shard whose turn was got
pub home_end : (plan : TablePlan) (i : ℕ) (v w : TableView) (list : E) → i < length v.shards → w ≡ taken i list v → IsPrefix (seen_at i v).list list → IsShard plan i list → IsEndOf plan i (seen_at i v) (seen_at i w) (Home list) × OthersStay i v w
home_end plan i v w list inside is begins good =
    let at : seen_at i w ≡ seen list true ((seen_at i v).got + 1) (seen_at i v).busy = ap (seen_at i) is ∙ changed_here i _ v inside in (
      (
        ap (λ (s : SeenShard). s.list) at,
        begins,
        good,
        ap (λ (s : SeenShard). s.got) at,
        ap (λ (s : SeenShard). s.busy) at,
      ),
      (λ k other. ap (seen_at k) is ∙ changed_else i k _ v other),
    )

-- a shard whose turn was taken
pub held_end : (plan : TablePlan) (i : ℕ) (v w : TableView) → i < length v.shards → w ≡ refused i v → IsEndOf plan i (seen_at i v) (seen_at i w) Held × OthersStay i v w
held_end plan i v w inside is =
    let at : seen_at i w ≡ seen (seen_at i v).list (seen_at i v).inside (seen_at i v).got ((seen_at i v).busy + 1) = ap (seen_at i) is ∙ changed_here i _ v inside in (
      (
        ap (λ (s : SeenShard). s.list) at,
        ap (λ (s : SeenShard). s.got) at,
        ap (λ (s : SeenShard). s.busy) at,
      ),
      (λ k other. ap (seen_at k) is ∙ changed_else i k _ v other),
    )

-- one shard more has ended
pub ends_more : (plan : TablePlan) (v mid w : TableView) (ends more : List ShardEnd) (e : ShardEnd) (shard : ℕ) → length ends ≡ shard → more ≡ ends ++ e ∷ []
    → ((k : ℕ) (x : ShardEnd) → get_elem? ends k ≡ some x → IsEndOf plan k (seen_at k v) (seen_at k mid) x)
    → seen_at shard mid ≡ seen_at shard v → IsEndOf plan shard (seen_at shard mid) (seen_at shard w) e → OthersStay shard mid w
    → (k : ℕ) (x : ShardEnd) → get_elem? more k ≡ some x → IsEndOf plan k (seen_at k v) (seen_at k w) x
ends_more plan v mid w ends more e shard size is each same end others k x at =
    ⊎_elim
    (λ (was : get_elem? ends k ≡ some x).
    let before : k < shard = (let h = at_inside ends k x was in omega arith) in
    subst (λ (s : SeenShard). IsEndOf plan k (seen_at k v) s x) (sym (others k (λ e. omega arith))) (each k x was))
    (λ (t : (k ≡ length ends) × (e ≡ x)).
    let mine : IsEndOf plan shard (seen_at shard v) (seen_at shard w) e = subst (λ (s : SeenShard). IsEndOf plan shard s (seen_at shard w) e) same end in
    subst (λ (y : ℕ × ShardEnd). IsEndOf plan y.0 (seen_at y.0 v) (seen_at y.0 w) y.1) (λ i. (sym (t.0 ∙ size) i, t.1 i)) mine)
    (at_end ends e x k (subst (λ l. get_elem? l k ≡ some x) is at))
