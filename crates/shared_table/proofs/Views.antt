-- What a view knows of one shard, after a change of the view.
use Rattle.std.proofs.Common.{◌≡◌, ◌≢◌, ℕ, zero, suc, ◌<◌, List, [], ◌∷◌, map, replicate, length, get_or, get_or-set_same, get_or-set_other, refl, ap, arith}
use Rattle.shared_table.specs.declared.rule.TablePlan.{TablePlan}
use Rattle.shared_table.specs.declared.rule.SeenShard.{SeenShard}
use Rattle.shared_table.specs.declared.rule.TableView.{TableView}
use Rattle.shared_table.specs.Shards.{unseen, seen_at, first_view, with_shard, new_shard, newcomer, paired, paired_each, both, settled, settled_view}

module _ {A : Type 0} where
  get_or-map : {B : Type 0} (f : A → B) (xs : List A) (i : ℕ) (d : A) → get_or (map f xs) i (f d) ≡ f (get_or xs i d)
  get_or-map f [] i d = refl
  get_or-map f (x ∷ xs) zero d = refl
  get_or-map f (x ∷ xs) (suc i) d = get_or-map f xs i d

  pub get_or-replicate : (n i : ℕ) (d : A) → get_or (replicate n d) i d ≡ d
  get_or-replicate zero i d = refl
  get_or-replicate (suc n) zero d = refl
  get_or-replicate (suc n) (suc i) d = get_or-replicate n i d

get_or-paired : (xs ys : List SeenShard) (i : ℕ) → length xs ≡ length ys → get_or (paired_each xs ys) i unseen ≡ paired (get_or xs i unseen) (get_or ys i unseen)
get_or-paired [] [] i e = refl
get_or-paired [] (y ∷ ys) i e = absurd (omega arith)
get_or-paired (x ∷ xs) [] i e = absurd (omega arith)
get_or-paired (x ∷ xs) (y ∷ ys) zero e = refl
get_or-paired (x ∷ xs) (y ∷ ys) (suc i) e = get_or-paired xs ys i (omega arith)

pub length-paired : (xs ys : List SeenShard) → length (paired_each xs ys) ≡ length xs
length-paired [] ys = refl
length-paired (x ∷ xs) [] = refl
length-paired (x ∷ xs) (y ∷ ys) = ap suc (length-paired xs ys)

-- the shard that was changed
pub changed_here : (i : ℕ) (s : SeenShard) (v : TableView) → i < length v.shards → seen_at i (with_shard i s v) ≡ s
changed_here i s v inside = get_or-set_same v.shards i s unseen inside

-- the other shards
pub changed_else : (i k : ℕ) (s : SeenShard) (v : TableView) → k ≢ i → seen_at k (with_shard i s v) ≡ seen_at k v
changed_else i k s v other = get_or-set_other v.shards i k s unseen other

pub seen_first : (i : ℕ) (plan : TablePlan) → seen_at i (first_view plan) ≡ unseen
seen_first i plan = get_or-replicate plan.shards i unseen

pub seen_newcomer : (i : ℕ) (v : TableView) → seen_at i (newcomer v) ≡ new_shard (seen_at i v)
seen_newcomer i v = get_or-map new_shard v.shards i unseen

pub seen_settled : (i : ℕ) (v : TableView) → seen_at i (settled_view v) ≡ settled (seen_at i v)
seen_settled i v = get_or-map settled v.shards i unseen

pub seen_both : (i : ℕ) (v w : TableView) → length v.shards ≡ length w.shards → seen_at i (both v w) ≡ paired (seen_at i v) (seen_at i w)
seen_both i v w e = get_or-paired v.shards w.shards i e
