-- A new table keeps the rule.
use Rattle.std.proofs.Common.{◌≡◌, ℕ, zero, suc, ◌<◌, List, [], ◌∷◌, map, replicate, refl, sym, ◌∙◌, subst, inl, arith}
use Rattle.std.proofs.lemmas.List.{length-map, length-replicate}
use mathlib.Core.Option.{some, some-injective, some-ne-none}
use lib.ListN.{get_elem?}
use Rattle.atomic_table.specs.Table.{opening}
use Rattle.shared_table.specs.declared.rule.TablePlan.{TablePlan}
use Rattle.shared_table.specs.declared.rule.SeenShard.{SeenShard}
use Rattle.shared_table.specs.Shard.{IsOutside}
use Rattle.shared_table.specs.Shards.{unseen, seen_at, first_view, IsSharded}
use Rattle.shared_table.proofs.Prefixes.{E, prefix_none}
use Rattle.shared_table.proofs.Views.{get_or-replicate, seen_first}

abbrev no_entry : E
no_entry = []

-- each slot has an empty list
empty_home : (n i : ℕ) → i < n → get_elem? (map some (replicate n no_entry)) i ≡ some (some no_entry)
empty_home zero i h = absurd (omega arith)
empty_home (suc n) zero h = refl
empty_home (suc n) (suc i) h = empty_home n i (omega arith)

one_outside : (s : SeenShard) → s ≡ unseen → (j : ℕ) (u : SeenShard) → get_elem? (s ∷ []) j ≡ some u → IsOutside [] u
one_outside s is zero u at = subst (IsOutside []) (sym is ∙ some-injective s u at) (refl, prefix_none [], prefix_none [])
one_outside s is (suc j) u at = absurd (some-ne-none u (sym at))

pub begins : (plan : TablePlan) (words : List ℕ) (lists : List E) → words ≡ replicate plan.shards 0 → lists ≡ replicate plan.shards [] → IsSharded plan (opening words lists (first_view plan))
begins plan words lists zeros empties =
    subst (λ (x : List ℕ × List E). IsSharded plan (opening x.0 x.1 (first_view plan))) (λ i. (sym zeros i, sym empties i)) record {
      words = length-replicate plan.shards 0;
      slots = length-map (replicate plan.shards []) some ∙ length-replicate plan.shards [];
      each = λ i inside. inl (
        get_or-replicate plan.shards i 0,
        record {
          list = [];
          home_is = empty_home plan.shards i inside;
          good = record {
            fits = omega arith;
            here = λ e there. absurd (let within = there.1 in omega arith);
            once = λ j k d before within _. absurd (omega arith);
          };
          each = one_outside (seen_at i (first_view plan)) (seen_first i plan);
        },
      );
    }
