-- A store has grown by each look and each put.
use Rattle.std.proofs.Common.{◌≡◌, ℕ, sym, ap, ◌∙◌, subst, arith}
use mathlib.Core.Logic.{dite}
use native.Mathlib.Decide.{ℕ_discrete}
use Rattle.trick_rules.specs.Nodes.{NodeValue}
use Rattle.front_table.specs.Proven.{ProvenFrontValue}
use Rattle.front_table.specs.declared.store.Put.{Put}
use Rattle.front_table.specs.declared.store.Put.TheVariants.{Kept, Present, Full, TooWide, Busy, Memory}
use Rattle.front_table.specs.declared.store.Look.{Look}
use Rattle.front_table.specs.declared.store.Look.TheVariants as look
use Rattle.shared_table.specs.declared.rule.TablePlan.{TablePlan}
use Rattle.shared_table.specs.declared.rule.SeenShard.{SeenShard}
use Rattle.shared_table.specs.declared.rule.TableView.{TableView}
use Rattle.shared_table.specs.Shards.{seen_at}
use Rattle.shared_table.specs.Passes.{GotTurn, FoundTaken, LookTells, PutTells}
use Rattle.shared_table.specs.Stores.{HasGrownAt, HasGrownAt-none}

same_grown : (i : ℕ) (v w : TableView) → seen_at i w ≡ seen_at i v → HasGrownAt i v w
same_grown i v w same =
    let none = HasGrownAt-none i v in
    let got = ap (λ (s : SeenShard). s.got) same in
    let busy = ap (λ (s : SeenShard). s.busy) same in record {
      list = (none.list.0, none.list.1 ∙ sym (ap (λ (s : SeenShard). s.list) same));
      got = omega arith;
      busy = omega arith;
    }

got_grown : (plan : TablePlan) (i : ℕ) (v w : TableView) → GotTurn plan i v w → (k : ℕ) → HasGrownAt k v w
got_grown plan i v w t k = dite (ℕ_discrete k i)
    (λ e. subst (λ n. HasGrownAt n v w) (sym e) (let got = t.got in let busy = t.busy in record { list = t.begins; got = omega arith; busy = omega arith }))
    (λ ne. same_grown k v w (t.others k ne))

found_grown : (i : ℕ) (v w : TableView) → FoundTaken i v w → (k : ℕ) → HasGrownAt k v w
found_grown i v w t k = dite (ℕ_discrete k i)
    (λ e. subst (λ n. HasGrownAt n v w) (sym e)
    (let none = HasGrownAt-none i v in let got = t.got in let busy = t.busy in record { list = (none.list.0, none.list.1 ∙ sym t.list); got = omega arith; busy = omega arith }))
    (λ ne. same_grown k v w (t.others k ne))

pub look_grown : (plan : TablePlan) (n : NodeValue) (moves : ℕ) (v w : TableView) (answer : Look) → LookTells plan n moves v w answer → (k : ℕ) → HasGrownAt k v w
look_grown plan n moves v w look.Hit t k = got_grown plan _ v w t.0 k
look_grown plan n moves v w look.Miss t k = got_grown plan _ v w t.0 k
look_grown plan n moves v w look.Busy t k = found_grown _ v w t k

pub put_grown : (plan : TablePlan) (p : ProvenFrontValue) (v w : TableView) (answer : Put) → PutTells plan p v w answer → (k : ℕ) → HasGrownAt k v w
put_grown plan p v w Kept t k = got_grown plan _ v w t.0 k
put_grown plan p v w (Present back) t k = got_grown plan _ v w t.0 k
put_grown plan p v w (Full back) t k = got_grown plan _ v w t.0 k
put_grown plan p v w (TooWide back) t k = same_grown k v w (ap (seen_at k) t.1)
put_grown plan p v w (Busy back) t k = found_grown _ v w t.1 k
put_grown plan p v w (Memory back) t k = got_grown plan _ v w t.0 k
