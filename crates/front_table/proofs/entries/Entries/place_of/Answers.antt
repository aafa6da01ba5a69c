use Rattle.std.proofs.Common.{◌≡◌, ◌∙◌, ◌<◌, ◌-◌, get_or, length, refl, sym, subst, arith}
use Rattle.std.proofs.lemmas.Bool.{false≢true}
use Rattle.std.proofs.lemmas.List.{get_or_default}
use Rattle.front_table.specs.Entries.{StoredFrontValue, IsOfKey}
use Rattle.front_table.proofs.Looking.{passed-first, passed-more, other_digest}
use Rattle.front_table.proofs.entries.Entries.place_of.Goals as goal
use Rattle.front_table.proofs.entries.Entries.place_of.Goals.{then-digest+else-is_of, else-digest}

pub loop-last-init : goal.loop-last-init
loop-last-init c =
    let a = c.self.inside in
    passed-first a.list.items a.buckets.digests a.buckets.buckets c.digest-digest.result c.args.node.now c.args.moves c.last-last.result c.self.invariant.digests c.digest-digest.ensures c.last-last.ensures

pub loop-last-preserved : goal.loop-last-preserved
loop-last-preserved c =
    let a = c.self.inside in
    let list = a.list.items in
    let place = c.loop-last.last - 1 in
    let within : place < length list = omega (arith, c.loop-last.invariant.within) in
    let other : (e : StoredFrontValue) → get_or list place e ≡ e → ¬ IsOfKey c.args.node.now c.args.moves e =
    elim c.if-digest.branch [
      | then-digest+else-is_of w ↦ λ e at key.
          let same : w.index-entry.result.now ≡ e = w.index-entry.ensures ∙ get_or_default list place w.index-entry.result.now e within ∙ at in
          false≢true (sym w.if-is_of.false ∙ w.is_of.ensures.1 (subst (λ (x : StoredFrontValue). IsOfKey c.args.node.now c.args.moves x) (sym same) key))
      | else-digest w ↦ other_digest list a.buckets.digests c.digest-digest.result c.args.node.now c.args.moves place c.self.invariant.digests c.digest-digest.ensures within (λ same. w.if-digest.false (c.digest.ensures ∙ same))
    ] in
    passed-more list a.buckets.digests a.buckets.buckets c.digest-digest.result c.args.node.now c.args.moves c.loop-last.last place c.earlier-last.result
    c.self.invariant.digests c.digest-digest.ensures c.loop-last-test.true refl c.loop-last.invariant other c.earlier-last.ensures
