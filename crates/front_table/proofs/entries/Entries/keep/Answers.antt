use Rattle.std.proofs.Common.{◌≡◌, ◌∙◌, ◌++◌, ◌∷◌, [], arith, List, subst, sym, ap, ap₂}
use Rattle.std.proofs.lemmas.Grind.{common_steps}
use Rattle.front_table.specs.Digests.{digest_of}
use Rattle.front_table.specs.Entries.{StoredFrontValue, HasKey}
use Rattle.front_table.proofs.Looking.{key_digest}
use Rattle.front_table.proofs.Keeping.{digests-push, once-push}
use Rattle.front_table.proofs.entries.Entries.keep.Goals as goal

pub invariant_of-self-2 : goal.invariant_of-self-2
invariant_of-self-2 c =
    let list = c.self.inside.list.items in
    let e = c.new.result in
    let items : c.push.new.self.items ≡ list ++ e ∷ [] = grind (arith, common_steps) in
    let more : c.add.new.self.digests ≡ c.self.inside.buckets.digests ++ c.digest-digest.result ∷ [] = grind (arith, common_steps) in
    let digest : c.digest-digest.result ≡ key_digest e = c.digest-digest.ensures ∙ ap₂ digest_of c.node.ensures c.moves.ensures ∙ ap key_digest (sym c.new.ensures) in
    let new : ¬ HasKey list e.node e.moves = λ h.
    let here : HasKey list c.args.proven.node c.args.proven.moves = subst (λ (x : StoredFrontValue). HasKey list x.node x.moves) c.new.ensures h in
    c.requires.new (subst (λ (l : List StoredFrontValue). HasKey l c.args.proven.node c.args.proven.moves) c.self.view_is here) in
    record {
      digests = rw items (digests-push c.self.inside.buckets.digests c.add.new.self.digests list e c.digest-digest.result c.self.invariant.digests digest more);
      once = rw items (once-push list e c.self.invariant.once new);
    }
