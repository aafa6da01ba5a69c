use Rattle.std.proofs.Common.{◌∙◌, ◌++◌, ◌∷◌, [], ap, append_assoc}
use Rattle.std.specs.Prelude.{replicate}
use Rattle.std.proofs.lemmas.List.{replicate-append-replicate}
use Rattle.review_forms.proofs.records.push_empty.Goals as goal

pub loop-preserved : goal.loop-preserved
loop-preserved c =
    let before = c.args.fields.now in
    let k = c.loop.counter in
    c.in_ok-push.ensures ∙ ap (λ fields. fields ++ [] ∷ []) c.loop.invariant ∙ append_assoc before (replicate k []) ([] ∷ []) ∙ ap (λ empty. before ++ empty) (replicate-append-replicate k 1 [])
