use Rattle.page_text.specs.Refutations.{gives_up}
use Rattle.page_text.proofs.Grown.{any_more}
use Rattle.page_text.proofs.refutations.gives_one_up.Goals as goal

pub loop-place-preserved : goal.loop-place-preserved
loop-place-preserved c =
    any_more (gives_up c.args.refuted.now c.args.card) c.loop-place.found c.gives_up-found.result c.loop-place.place c.loop-place.invariant c.gives_up-found.ensures
