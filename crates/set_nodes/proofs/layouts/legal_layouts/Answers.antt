use Rattle.std.proofs.Common.{◌∙◌, sym, arith}
use Rattle.set_nodes.specs.SetNodes.{legal_at}
use Rattle.set_nodes.proofs.Legal.{all_found, length-legal_at}
use Rattle.set_nodes.proofs.layouts.legal_layouts.Goals as goal

pub returns : goal.returns
returns c =
    let layouts = c.args.layouts.now in
    all_found c.args.set (legal_at layouts c.args.position.now c.args.card) c.loop-place.legal c.loop-place.place
    (c.requires ∙ sym (length-legal_at layouts c.args.position.now c.args.card))
    (omega (arith, c.width-place-end.ensures.value, c.loop-place-test.false)) c.loop-place.invariant
