use Rattle.std.proofs.Common.{◌∙◌, ◌≤◌, arith, length, ap, sym}
use Rattle.bit_lists.proofs.Words.{length-bits_of}
use Rattle.win_vectors.proofs.NarrowWords.{AreVectorWords-first, bits_of-first}
use Rattle.win_vectors.proofs.narrow_vector.NarrowVector.of.Goals as goal

pub invariant_of-result : goal.invariant_of-result
invariant_of-result c =
    let width = sym (length-bits_of c.vector.inside.width c.vector.inside.words) ∙ ap length c.vector.view_is in
    let narrow : c.vector.inside.width ≤ 64 = omega (arith, width, c.requires) in
    (AreVectorWords-first c.vector.inside.width c.vector.inside.words c.vector.invariant narrow, narrow)

pub returns : goal.returns
returns c =
    let width = sym (length-bits_of c.vector.inside.width c.vector.inside.words) ∙ ap length c.vector.view_is in
    bits_of-first c.vector.inside.width c.vector.inside.words (omega (arith, width, c.requires)) ∙ c.vector.view_is
