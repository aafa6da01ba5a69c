use Rattle.std.proofs.Common.{◌≤◌, ◌∙◌, arith}
use Rattle.win_vectors.specs.Words.{AreVectorWords}
use Rattle.win_vectors.proofs.WordVectors.{widths-same}
use Rattle.win_vectors.proofs.WordOrders.{vector_order-narrow}
use Rattle.win_vectors.proofs.win_vector.WinVector.order.Goals as goal

pub returns-then-other-le-WORD_PLACES : goal.returns-then-other-le-WORD_PLACES
returns-then-other-le-WORD_PLACES c =
    let same = widths-same c.self.inside.width c.other.inside.width c.self.inside.words c.other.inside.words c.args.self c.args.other c.self.view_is c.other.view_is c.requires in
    let other : AreVectorWords c.self.inside.width c.other.inside.words = rw same c.other.invariant in
    let narrow : c.self.inside.width ≤ 64 = omega arith in
    rw (← c.self.view_is, ← c.other.view_is, ← same)
    (c.word_order.ensures ∙ vector_order-narrow c.self.inside.width c.self.inside.words c.other.inside.words c.self.invariant other narrow)
