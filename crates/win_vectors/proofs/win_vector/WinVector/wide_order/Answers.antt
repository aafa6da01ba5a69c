use Rattle.std.proofs.Common.{◌∙◌, sym, refl}
use Rattle.bit_lists.specs.Words.{bits_of}
use Rattle.win_vectors.proofs.VectorLemmas.{vector_order-same, order-by_count}
use Rattle.win_vectors.proofs.WordVectors.{widths-same}
use Rattle.win_vectors.proofs.Together.{place-within, order-by_one, order-by_zero}
use Rattle.win_vectors.proofs.win_vector.WinVector.wide_order.Goals as goal

pub returns-then-ours-theirs : goal.returns-then-ours-theirs
returns-then-ours-theirs c =
    rw (c.cmp.ensures, c.count-ours.ensures, c.count-theirs.ensures)
    (order-by_count c.args.self c.args.other (rw (c.count-ours.ensures, c.count-theirs.ensures) at c.if-ours-theirs.true))

pub returns-in_default : goal.returns-in_default
returns-in_default c =
    let same = widths-same c.self.inside.width c.other.inside.width c.self.inside.words c.other.inside.words c.args.self c.args.other c.self.view_is c.other.view_is c.requires in
    rw (← c.self.view_is, ← c.other.view_is, ← same, c.in_default.ensures.none refl) (sym (vector_order-same (bits_of c.self.inside.width c.other.inside.words)))

pub get-requires : goal.get-requires
get-requires c = place-within c.self.inside.width c.other.inside.width c.self.inside.words c.other.inside.words c.args.self c.args.other c.self.view_is c.other.view_is c.requires c.self.invariant c.other.invariant
    c.in-Some.place c.in-Some.ensures.some

pub returns-then-get : goal.returns-then-get
returns-then-get c = order-by_one c.self.inside.width c.other.inside.width c.self.inside.words c.other.inside.words c.args.self c.args.other c.self.view_is c.other.view_is c.requires c.self.invariant c.other.invariant
    c.in-Some.place c.in-Some.ensures.some (sym c.count-ours.ensures ∙ c.if-ours-theirs.false ∙ c.count-theirs.ensures) c.if-get.ensures

pub returns-else-get : goal.returns-else-get
returns-else-get c = order-by_zero c.self.inside.width c.other.inside.width c.self.inside.words c.other.inside.words c.args.self c.args.other c.self.view_is c.other.view_is c.requires c.self.invariant c.other.invariant
    c.in-Some.place c.in-Some.ensures.some (sym c.count-ours.ensures ∙ c.if-ours-theirs.false ∙ c.count-theirs.ensures) c.if-get.ensures
