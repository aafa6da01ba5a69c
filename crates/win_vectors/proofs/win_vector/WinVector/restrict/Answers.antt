use Rattle.std.proofs.Common.{◌<◌, ◌≤◌, ◌*◌, arith, sym, ◌∙◌, refl, get_or}
use Rattle.bit_lists.specs.Words.{bits_of}
use Rattle.win_vectors.specs.Vectors.{ones_of}
use Rattle.win_vectors.specs.Words.{AreVectorWords, IsRestrictedWord}
use Rattle.win_vectors.proofs.VectorLemmas.{restrict_of-all_of}
use Rattle.win_vectors.proofs.WordVectors.{widths-same}
use Rattle.win_vectors.proofs.Masks.{RestrictsWords-next, RestrictsWords-end, done_at-end, next_places, nothing_done}
use Rattle.win_vectors.proofs.win_vector.WinVector.restrict.Goals as goal

pub returns-then-is_all : goal.returns-then-is_all
returns-then-is_all c = c.self.view_is ∙ sym (restrict_of-all_of c.args.self c.args.mask c.requires.same_width (c.if-is_all.ensures.0 refl))

pub loop-word-init : goal.loop-word-init
loop-word-init c = (nothing_done c.self.inside.width c.self.inside.words c.mask.inside.words).0

pub loop-word-preserved : goal.loop-word-preserved
loop-word-preserved c =
    let same = widths-same c.self.inside.width c.mask.inside.width c.self.inside.words c.mask.inside.words c.args.self c.args.mask c.self.view_is c.mask.view_is c.requires.same_width in
    let mask : AreVectorWords c.self.inside.width c.mask.inside.words = rw same c.mask.invariant in
    let more : 64 * c.loop-word.word < c.self.inside.width = omega (arith, c.words_in_use-word-end.ensures) in
    let restricted : IsRestrictedWord (get_or c.self.inside.words c.loop-word.word 0) (get_or c.mask.inside.words c.loop-word.word 0) (next_places c.self.inside.width c.loop-word.word) c.restricted_word-bits.result =
    rw (← c.places_in-places.ensures) c.restricted_word-bits.ensures in
    RestrictsWords-next c.self.inside.width c.loop-word.word c.loop-word.width c.restricted_word-bits.result c.self.inside.words c.mask.inside.words c.loop-word.words c.put_bits.new.words
    mask more restricted c.put_bits.ensures c.loop-word.invariant

pub invariant_of-result-2 : goal.invariant_of-result-2
invariant_of-result-2 c =
    let same = widths-same c.self.inside.width c.mask.inside.width c.self.inside.words c.mask.inside.words c.args.self c.args.mask c.self.view_is c.mask.view_is c.requires.same_width in
    let mask : AreVectorWords c.self.inside.width c.mask.inside.words = rw same c.mask.invariant in
    let end : c.self.inside.width ≤ 64 * c.loop-word.word = omega (arith, c.words_in_use-word-end.ensures) in
    let some : 1 ≤ ones_of (bits_of c.self.inside.width c.mask.inside.words) = rw (same, c.mask.view_is) c.requires.not_empty in
    RestrictsWords-end c.self.inside.width c.loop-word.word c.loop-word.width c.self.inside.words c.mask.inside.words c.loop-word.words mask end some c.loop-word.invariant

pub returns : goal.returns
returns c =
    let same = widths-same c.self.inside.width c.mask.inside.width c.self.inside.words c.mask.inside.words c.args.self c.args.mask c.self.view_is c.mask.view_is c.requires.same_width in
    let end : c.self.inside.width ≤ 64 * c.loop-word.word = omega (arith, c.words_in_use-word-end.ensures) in
    let whole = done_at-end c.self.inside.width c.loop-word.word end in
    rw (← c.self.view_is, ← c.mask.view_is, ← same) (rw whole at c.loop-word.invariant.so_far)
