use Rattle.std.proofs.Common.{◌≡◌, ◌<◌, ◌≤◌, ◌*◌, arith, sym, ap, ◌∙◌, length, get_or}
use Rattle.bit_lists.specs.Words.{bits_of}
use Rattle.bit_lists.proofs.Words.{length-bits_of}
use Rattle.win_vectors.specs.Vectors.{ones_of}
use Rattle.win_vectors.specs.Words.{IsSpreadWord}
use Rattle.win_vectors.proofs.VectorLemmas.{all-from_ones, spread_of-all_of}
use Rattle.win_vectors.proofs.Masks.{SpreadsWords-next, SpreadsWords-end, done_at-end, next_places, nothing_done}
use Rattle.win_vectors.proofs.win_vector.WinVector.spread.Goals as goal

pub returns-then-self-mask : goal.returns-then-self-mask
returns-then-self-mask c =
    let own : c.self.inside.width ≡ length c.args.self = sym (length-bits_of c.self.inside.width c.self.inside.words) ∙ ap length c.self.view_is in
    let mask : c.mask.inside.width ≡ length c.args.mask = sym (length-bits_of c.mask.inside.width c.mask.inside.words) ∙ ap length c.mask.view_is in
    let all = all-from_ones c.args.mask (sym c.requires ∙ sym own ∙ c.if-self-mask.true ∙ mask) in
    c.self.view_is ∙ sym (spread_of-all_of c.args.self c.args.mask c.requires all)

pub loop-word-init : goal.loop-word-init
loop-word-init c = (nothing_done c.mask.inside.width c.self.inside.words c.mask.inside.words).1

pub loop-word-preserved : goal.loop-word-preserved
loop-word-preserved c =
    let more : 64 * c.loop-word.word < c.mask.inside.width = omega (arith, c.words_in_use-word-end.ensures) in
    let in_words : c.loop-word.word < 4 = omega (arith, c.mask.invariant.high) in
    let spread : IsSpreadWord c.bits_from.result (get_or c.mask.inside.words c.loop-word.word 0) (next_places c.mask.inside.width c.loop-word.word) c.spread_word.result =
    rw (← c.places_in-places.ensures) c.spread_word.ensures in
    SpreadsWords-next c.mask.inside.width c.loop-word.word c.loop-word.from c.bits_from.result c.spread_word.result c.self.inside.words c.mask.inside.words c.loop-word.words
    c.mask.invariant more in_words c.spread_word.type_inv c.bits_from.ensures spread c.loop-word.invariant

pub invariant_of-result-2 : goal.invariant_of-result-2
invariant_of-result-2 c =
    let end : c.mask.inside.width ≤ 64 * c.loop-word.word = omega (arith, c.words_in_use-word-end.ensures) in
    SpreadsWords-end c.mask.inside.width c.loop-word.word c.loop-word.from c.self.inside.words c.mask.inside.words c.loop-word.words c.mask.invariant end c.loop-word.invariant

pub returns : goal.returns
returns c =
    let end : c.mask.inside.width ≤ 64 * c.loop-word.word = omega (arith, c.words_in_use-word-end.ensures) in
    let whole = done_at-end c.mask.inside.width c.loop-word.word end in
    let count : c.loop-word.from ≡ c.self.inside.width =
    c.loop-word.invariant.counted ∙ ap (λ n. ones_of (bits_of n c.mask.inside.words)) whole ∙ ap ones_of c.mask.view_is
    ∙ sym (sym (length-bits_of c.self.inside.width c.self.inside.words) ∙ ap length c.self.view_is ∙ c.requires) in
    rw (← c.self.view_is, ← c.mask.view_is, ← count) (rw whole at c.loop-word.invariant.so_far)
