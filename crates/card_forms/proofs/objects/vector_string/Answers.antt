use Rattle.std.proofs.Common.{◌≡◌, map, rules}
use Rattle.std.proofs.lemmas.Result.{IfOk-weaker}
use Rattle.bit_letters.specs.Bits.{bit_letter}
use Rattle.card_forms.proofs.Ascii.{bits_are_utf8}
use Rattle.card_forms.proofs.objects.vector_string.Goals as goal

pub returns : goal.returns
returns c =
    let bits : c.bytes.result.now ≡ map bit_letter c.args.vector = search rules in
    let lossy = rw bits at c.from_utf8_lossy.ensures.ok in
    IfOk-weaker c.from_utf8_lossy.result _ _ (λ string is. is (bits_are_utf8 c.args.vector)) lossy
