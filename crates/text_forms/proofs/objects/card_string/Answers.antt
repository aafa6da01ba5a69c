use Rattle.std.proofs.lemmas.Result.{IfOk-weaker}
use Rattle.text_forms.proofs.Ascii.{card_is_utf8}
use Rattle.text_forms.proofs.objects.card_string.Goals as goal

pub returns : goal.returns
returns c =
    let lossy = rw c.letters_of.ensures at c.from_utf8_lossy.ensures.ok in
    IfOk-weaker c.from_utf8_lossy.result _ _ (λ string is. is (card_is_utf8 c.args.card)) lossy
