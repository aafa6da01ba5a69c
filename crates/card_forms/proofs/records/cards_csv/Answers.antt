use Rattle.std.proofs.Common.{◌∙◌, ◌++◌, ap, append-nil, sym}
use Rattle.text_forms.specs.Records.{record_text}
use Rattle.card_forms.specs.Records.{field_names}
use Rattle.card_forms.proofs.records.cards_csv.Goals as goal

pub loop-row-init : goal.loop-row-init
loop-row-init c =
    c.in_ok-push_fields.ensures ∙ ap (λ text. text ++ record_text field_names) c.new-text.ensures ∙ sym (append-nil (record_text field_names))
