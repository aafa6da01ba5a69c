use Rattle.std.proofs.lemmas.Result.{IfOk-weaker}
use Rattle.card_forms.specs.Objects.{cards_json}
use Rattle.card_forms.proofs.Whole.{table_is_whole}
use Rattle.card_forms.proofs.objects.cards_json.Goals as goal

pub returns : goal.returns
unfolding cards_json
returns c =
    let line = rw c.in_ok-cards_value.ensures at c.json_line.ensures in
    IfOk-weaker c.json_line.result _ _ (λ text is. is (table_is_whole c.args.node.now c.args.weights.now c.args.planned c.args.rows.now.items c.args.named)) line
