use Rattle.std.proofs.lemmas.Result.{IfOk-weaker}
use Rattle.review_forms.specs.Objects.{review_json}
use Rattle.review_forms.proofs.Whole.{review_is_whole}
use Rattle.review_forms.proofs.objects.review_json.Goals as goal

pub returns : goal.returns
unfolding review_json
returns c =
    let line = rw c.in_ok-review_value.ensures at c.json_line.ensures in
    IfOk-weaker c.json_line.result _ _ (λ text is. is (review_is_whole c.args.moves c.args.told.now)) line
