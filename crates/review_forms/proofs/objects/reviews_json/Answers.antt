use Rattle.std.proofs.lemmas.Result.{IfOk-weaker}
use Rattle.review_forms.specs.Objects.{reviews_json}
use Rattle.review_forms.proofs.Whole.{reviews_are_whole}
use Rattle.review_forms.proofs.objects.reviews_json.Goals as goal

pub returns : goal.returns
unfolding reviews_json
returns c =
    let line = rw c.in_ok-reviews_value.ensures at c.json_line.ensures in
    IfOk-weaker c.json_line.result _ _ (λ text is. is (reviews_are_whole c.args.moves c.args.games.now)) line
