use Rattle.std.proofs.Common.{◌≡◌, map, take}
use Rattle.serde_json.specs.View.{view}
use Rattle.review_forms.specs.Objects.{decision_data}
use Rattle.review_forms.proofs.objects.decision_values.Given as goal

abbrev pub invariant-loop-decision : goal.invariant-loop-decision
invariant-loop-decision l = map view l.values.items ≡ map decision_data (take l.decision-index l.told)
