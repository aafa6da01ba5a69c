use Rattle.std.proofs.Common.{◌≡◌, ◌++◌, flat_map, take}
use Rattle.text_forms.specs.Records.{record_text}
use Rattle.review_forms.specs.Records.{decision_names, decision_fields}
use Rattle.review_forms.proofs.records.review_csv.Given as goal

abbrev pub invariant-loop-decision : goal.invariant-loop-decision
invariant-loop-decision l = l.text ≡ record_text decision_names ++ flat_map (λ t. record_text (decision_fields l.moves t)) (take l.decision-index l.told)
