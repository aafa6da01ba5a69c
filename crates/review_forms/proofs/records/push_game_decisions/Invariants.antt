use Rattle.std.proofs.Common.{◌≡◌, ◌++◌, [], flat_map, take}
use Rattle.review_forms.specs.Records.{decision_fields, game_record}
use Rattle.review_forms.proofs.records.push_game_decisions.Given as goal

abbrev pub invariant-loop-decision : goal.invariant-loop-decision
invariant-loop-decision l = l.text ≡ l.initial.text ++ flat_map (λ t. game_record l.number (decision_fields l.moves t) []) (take l.decision-index l.told)
