use Rattle.std.proofs.Common.{◌≡◌, map, take}
use Rattle.std.specs.List.{enumerate_from}
use Rattle.serde_json.specs.View.{view}
use Rattle.review_forms.specs.Objects.{game_data}
use Rattle.review_forms.proofs.objects.game_values.Given as goal

abbrev pub invariant-loop-place : goal.invariant-loop-place
invariant-loop-place l = map view l.values.items ≡ map (game_data l.moves) (enumerate_from 1 (take l.place l.games))
