use Rattle.std.proofs.Common.{◌≡◌, ◌++◌, flat_map, take}
use Rattle.std.specs.List.{enumerate_from}
use Rattle.text_forms.specs.Records.{record_text}
use Rattle.review_forms.specs.Records.{game_names, game_records}
use Rattle.review_forms.proofs.records.reviews_csv.Given as goal

abbrev pub invariant-loop-place : goal.invariant-loop-place
invariant-loop-place l = l.text ≡ record_text game_names ++ flat_map (game_records l.moves) (enumerate_from 1 (take l.place l.games))
