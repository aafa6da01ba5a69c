use Rattle.std.proofs.Common.{◌≡◌, drop}
use Rattle.std.specs.List.{list_all}
use Rattle.trick_rules.specs.Play.{decided}
use Rattle.told_words.specs.Phrases.{is_result}
use Rattle.told_words.proofs.phrases.all_decided.Given as goal

abbrev pub invariant-loop-place : goal.invariant-loop-place
invariant-loop-place l =
    list_all (λ n. is_result l.made (decided n.position)) l.places ≡ list_all (λ n. is_result l.made (decided n.position)) (drop l.place-index l.places)
