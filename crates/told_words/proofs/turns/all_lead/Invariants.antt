use Rattle.std.proofs.Common.{◌≡◌, drop}
use Rattle.std.specs.List.{list_all}
use Rattle.told_words.specs.Turns.{leads_next}
use Rattle.told_words.proofs.turns.all_lead.Given as goal

abbrev pub invariant-loop-place : goal.invariant-loop-place
invariant-loop-place l = list_all (leads_next l.seat) l.places ≡ list_all (leads_next l.seat) (drop l.place-index l.places)
