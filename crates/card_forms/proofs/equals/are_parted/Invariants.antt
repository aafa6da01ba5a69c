use Rattle.std.proofs.Common.{◌≡◌, length}
use Rattle.std.specs.List.{list_any}
use Rattle.card_forms.specs.Equals.{stands_between}
use Rattle.card_forms.proofs.equals.are_parted.Given as goal

abbrev pub invariant-loop-it : goal.invariant-loop-it
invariant-loop-it l = list_any (stands_between l.card l.other) l.rest ≡ list_any (stands_between l.card l.other) l.fn.others

abbrev pub decreases-loop-it : goal.decreases-loop-it
decreases-loop-it l = length l.rest
