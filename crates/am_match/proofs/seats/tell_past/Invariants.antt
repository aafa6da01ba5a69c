use Rattle.std.proofs.Common.{◌≡◌, take}
use Rattle.am_match.specs.Defences.{sitter, tell as tell_one}
use Rattle.am_match.proofs.seats.tell_past.Given as goal

abbrev pub invariant-loop-place : goal.invariant-loop-place
invariant-loop-place g l =
    sitter ((goal.Defender-dyn g (l.defender.vtable, l.defender.value)).style l.defender.value)
    ((goal.Defender-dyn g (l.defender.vtable, l.defender.value)).heard l.defender.value)
    ≡ tell_one (take l.place l.cards)
    (sitter ((goal.Defender-dyn g (l.initial.defender.vtable, l.initial.defender.value)).style l.initial.defender.value)
    ((goal.Defender-dyn g (l.initial.defender.vtable, l.initial.defender.value)).heard l.initial.defender.value))
