use Rattle.std.proofs.Common.{◌≡◌, map, option_map, length}
use Rattle.trick_rules.specs.Positions.{State}
use Rattle.trick_rules.specs.Play.{cards_left}
use Rattle.strategy_tree.specs.PlanMeaning.{plan_of}
use Rattle.am_match.specs.Defences.{sitter, change_at}
use Rattle.am_match.proofs.UnderWay.{IsUnderWay}
use Rattle.am_match.proofs.playing.play_out.Given as goal

abbrev pub invariant-loop-rest : goal.invariant-loop-rest
invariant-loop-rest g l =
    let start : State = record { position = l.initial.position; left = l.initial.left } in
    let s : State = record { position = l.position; left = l.left } in
    record {
      way : IsUnderWay (plan_of l.initial.rest) start
          (map (λ d. sitter ((goal.Defender-dyn g (d.vtable, d.value)).style d.value) ((goal.Defender-dyn g (d.vtable, d.value)).heard d.value)) l.initial.table.items)
          (option_map (λ w. change_at w.at w.seat (sitter ((goal.Defender-dyn g (w.defender.vtable, w.defender.value)).style w.defender.value) ((goal.Defender-dyn g (w.defender.vtable, w.defender.value)).heard w.defender.value))) l.initial.waiting)
          l.cards (plan_of l.rest) s
          (map (λ d. sitter ((goal.Defender-dyn g (d.vtable, d.value)).style d.value) ((goal.Defender-dyn g (d.vtable, d.value)).heard d.value)) l.table.items)
          (option_map (λ w. change_at w.at w.seat (sitter ((goal.Defender-dyn g (w.defender.vtable, w.defender.value)).style w.defender.value) ((goal.Defender-dyn g (w.defender.vtable, w.defender.value)).heard w.defender.value))) l.waiting);
      seats : length l.table.items ≡ length l.initial.table.items;
    }

abbrev pub decreases-loop-rest : goal.decreases-loop-rest
decreases-loop-rest g l = cards_left l.position
