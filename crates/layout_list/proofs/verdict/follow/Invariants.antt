use Rattle.std.proofs.Common.{◌≡◌, ◌+◌, drop}
use Rattle.trick_rules.specs.Positions.{IsState}
use Rattle.pbn_deal.specs.Boards.{IsCourse}
use Rattle.layout_list.specs.Verdicts.{contradiction, position_after, hand_after, course_of}
use Rattle.layout_list.proofs.verdict.follow.Given as goal

-- the plays left lead from the position at hand to the same end
abbrev pub invariant-loop-index : goal.invariant-loop-index
invariant-loop-index l = record {
  state : IsState (record { position = l.position; left = l.hand });
  fair : IsCourse l.position.trump (course_of l.position) (drop l.index l.plays);
  verdict : contradiction 1 (record { position = l.fn.start; left = l.fn.left }) l.plays ≡ contradiction (l.index + 1) (record { position = l.position; left = l.hand }) (drop l.index l.plays);
  position : position_after l.fn.start l.plays ≡ position_after l.position (drop l.index l.plays);
  left : hand_after l.fn.left l.plays ≡ hand_after l.hand (drop l.index l.plays);
}
