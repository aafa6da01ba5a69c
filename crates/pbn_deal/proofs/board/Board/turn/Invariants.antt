use Rattle.std.proofs.Common.{◌≡◌, ◌<◌, drop, length}
use Rattle.pbn_deal.specs.Boards.{trick_after}
use Rattle.pbn_deal.proofs.board.Board.turn.Given as goal

-- the plays left lead from the trick at hand to the last one
abbrev pub invariant-loop-play : goal.invariant-loop-play
invariant-loop-play l = record {
  short : length l.trick.cards < 4;
  leads : trick_after l.self.trump l.initial.trick l.self.plays ≡ trick_after l.self.trump l.trick (drop l.play-index l.self.plays);
}
