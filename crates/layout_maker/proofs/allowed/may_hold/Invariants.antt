use Rattle.std.proofs.Common.{◌≡◌, ◌<◌, drop, length}
use Rattle.pbn_deal.specs.Boards.{first_trick}
use Rattle.layout_maker.specs.Choosing.{after_plays}
use Rattle.layout_maker.proofs.allowed.may_hold.Given as goal

-- the plays left tell the rest
abbrev pub invariant-loop-play : goal.invariant-loop-play
invariant-loop-play l = record {
  short : length l.trick.cards < 4;
  told : after_plays l.board.trump (first_trick l.board) l.fn.unseen (record { left = l.fn.unseen; right = l.fn.unseen }) l.board.plays ≡ after_plays l.trump l.trick l.hidden l.may (drop l.play-index l.play-items);
}
