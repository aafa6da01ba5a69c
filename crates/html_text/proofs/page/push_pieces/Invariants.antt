use Rattle.std.proofs.Common.{◌≡◌, ◌++◌, take}
use Rattle.html_text.specs.Pages.{written}
use Rattle.html_text.proofs.page.push_pieces.Given as goal

abbrev pub invariant-loop-piece : goal.invariant-loop-piece
invariant-loop-piece l = l.out ≡ l.initial.out ++ written (take l.piece-index l.pieces)
