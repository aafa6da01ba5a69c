use Rattle.std.proofs.Common.{◌≡◌, ◌+◌, ◌≤◌, length}
use Rattle.std.specs.Prelude.{option_map}
use Rattle.pbn_deal.specs.Sections.{prepend}
use Rattle.layout_list.specs.Lines.{numbered_lines, layout_lines, lines_left, lines_read, AreOver, HaveWeights}
use Rattle.layout_list.proofs.LineSteps.{size_left}
use Rattle.layout_list.proofs.line.read_lines.Given as goal

-- the layouts so far come before those of the lines left
abbrev pub invariant-lines : goal.invariant-lines
invariant-lines l = record {
  counted : l.number + size_left (option_map (λ text. text.now) l.rest) ≤ length l.bytes + 1;
  few : length l.layouts.items ≤ 256;
  weights : HaveWeights l.layouts.items;
  over : AreOver l.board l.unseen l.layouts.items;
  read : lines_read l.board l.board.unseen 0 (layout_lines (numbered_lines l.bytes))
      ≡ prepend l.layouts.items (lines_read l.board l.unseen (length l.layouts.items) (layout_lines (lines_left (l.number + 1) (option_map (λ text. text.now) l.rest))));
}

abbrev pub decreases-lines : goal.decreases-lines
decreases-lines l = size_left (option_map (λ text. text.now) l.rest)
