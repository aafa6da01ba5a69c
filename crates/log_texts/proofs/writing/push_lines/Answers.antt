use Rattle.log_texts.specs.LogText.{log_line}
use Rattle.log_texts.proofs.Pieces.{piece_more}
use Rattle.log_texts.proofs.writing.push_lines.Goals as goal

pub loop-line-preserved : goal.loop-line-preserved
loop-line-preserved c = piece_more log_line c.args.text.now c.loop-line.text c.push_log_line.new.text c.args.lines.now c.loop-line.line-index
    c.line-item.result c.loop-line-test.true c.line-item.is c.loop-line.invariant c.in_ok-push_log_line.ensures
