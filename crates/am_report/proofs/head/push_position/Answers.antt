use Rattle.std.proofs.Common.{◌≡◌, OnOk, rules, subst}
use Rattle.am_report.proofs.Grown.{position_grown}
use Rattle.am_report.proofs.head.push_position.Goals as goal

pub returns : goal.returns
returns c =
    subst (λ text. OnOk c.push_line-2.result (c.push_line-2.new.text ≡ text))
    (position_grown c.args.text.now c.push_line.new.text c.push_trump_line.new.text c.push_number_line.new.text c.push_hand_line.new.text c.push_hand_line-2.new.text c.push_trick_line.new.text c.args.board.now c.args.position.now (rw (c.compass_letter.ensures.value, c.declarer.ensures) at c.in_ok-push_line.ensures) (search rules) (search rules) (search rules) (search rules) (search rules))
    (rw (c.compass_letter-2.ensures.value, c.compass.ensures, c.to_play.ensures.value) at c.push_line-2.ensures)
