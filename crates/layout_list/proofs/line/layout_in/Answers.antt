use Rattle.std.proofs.Common.{sym, ap, ◌∙◌}
use Rattle.pbn_deal.specs.Deal.{hand_at}
use Rattle.layout_list.proofs.Fits.{fits_board}
use Rattle.layout_list.proofs.line.layout_in.Goals as goal

pub returns-then-is_told-clause-fits : goal.returns-then-is_told-clause-fits
returns-then-is_told-clause-fits c =
    let deal = c.args.deal.now in
    fits_board c.args.board.now deal c.in_ok-own.own c.in_ok-dummy.dummy c.in_ok-left.left c.in_ok-right.right c.requires
    (ap (hand_at deal) (sym c.compass.ensures) ∙ sym c.hand.ensures ∙ c.in_ok-own.was) (ap (hand_at deal) (sym c.compass-2.ensures) ∙ sym c.hand-2.ensures ∙ c.in_ok-dummy.was)
    (ap (hand_at deal) (sym c.compass-3.ensures) ∙ sym c.hand-3.ensures ∙ c.in_ok-left.was) (ap (hand_at deal) (sym c.compass-4.ensures) ∙ sym c.hand-4.ensures ∙ c.in_ok-right.was)
    (sym c.has_hands.ensures ∙ c.if-has_hands.true)
