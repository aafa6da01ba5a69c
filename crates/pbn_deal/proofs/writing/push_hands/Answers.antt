use Rattle.std.proofs.Common.{◌++◌, sym, ap, ◌∙◌}
use Rattle.pbn_deal.specs.Writing.{shown_text}
use Rattle.pbn_deal.proofs.Written.{four_joined, hands_text-joined}
use Rattle.pbn_deal.proofs.writing.push_hands.Goals as goal

pub returns : goal.returns
returns c =
    let args = c.args in
    rw (c.in_ok-push_shown-4.ensures, c.in_ok-push-3.ensures.appended, c.in_ok-push_shown-3.ensures, c.in_ok-push-2.ensures.appended, c.in_ok-push_shown-2.ensures, c.in_ok-push.ensures.appended, c.in_ok-push_shown.ensures)
    (four_joined args.text.now 32 (shown_text args.north) (shown_text args.east) (shown_text args.south) (shown_text args.west) ∙ ap (λ t. args.text.now ++ t) (sym (hands_text-joined args.north args.east args.south args.west)))
