use Rattle.std.proofs.Common.{◌≡◌, ℕ, Ok, None, Some, Option, List, sym, ap, ◌∙◌, subst}
use Rattle.std.specs.Prelude.{ok_or}
use Rattle.pbn_deal.specs.Boards.{dealt_board, IsDealt}
use Rattle.pbn_deal.specs.Deal.{hand_at}
use Rattle.pbn_deal.proofs.DealtBoards.{dealt}
use Rattle.pbn_deal.proofs.read.deal_board.Goals as goal

some_from_ok_or : {T E : Type 0} (found : Option T) (refusal : E) (value : T) → ok_or found refusal ≡ Ok value → found ≡ Some value
some_from_ok_or None refusal value is = cc
some_from_ok_or (Some found) refusal value is = cc

pub new-requires : goal.new-requires
new-requires c =
    let own_is = sym c.hand.ensures ∙ some_from_ok_or c.hand.result _ _ (sym c.ok_or.ensures.value ∙ c.in_ok-own.was) in
    let dummy_is = ap (hand_at c.args.deal.now) (sym c.compass_of.ensures) ∙ sym c.hand-2.ensures ∙ some_from_ok_or c.hand-2.result _ _ (sym c.ok_or-2.ensures.value ∙ c.in_ok-dummy.was) in
    subst (λ (u : Option (List ℕ)). IsDealt (dealt_board c.args.declarer c.args.contract.trump c.in_ok-ending.ending.need c.in_ok-ending.ending.leader c.in_ok-own.own c.in_ok-dummy.dummy u))
    (sym c.unseen_cards.ensures)
    (dealt c.args.deal.now c.args.declarer c.args.contract.trump c.in_ok-ending.ending.need c.in_ok-ending.ending.leader c.in_ok-own.own c.in_ok-dummy.dummy c.requires.sound own_is dummy_is c.in_ok-ending.ensures.fits)
