use Rattle.std.proofs.Common.{◌≡◌, List, take, sym, subst, arith}
use Rattle.std.proofs.lemmas.Grind.{common_steps}
use Rattle.pbn_deal.specs.declared.board.Played.{Played}
use Rattle.pbn_deal.specs.Boards.{BoardValue, IsBoard}
use Rattle.pbn_deal.proofs.Earlier.{sound_before}
use Rattle.pbn_deal.proofs.board.Board.before.Goals as goal

pub invariant_of-result : goal.invariant_of-result
invariant_of-result c =
    let own = c.self.inside in
    let board : BoardValue = record {
      declarer = own.declarer;
      trump = own.trump;
      need = own.need;
      leader = own.leader;
      declarer_hand = own.declarer_hand;
      dummy_hand = own.dummy_hand;
      unseen = own.unseen;
      plays = own.plays.items;
    } in
    let same : c.in_ok-from_slice.field-0.items ≡ take c.args.place own.plays.items = grind (arith, common_steps) in
    subst (λ (plays : List Played). IsBoard (record board { plays = plays })) (sym same) (sound_before board c.args.place c.self.invariant)
