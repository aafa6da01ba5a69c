-- What a layout that was read keeps.
use Rattle.std.proofs.Common.{◌≡◌, ℕ, true, List, [], ◌∷◌, All, subst, arith, Option, None, Some, sym, ap, ◌∙◌}
use Rattle.std.specs.Prelude.{bytes_eq, ◌&&◌}
use Rattle.std.proofs.lemmas.Bool.{and_parts}
use Rattle.std.proofs.lemmas.Slice.Eq.{bytes_eq-Decides}
use Rattle.card_sets.specs.declared.seat.Seat.TheVariants.{Left, Dummy, Right}
use Rattle.pbn_deal.specs.declared.deal.DealValue.{DealValue}
use Rattle.pbn_deal.specs.Boards.{BoardValue, compass_of}
use Rattle.pbn_deal.specs.Deal.{hand_at, IsSoundDeal}
use Rattle.pbn_deal.proofs.DealtBoards.{both_fit}
use Rattle.layout_list.specs.declared.line.Weighed.{Weighed}
use Rattle.layout_list.specs.Lines.{same_set, FitsBoard, FitsOver, AreOver, IsOneDeal}

same_list : (xs ys : List ℕ) → bytes_eq xs ys ≡ true → xs ≡ ys
same_list xs ys same = (bytes_eq-Decides xs ys).0 same

pub fits_board : (board : BoardValue) (deal : DealValue) (own dummy left right : List ℕ) → IsSoundDeal deal
    → hand_at deal board.declarer ≡ Some own → hand_at deal (compass_of board.declarer Dummy) ≡ Some dummy
    → hand_at deal (compass_of board.declarer Left) ≡ Some left → hand_at deal (compass_of board.declarer Right) ≡ Some right
    → (same_set own board.declarer_hand && same_set dummy board.dummy_hand) ≡ true
    → FitsBoard board (record { left = left; right = right })
fits_board board deal own dummy left right sound own_is dummy_is left_is right_is same =
    let parts = and_parts (same_set own board.declarer_hand) (same_set dummy board.dummy_hand) same in
    let own_same = own_is ∙ ap Some (same_list own board.declarer_hand parts.0) in
    let dummy_same = dummy_is ∙ ap Some (same_list dummy board.dummy_hand parts.1) in
    record {
      left_set = sound.set (compass_of board.declarer Left) left left_is;
      left_size = sound.one_size (compass_of board.declarer Left) board.declarer left board.declarer_hand left_is own_same;
      unseen = both_fit deal board.declarer board sound own_same dummy_same (Some left) (Some right) left_is right_is;
    }

-- layouts over the same cards are one deal
pub one_deal : (board : BoardValue) (unseen : Option (List ℕ)) (layouts : List Weighed) → AreOver board unseen layouts → IsOneDeal board layouts
one_deal board None layouts none = subst (IsOneDeal board) (sym none) tt
one_deal board (Some unseen) [] over = tt
one_deal board (Some unseen) (first ∷ rest) over = subst (λ (u : List ℕ). All (λ w. FitsOver board u w.layout) (first ∷ rest)) (sym (over 0 first (omega arith)).same) over
