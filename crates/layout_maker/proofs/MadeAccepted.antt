-- The two texts of a number are accepted.
use Rattle.std.proofs.Common.{◌≡◌, ℕ, suc, ◌+◌, ◌≤◌, false, List, ◌∷◌, length, map, take, drop, None, Ok, refl, ap, ◌∙◌, arith}
use Rattle.std.specs.Prelude.{All, ◌==◌, Result}
use Rattle.std.specs.List.{enumerate_from}
use Rattle.std.specs.List.Sorted.{IsPermutation}
use Rattle.std.proofs.lemmas.List.{length-map}
use Rattle.std.proofs.lemmas.List.Elements.{All-weaker}
use Rattle.std.proofs.lemmas.List.Sorted.{IsPermutation-refl}
use Rattle.pbn_deal.specs.BoardRead.{together}
use Rattle.byte_text.specs.Steps.{◌>>=◌}
use Rattle.layout_list.specs.declared.fault.LayoutFault.{LayoutFault}
use Rattle.layout_list.specs.declared.line.Weighed.{Weighed}
use Rattle.layout_list.specs.Kept.{KeptValue}
use Rattle.layout_list.specs.Lines.{layout_lines, numbered_lines, lines_read}
use Rattle.layout_list.specs.Layouts.{kept_of, layouts_read}
use Rattle.layout_list.specs.Verdicts.{first_position}
use Rattle.layout_maker.specs.Generator.{Shuffle, shuffled, orders}
use Rattle.layout_maker.specs.MadeProblem.{dealt, set_of, undealt, made_deal, made_layouts, IsAcceptedProblem}
use Rattle.layout_maker.proofs.Shuffles.{orders-permutations, length-orders}
use Rattle.layout_maker.proofs.MadeHands.{AreHands, length-set_of, length-undealt, dealt_hands}
use Rattle.layout_maker.proofs.MadeLayouts.{made_board, weighed_by, IsLayout, lines_read-made, dropped-none, length-numbers_kept, whole_kept, kept_of-made, length-layout_file}
use Rattle.layout_maker.proofs.MadeBoards.{made_game, own_text, board_read-made}
use Rattle.layout_maker.proofs.MadeTags.{games_read-made, length-deal_file}

-- South's cards and North's, in the order in which they are dealt
abbrev south_cards : ℕ → List ℕ
south_cards number = take 5 (dealt number).items

abbrev north_cards : ℕ → List ℕ
north_cards number = take 5 (drop 5 (dealt number).items)

hands_of : (number : ℕ) → AreHands (south_cards number) (north_cards number) (take 5 (undealt number).items) (drop 5 (undealt number).items)
hands_of number = dealt_hands number (undealt number).items (IsPermutation-refl (undealt number).items)

-- ---- layouts

orders-suc : (times : ℕ) (shuffle : Shuffle) → orders (suc times) shuffle ≡ (shuffled shuffle).items ∷ orders times (shuffled shuffle)
unfolding orders
orders-suc times shuffle = refl

each_layout : (number : ℕ) → All (IsLayout (north_cards number) (south_cards number) (undealt number).items) (orders 40 (undealt number))
each_layout number =
    let cards = (undealt number).items in
    All-weaker (IsPermutation cards) (IsLayout (north_cards number) (south_cards number) cards) (λ order moved. record { hands = dealt_hands number order moved; moved = moved }) (orders 40 (undealt number))
    (orders-permutations 40 (undealt number) (omega (arith, length-undealt number)))

abbrev first_layout : ℕ → Weighed
first_layout number = weighed_by (shuffled (undealt number)).items

abbrev later_layouts : ℕ → List Weighed
later_layouts number = map weighed_by (orders 39 (shuffled (undealt number)))

abbrev made_kept : ℕ → KeptValue
made_kept number = whole_kept (north_cards number) (south_cards number) (first_layout number) (later_layouts number)

layouts_read-made : (number : ℕ) → layouts_read (made_layouts number) (made_board (north_cards number) (south_cards number)) ≡ Ok (made_kept number)
unfolding layouts_read made_layouts
layouts_read-made number =
    let north = north_cards number in
    let south = south_cards number in
    let cards = (undealt number).items in
    let all = orders 40 (undealt number) in
    let board = made_board north south in
    let few : 0 + length all ≤ 256 = omega (arith, length-orders 40 (undealt number)) in
    let lines : lines_read board None 0 (layout_lines (numbered_lines (made_layouts number))) ≡ Ok (map weighed_by all) = lines_read-made north south cards all (each_layout number) None 1 0 refl few in
    ap (λ (found : Result (List Weighed) LayoutFault). found >>= kept_of board) (lines ∙ ap (λ (l : List (List ℕ)). Ok (map weighed_by l)) (orders-suc 39 (undealt number)))
    ∙ kept_of-made north south (first_layout number) (later_layouts number)

-- ---- the whole

is_over-made : (own : List ℕ) → length own ≡ 5 → ((length own + 0) == 0) ≡ false
is_over-made own five = rw (five) refl

pub accepted : (number : ℕ) → IsAcceptedProblem number
unfolding made_deal made_layouts
accepted number =
    let north = north_cards number in
    let south = south_cards number in
    let hands = hands_of number in
    let t = first_position (made_board north south) (together (first_layout number).layout.left (first_layout number).layout.right) in
    let five : length (set_of south) ≡ 5 = length-set_of south (λ card. omega (arith, hands.inside card)) ∙ hands.south_five in
    record {
      game = made_game (own_text north south);
      board = made_board north south;
      kept = made_kept number;
      one_game = games_read-made (set_of north) (set_of south);
      its_board = board_read-made south north (take 5 (undealt number).items) (drop 5 (undealt number).items) hands;
      its_layouts = layouts_read-made number;
      forty = length-numbers_kept t (first_layout number ∷ later_layouts number)
          ∙ ap (λ n. suc n) (length-map (orders 39 (shuffled (undealt number))) weighed_by ∙ length-orders 39 (shuffled (undealt number)));
      none_dropped = dropped-none t (enumerate_from 1 (first_layout number ∷ later_layouts number));
      is_on = is_over-made (set_of south) five;
      own_turn = refl;
      short_deal = omega (arith, length-deal_file (set_of north) (set_of south));
      short_layouts = omega (arith, length-layout_file (set_of north) (set_of south) (orders 40 (undealt number)), length-orders 40 (undealt number));
    }
