-- The board of a root that was read, and its kept layouts.
use Rattle.std.proofs.Common.{◌≡◌, ℕ, Bool, true, false, cond, Result, Ok, Err, List, ap, subst}
use Rattle.byte_text.specs.Steps.{◌>>=◌}
use Rattle.pbn_deal.specs.Boards.{BoardValue}
use Rattle.layout_list.specs.Kept.{KeptValue}
use Rattle.am_answer.specs.declared.root.Root.{Root}
use Rattle.am_answer.specs.declared.status.Status.{Status}
use Rattle.am_answer.specs.declared.status.Status.TheVariants.{NoTurn}
use Rattle.am_answer.specs.Answers.{board_in, kept_in, has_choice, with_turn, root_on, root_in}

same : (a b : Root) → ◌≡◌ {A = Result Root Status} (Ok a) (Ok b) → a ≡ b
same a b h = cc

turned : (t : Bool) (a root : Root) → ◌≡◌ {A = Result Root Status} (cond t (Ok a) (Err NoTurn)) (Ok root) → a ≡ root
turned true a root h = same a root h
turned false a root h = absurd cc

on_kept : (board : BoardValue) (kept : Result KeptValue Status) (root : Root) → (kept >>= (λ k. with_turn (record { board = board; kept = k }))) ≡ Ok root → (board ≡ root.board) × (kept ≡ Ok root.kept)
on_kept board (Ok kept) root h =
    let whole = turned (has_choice kept.node) (record { board = board; kept = kept }) root h in
    (ap (λ (r : Root). r.board) whole, ap (λ (r : Root). Ok r.kept) whole)
on_kept board (Err status) root h = absurd cc

on_board : (board : BoardValue) (layouts : List ℕ) (root : Root) → root_on board layouts ≡ Ok root → (board ≡ root.board) × (kept_in layouts board ≡ Ok root.kept)
unfolding root_on
on_board board layouts root h = on_kept board (kept_in layouts board) root h

of_board : (board : Result BoardValue Status) (layouts : List ℕ) (root : Root) → (board >>= (λ b. root_on b layouts)) ≡ Ok root → (board ≡ Ok root.board) × (kept_in layouts root.board ≡ Ok root.kept)
of_board (Ok board) layouts root h =
    let on = on_board board layouts root h in
    (ap (λ b. Ok b) on.0, subst (λ b. kept_in layouts b ≡ Ok root.kept) on.0 on.1)
of_board (Err status) layouts root h = absurd cc

module _ (deal layouts : List ℕ) (root : Root) where
  of_root : root_in deal layouts ≡ Ok root → (board_in deal ≡ Ok root.board) × (kept_in layouts root.board ≡ Ok root.kept)
  unfolding root_in
  of_root h = of_board (board_in deal) layouts root h

  pub board_of_root : root_in deal layouts ≡ Ok root → board_in deal ≡ Ok root.board
  board_of_root h = (of_root h).0

  pub kept_of_root : root_in deal layouts ≡ Ok root → kept_in layouts root.board ≡ Ok root.kept
  kept_of_root h = (of_root h).1
