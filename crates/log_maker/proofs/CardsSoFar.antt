-- The lines and the front of a node whose cards are taken one after another.
use Rattle.std.proofs.Common.{◌≡◌, ◌+◌, ◌<◌, ◌∙◌, ℕ, List, [], ◌∷◌, ◌++◌, length, sum_by, sym, ap, subst, append-nil, arith}
use Rattle.win_vectors.specs.Fronts.{Vector}
use Rattle.pareto_fronts.specs.FrontValue.{FrontValue}
use Rattle.trick_rules.specs.Nodes.{NodeValue, IsNode, choices, child}
use Rattle.strategy_games.specs.Plans.{tree_size}
use Rattle.strategy_tree.specs.Bridge.{bridge}
use Rattle.alphamu_core.proofs.Paid.{size_after}
use Rattle.log_check.specs.declared.lines.LogLine.{LogLine}
use Rattle.log_texts.specs.Written.{WrittenLog, IsLongerBy}
use Rattle.log_texts.proofs.Longer.{longer-more}
use Rattle.log_check.specs.LogsFor.{IsLogFrom, AreLogsFrom}
use Rattle.log_maker.specs.Steps.{HasGrown}
use Rattle.log_maker.proofs.FrontsSoFar.{cards_more}
use Rattle.log_maker.proofs.Growing.{AreWritten, written_more, written_size, sum_so_far}

-- these cards are left; the front is of the others, each with this many moves after it, and the log has grown by their lines
pub record CardsSoFar (is_front : List ℕ → List Vector → Type 0) (n : NodeValue) (moves : ℕ) (path : List ℕ) (before : WrittenLog)
    (cards : List ℕ) (front : FrontValue) (numbers : List ℕ) (after : WrittenLog) : Type 0 where
  pub earlier : List ℕ
  pub are : choices n ≡ earlier ++ cards
  pub width : front.width ≡ length n.lefts
  pub best : is_front earlier front.vectors
  pub written : AreWritten n moves path before earlier numbers after

module _ {is_front : List ℕ → List Vector → Type 0} {n : NodeValue} {moves : ℕ} {path : List ℕ} {before mid : WrittenLog} {cards : List ℕ} {front : FrontValue} {numbers : List ℕ}
    (so : CardsSoFar is_front n moves path before cards front numbers mid) where
  -- the next card is one of the choices
  pub with_next : {card : ℕ} {rest : List ℕ} → cards ≡ card ∷ rest → choices n ≡ so.earlier ++ card ∷ rest
  with_next next = so.are ∙ ap (λ cs. so.earlier ++ cs) next

  -- the log has grown by its lines
  pub written_next : (card : ℕ) {number : ℕ} {behind more_numbers : List ℕ} {kept : NodeValue} {after : WrittenLog}
      → HasGrown kept moves behind mid after → kept ≡ child n card → behind ≡ path ++ card ∷ [] → number ≡ after.count → more_numbers ≡ numbers ++ number ∷ []
      → AreWritten n moves path before (so.earlier ++ card ∷ []) more_numbers after
  written_next card {number} {behind} {more_numbers} {kept} {after} grown kept_is behind_is number_is numbers_are =
      subst (λ (ns : List ℕ). AreWritten n moves path before (so.earlier ++ card ∷ []) ns after) (sym numbers_are)
      (written_more n kept moves path behind before mid after so.earlier numbers card number so.written grown kept_is behind_is number_is)

  -- it is taken
  pub one_more : {card number : ℕ} {rest behind more_numbers : List ℕ} {kept : NodeValue} {wider : FrontValue} {after : WrittenLog} → cards ≡ card ∷ rest
      → wider.width ≡ front.width → is_front (so.earlier ++ card ∷ []) wider.vectors
      → HasGrown kept moves behind mid after → kept ≡ child n card → behind ≡ path ++ card ∷ [] → number ≡ after.count → more_numbers ≡ numbers ++ number ∷ []
      → CardsSoFar is_front n moves path before rest wider more_numbers after
  one_more {card} {number} {rest} {behind} {more_numbers} {kept} {wider} {after} next same_width best grown kept_is behind_is number_is numbers_are = record {
    earlier = so.earlier ++ card ∷ [];
    are = cards_more (choices n) so.earlier rest card (with_next next);
    width = same_width ∙ so.width;
    best = best;
    written = written_next card grown kept_is behind_is number_is numbers_are;
  }

  -- where a child's tree is too large for the limit, the node's is
  pub spent_at : (m limit late : ℕ) (kept : NodeValue) {card : ℕ} {rest : List ℕ} → cards ≡ card ∷ rest → tree_size bridge n m ≡ 1 + sum_by (size_after n moves) (choices n) → IsNode n
      → kept ≡ child n card → late ≡ limit → late < mid.count + tree_size bridge kept moves → limit < before.count + tree_size bridge n m
  spent_at m limit late kept {card} {rest} next whole sound kept_is same over =
      let are = with_next next in
      let long = written_size n moves path before mid so.earlier numbers (card ∷ rest) sound are so.written in
      let sums = sum_so_far (size_after n moves) (choices n) so.earlier rest card are in
      let size : tree_size bridge kept moves ≡ size_after n moves card = ap (λ (k : NodeValue). tree_size bridge k moves) kept_is in
      omega arith

  -- once no card is left
  module _ (none : cards ≡ []) where
    all_cards : so.earlier ≡ choices n
    all_cards = sym (so.are ∙ ap (λ cs. so.earlier ++ cs) none ∙ append-nil so.earlier)

    -- where no line more fits, the node's tree is too large
    pub spent_last : (m limit late : ℕ) → tree_size bridge n m ≡ 1 + sum_by (size_after n moves) (choices n) → IsNode n → late ≡ limit → late < mid.count + 1
        → limit < before.count + tree_size bridge n m
    spent_last m limit late whole sound same over =
        let long = written_size n moves path before mid so.earlier numbers cards sound so.are so.written in
        let sums = ap (sum_by (size_after n moves)) all_cards in
        omega arith

    -- the node's own line ends its log
    pub grown_by : (m : ℕ) (line own : LogLine) (after : WrittenLog)
        → ((lines : List LogLine) → AreLogsFrom n moves path before.count (choices n) numbers lines → IsLogFrom n m path before.count (lines ++ own ∷ []))
        → line ≡ own → IsLongerBy (line ∷ []) mid after → HasGrown n m path before after
    grown_by m line own after ends line_is longer = record {
      lines = so.written.lines ++ own ∷ [];
      longer = longer-more so.written.lines (own ∷ []) before mid after so.written.longer (subst (λ (l : LogLine). IsLongerBy (l ∷ []) mid after) line_is longer);
      are = ends so.written.lines (subst (λ cs. AreLogsFrom n moves path before.count cs numbers so.written.lines) all_cards so.written.are);
    }
