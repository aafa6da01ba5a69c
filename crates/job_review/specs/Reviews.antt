-- Every decision of a played board, and what each card cost.
use Rattle.std.specs.Prelude.{◌≡◌, ⊤, ℕ, ◌+◌, List, [], ◌∷◌, length, max, sum, Contains, Err}
use Rattle.std.specs.List.{AllZip}
use Rattle.trick_rules.specs.Nodes.{NodeValue}
use Rattle.pbn_deal.specs.declared.board.Played.{Played}
use Rattle.pbn_deal.specs.Boards.{BoardValue, compass_of}
use Rattle.layout_list.specs.declared.fault.LayoutFault.{LayoutFault}
use Rattle.am_answer.specs.declared.status.Status.{Status}
use Rattle.am_answer.specs.declared.status.Status.TheVariants.{BadLayouts, NoTurn, Spent, Memory}
use Rattle.board_decisions.specs.declared.list.Decision.{Decision}
use Rattle.board_decisions.specs.Decisions.{trick_of, kept_before, IsTurn, AreDecisions}
use Rattle.card_brackets.specs.declared.rows.CardRow.{CardRow}
use Rattle.card_brackets.specs.declared.table.CardTable.{CardTable}
use Rattle.card_brackets.specs.Rows.{IsTableUpTo, IsSpentUpTo}
use Rattle.review_text.specs.declared.reviewed.Reviewed.{Reviewed}
use Rattle.text_forms.specs.declared.form.Form.{Form}
use Rattle.review_forms.specs.Forms.{review_in}

-- ---- what is told of a decision

-- the row of a card in a table
pub record IsRowOf (table : CardTable) (card : ℕ) (row : CardRow) : Type 0 where
  pub among : Contains table.rows.items row
  pub card_is : row.card ≡ card

-- the greatest weight that some card of a table is sure to win
abbrev pub greatest_sure : List CardRow → ℕ
greatest_sure [] = 0
greatest_sure (first ∷ later) = max first.least (greatest_sure later)

-- the bounds of the card played and of the card named, in the table of the cards side by side, and the greatest weight that some card
-- is sure to win; how many layouts the play allows, and what they weigh
pub record IsToldAt (n : NodeValue) (weights : List ℕ) (limit : ℕ) (told : Reviewed) : Type 0 where
  pub table : CardTable
  pub played : CardRow
  pub named : CardRow
  pub is_table : IsTableUpTo n weights limit table
  pub is_played : IsRowOf table told.played played
  pub most : told.most ≡ played.most
  pub least : told.least ≡ played.least
  pub is_named : IsRowOf table table.named named
  pub named_card : told.named ≡ table.named
  pub named_most : told.named_most ≡ named.most
  pub named_least : told.named_least ≡ named.least
  pub sure : told.sure ≡ greatest_sure table.rows.items
  pub layouts : told.layouts ≡ length weights
  pub weight : told.weight ≡ sum weights

-- told of a decision: the number and the trick of the card, counted from 1, the card, who played it, and what is told at its node
pub record IsToldOf (board : BoardValue) (limit : ℕ) (decision : Decision) (told : Reviewed) : Type 0 where
  pub number : told.number ≡ decision.place + 1
  pub trick : told.trick ≡ trick_of decision.place
  pub seat : told.seat ≡ compass_of board.declarer decision.played.seat
  pub card : told.played ≡ decision.played.card
  pub at_node : IsToldAt decision.kept.node decision.kept.weights limit told

-- ---- a board, and its text

-- told of each decision of a board, in order; there is at least one
pub record IsReview (board : BoardValue) (layouts : List ℕ) (limit from : ℕ) (told : List Reviewed) : Type 0 where
  pub first : Decision
  pub later : List Decision
  pub are_decisions : AreDecisions board layouts from (first ∷ later)
  pub are_told : AllZip (IsToldOf board limit) (first ∷ later) told

-- the text of such a review in a form
abbrev pub IsReviewText : BoardValue → List ℕ → ℕ → ℕ → Form → List ℕ → Type 0
IsReviewText board layouts limit from form text =
    (told : List Reviewed) × IsReview board layouts limit from told × (text ≡ review_in form limit told)

-- ---- why there is no review

-- a root card of a decision has a tree that is too large
pub record IsSpentBefore (board : BoardValue) (layouts : List ℕ) (limit from nodes card : ℕ) : Type 0 where
  pub decisions : List Decision
  pub decision : Decision
  pub are_decisions : AreDecisions board layouts from decisions
  pub among : Contains decisions decision
  pub spent : IsSpentUpTo decision.kept.node decision.kept.weights limit nodes card

-- the layout file is refused just before some card of declarer's side
abbrev pub IsRefusedBefore : BoardValue → List ℕ → ℕ → LayoutFault → Type 0
IsRefusedBefore board layouts from fault =
    (place : ℕ) × (played : Played) × IsTurn board from place played × (kept_before board layouts place ≡ Err fault)

-- such a card; no decision; such a layout file; or a failed allocation
abbrev pub IsReviewRefusal : BoardValue → List ℕ → ℕ → ℕ → ℕ → Status → Type 0
IsReviewRefusal board layouts limit from nodes (Spent card) = IsSpentBefore board layouts limit from nodes card
IsReviewRefusal board layouts limit from nodes NoTurn = AreDecisions board layouts from []
IsReviewRefusal board layouts limit from nodes (BadLayouts fault) = IsRefusedBefore board layouts from fault
IsReviewRefusal board layouts limit from nodes Memory = ⊤
IsReviewRefusal board layouts limit from nodes _ = ⊥
