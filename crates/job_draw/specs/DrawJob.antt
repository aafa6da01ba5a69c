-- Layouts that are drawn for a deal, as a layout file.
use Rattle.std.specs.Prelude.{◌≡◌, ◌⊎◌, ℕ, List, Result, Ok, Err, Some, ◌++◌, length, codes}
use Rattle.std.specs.Fmt.{decimal}
use Rattle.byte_text.specs.Lines.{line_of}
use Rattle.pbn_deal.specs.Boards.{BoardValue}
use Rattle.layout_list.specs.declared.line.Layout.{Layout}
use Rattle.layout_maker.specs.declared.fault.MakeFault.{MakeFault}
use Rattle.hand_conditions.specs.declared.term.Term.{Term}
use Rattle.layout_draw.specs.Fitting.{fitting_made, IsDrawOf}
use Rattle.am_report.specs.LayoutFile.{list_text}
use Rattle.job_words.specs.declared.draw.Draw.{Draw}
use Rattle.am_answer.specs.declared.status.Status.{Status}
use Rattle.am_answer.specs.Answers.{board_in}
use Rattle.am_answer.specs.Refusals.{make_status}
use Rattle.am_answer.specs.Stages.{IsFileRefusal}
use Rattle.job_draw.specs.Seats.{AreOnDefenders, told_of_ours}
use Rattle.job_draw.specs.declared.refusal.DrawRefusal.{DrawRefusal}
use Rattle.job_draw.specs.declared.refusal.DrawRefusal.TheVariants.{NotDefender, Refused}

-- how many layouts were drawn, of how many, and by which number
unfoldable pub draw_line : ℕ → ℕ → ℕ → List ℕ
draw_line drawn count seed =
    line_of (codes "% " ++ decimal drawn ++ codes " of " ++ decimal count
    ++ codes " layouts that the play and these conditions allow, seed " ++ decimal seed)

-- that line, and then the layouts as `list` writes them
unfoldable pub draw_text : BoardValue → ℕ → ℕ → List Layout → List ℕ
draw_text board seed count layouts = draw_line (length layouts) count seed ++ list_text board layouts

-- the file of layouts drawn from those that fit a board
pub record IsDrawnFrom (board : BoardValue) (draw : Draw) (left right : List (List Term)) (text : List ℕ) : Type 0 where
  pub count : ℕ
  pub layouts : List Layout
  pub is_draw : IsDrawOf (fitting_made board left right) draw.amount count layouts
  pub text_is : text ≡ draw_text board draw.seed count layouts

-- the file of layouts drawn for a board, which meet the conditions on the defenders' hands
pub record IsDrawFor (board : BoardValue) (draw : Draw) (text : List ℕ) : Type 0 where
  pub left : List (List Term)
  pub right : List (List Term)
  pub on_defenders : AreOnDefenders board.declarer draw.conditions left right
  pub drawn : IsDrawnFrom board draw left right text

-- the file of layouts drawn for the board of a deal file
abbrev pub IsDrawFile : List ℕ → Draw → List ℕ → Type 0
IsDrawFile deal draw text = (board : BoardValue) × (board_in deal ≡ Ok board) × IsDrawFor board draw text

-- fitting layouts, or the status of their refusal
abbrev pub fitting_or : Result (List Layout) MakeFault → Result (List Layout) Status
fitting_or (Ok layouts) = Ok layouts
fitting_or (Err fault) = Err (make_status fault)

-- no layout fits, or the board doesn't show the unseen cards, or an allocation failed
abbrev pub IsNoneFitting : BoardValue → Draw → Status → Type 0
IsNoneFitting board draw status = (left : List (List Term)) × (right : List (List Term))
    × AreOnDefenders board.declarer draw.conditions left right × IsFileRefusal (fitting_or (fitting_made board left right)) status

-- why no layouts are drawn for a board: a condition is on a hand of declarer's side, or no layout fits
abbrev pub IsRefusedFor : BoardValue → Draw → DrawRefusal → Type 0
IsRefusedFor board draw (NotDefender option) = told_of_ours board.declarer draw.conditions ≡ Some option
IsRefusedFor board draw (Refused status) = IsNoneFitting board draw status

-- the deal file is refused
abbrev pub IsDealRefusal : List ℕ → DrawRefusal → Type 0
IsDealRefusal deal (NotDefender option) = ⊥
IsDealRefusal deal (Refused status) = IsFileRefusal (board_in deal) status

-- why no layouts are drawn for the board of a deal file
abbrev pub IsDrawRefusal : List ℕ → Draw → DrawRefusal → Type 0
IsDrawRefusal deal draw refusal =
    IsDealRefusal deal refusal ⊎ ((board : BoardValue) × (board_in deal ≡ Ok board) × IsRefusedFor board draw refusal)
