-- The page of a report at a root.
use Rattle.std.specs.Prelude.{◌≡◌, ℕ, ◌+◌, ◌==◌, Bool, true, false, not, find, Option, None, Some, is_some, List, [], ◌∷◌, ◌++◌, length, sum, map, flat_map, codes, if◌then◌else◌}
use Rattle.std.specs.Fmt.{decimal}
use Rattle.std.specs.Option.{option_map}
use Rattle.card_sets.specs.declared.seat.Compass.{Compass}
use Rattle.trick_rules.specs.Positions.{PositionValue, to_play}
use Rattle.trick_rules.specs.Nodes.{NodeValue}
use Rattle.win_vectors.specs.Weights.{weight_of}
use Rattle.fusion_base.specs.declared.table.CardVector.{CardVector}
use Rattle.fusion_base.specs.Sampling.{card_vectors}
use Rattle.strategy_games.specs.Plans.{Plan, Stop, Play, Hear}
use Rattle.layout_facts.specs.Reasons.{what_decides}
use Rattle.pbn_text.specs.Games.{GameValue}
use Rattle.pbn_deal.specs.Boards.{BoardValue, compass_of}
use Rattle.pbn_deal.specs.Tags.{tag_named}
use Rattle.layout_list.specs.declared.kept.Cause.{Cause}
use Rattle.layout_list.specs.declared.kept.Cause.TheVariants.{NotHeld, Revoke}
use Rattle.layout_list.specs.declared.kept.Dropped.{Dropped}
use Rattle.layout_list.specs.Kept.{KeptValue}
use Rattle.am_report.specs.declared.version.Version.{Version}
use Rattle.am_report.specs.declared.version.Version.TheVariants.{Counts, Weights}
use Rattle.am_report.specs.Answers.{ReadEntryValue}
use Rattle.am_report.specs.Reading.{ReadReportValue}
use Rattle.told_plans.specs.Told.{Told}
use Rattle.told_layouts.specs.Looking.{step_layouts, reached}
use Rattle.told_words.specs.Words.{told_text}
use Rattle.told_words.specs.Reached.{lines_reached}
use Rattle.told_report.specs.ToldReport.{AreToldOf}
use Rattle.card_brackets.specs.declared.rows.CardRow.{CardRow}
use Rattle.card_brackets.specs.declared.table.CardTable.{CardTable}
use Rattle.html_text.specs.declared.page.Piece.{Piece}
use Rattle.html_text.specs.Pages.{own, told, written}
use Rattle.html_text.specs.Escapes.{escape}
use Rattle.page_text.specs.declared.beliefs.Belief.{Belief}
use Rattle.page_text.specs.declared.lines.Line.{Line}
use Rattle.page_text.specs.declared.markup.TheConstants.{NAVIGATION, REPORT, REPORT_END}
use Rattle.page_text.specs.declared.script.TheConstants.{END}
use Rattle.page_text.specs.declared.verdict.Rivals.{Rivals}
use Rattle.page_text.specs.declared.verdict.Rivals.TheVariants.{Reported, Planned, All}
use Rattle.page_text.specs.declared.verdict.Scale.{Scale}
use Rattle.page_text.specs.declared.verdict.Surety.{Surety}
use Rattle.page_text.specs.Cards.{cards}
use Rattle.page_text.specs.Frames.{TagValues, start, facts, report}
use Rattle.page_text.specs.Verdicts.{headline, best_from, promise, plans_all, horizon}
use Rattle.page_text.specs.Reasons.{kept_reason}
use Rattle.page_text.specs.Tables.{table}
use Rattle.page_text.specs.Lines.{trade_offs, lines_pieces}
use Rattle.page_text.specs.declared.partings.Beside.{Beside}
use Rattle.page_text.specs.Partings.{partings}
use Rattle.page_text.specs.Beliefs.{sampling}
use Rattle.page_text.specs.declared.plays.PlayedLine.{PlayedLine}
use Rattle.page_text.specs.declared.refutations.Refutation.{Refutation}
use Rattle.page_text.specs.Layouts.{LayoutsShown, layouts, file_numbers}
use Rattle.page_report.specs.Played.{ArePlayed}
use Rattle.page_report.specs.Refuted.{AreRefuted}
use Rattle.page_report.specs.BesideLines.{AreBeside}
use Rattle.page_report.specs.declared.markup.TheConstants.{DROPPED, AT_CARD, DROPPED_END}

-- ---- what a page shows

-- the first card of a strategy
abbrev pub first_card : Plan ℕ → Option ℕ
first_card Stop = None
first_card (Play card rest) = Some card
first_card (Hear replies) = None

-- a strategy of the report, by its number, with what decides its vector, its told plan in words, and the layouts that can reach
-- each line of these
abbrev pub line_of : Compass → NodeValue → ℕ → ReadEntryValue → Told → Line
line_of declarer node number read told = record {
  number = number;
  vector = read.entry.vector;
  weight = read.weight;
  begins = first_card read.entry.plan;
  reason = what_decides node read.entry.vector;
  words = told_text declarer (step_layouts read.entry.plan node) told node;
  reached = lines_reached (reached read.entry.plan node) told;
}

-- the strategies, numbered onwards from the first one's number
abbrev pub lines_from : Compass → NodeValue → ℕ → List ReadEntryValue → List Told → List Line
lines_from declarer node number (read ∷ entries) (told ∷ tolds) = line_of declarer node number read told ∷ lines_from declarer node (number + 1) entries tolds
lines_from declarer node number (read ∷ entries) [] = []
lines_from declarer node number [] tolds = []

-- the strategies with their words
pub record AreLines (declarer : Compass) (node : NodeValue) (entries : List ReadEntryValue) (lines : List Line) : Type 0 where
  pub tolds : List Told
  pub are_told : AreToldOf node entries tolds
  pub are_lines : lines ≡ lines_from declarer node 1 entries tolds

-- what plain sampling believes of a card
abbrev pub belief_of : List ℕ → CardVector → Belief
belief_of weights judged = record { card = judged.card; vector = judged.vector; weight = weight_of weights judged.vector }

-- what it believes of each card that can be played
abbrev pub beliefs_of : KeptValue → List Belief
beliefs_of kept = map (belief_of kept.weights) (card_vectors kept.node)

-- whether a report weighs its layouts
abbrev pub is_weighed : Version → Bool
is_weighed Counts = false
is_weighed Weights = true

-- what all kept layouts come to
abbrev pub scale_of : KeptValue → Version → Scale
scale_of kept version = record { total = sum kept.weights; by_weight = is_weighed version }

-- the value of a game's tag
abbrev pub value_of : List ℕ → GameValue → Option (List ℕ)
value_of name game = option_map (λ tag. tag.value) (tag_named name game)

-- what the page shows of a game's tags
abbrev pub tags_of : GameValue → TagValues
tags_of game = record { event = value_of (codes "Event") game; board = value_of (codes "Board") game; contract = value_of (codes "Contract") game }

-- why the play rules a layout out
abbrev pub cause_words : Cause → List ℕ
cause_words NotHeld = codes " of the play the defender doesn&#8217;t hold that card.</p>\n"
cause_words Revoke = codes " of the play the defender could have followed suit.</p>\n"

-- a layout that is left out, by its number in the layout file
unfoldable pub dropped_pieces : Dropped → List Piece
dropped_pieces layout = own DROPPED.now ++ told (decimal layout.number) ++ own AT_CARD.now ++ told (decimal layout.play) ++ own (cause_words layout.cause)

-- the layouts that are left out
unfoldable pub left_out : List Dropped → List Piece
left_out dropped = flat_map dropped_pieces dropped ++ own DROPPED_END.now

-- ---- the page

-- the lines that make no more than the best of a report, if it has the best of all that plan as many moves or not
abbrev pub rivals_of : Bool → PositionValue → ℕ → Rivals
rivals_of is_best position moves = if not is_best then Reported else if plans_all position moves then All else Planned

-- the row of a card, if it has one
abbrev pub row_in : ℕ → CardTable → Option CardRow
row_in card table = find (λ row. row.card == card) table.rows.items

-- the least that a card is known to win
abbrev pub least_of : ℕ → Option CardTable → Option ℕ
least_of card None = None
least_of card (Some table) = option_map (λ row. row.least) (row_in card table)

-- how far the lines of a report are planned, and what is known of its card
abbrev pub surety_of : KeptValue → ReadReportValue → Option CardTable → Surety
surety_of kept read known = record {
  moves = read.moves;
  all = plans_all kept.node.position read.moves;
  least = least_of read.card known;
}

-- the card to play, what it keeps, what decides that, and how far the lines are planned
unfoldable pub verdict : Option CardTable → Compass → KeptValue → ReadReportValue → List Line → List Piece
verdict known declarer kept read lines =
    headline kept.node.position read.card
    ++ promise (scale_of kept read.version) (surety_of kept read known) (rivals_of (is_some known) kept.node.position read.moves) read.card lines
    ++ kept_reason declarer read.card lines ++ horizon (surety_of kept read known) (best_from read.card lines)

-- the top of the page
unfoldable pub top : GameValue → BoardValue → KeptValue → ReadReportValue → Option CardTable → List Line → List Piece
top game board kept read known lines =
    start read.card (length kept.node.lefts) ++ facts (tags_of game) (compass_of board.declarer (to_play kept.node.position))
    ++ verdict known board.declarer kept read lines ++ own NAVIGATION.now

-- the lines side by side, with what plain sampling believes, and in words
unfoldable pub play : Compass → KeptValue → ReadReportValue → List Line → List (Option Refutation) → List Piece
play declarer kept read lines refuted =
    trade_offs (length kept.node.lefts) lines ++ sampling (scale_of kept read.version) (length kept.node.lefts) (beliefs_of kept) lines refuted
    ++ lines_pieces declarer (scale_of kept read.version) lines

-- what the page shows of the layouts that are kept
abbrev pub layouts_shown : BoardValue → KeptValue → ReadReportValue → List Line → List PlayedLine → LayoutsShown
layouts_shown board kept read lines played = record {
  declarer = board.declarer;
  node = kept.node;
  by_weight = is_weighed read.version;
  weights = kept.weights;
  lines = lines;
  played = played;
}

-- these layouts, and those that are left out
unfoldable pub all_layouts : BoardValue → KeptValue → ReadReportValue → List Line → List PlayedLine → List Piece
all_layouts board kept read lines played =
    layouts (layouts_shown board kept read lines played) ++ file_numbers kept.numbers ++ left_out kept.dropped

-- the table, the lines and where they part, and the layouts
unfoldable pub middle : BoardValue → KeptValue → ReadReportValue → List Line → List (Option Refutation) → List Beside → List PlayedLine → List Piece
middle board kept read lines refuted besides played =
    table board.declarer kept.node ++ play board.declarer kept read lines refuted ++ partings board.declarer kept.node.position (length lines) besides
    ++ all_layouts board kept read lines played

-- the page, which ends with the report: with every legal card, if the report was searched for
unfoldable pub page : GameValue → BoardValue → KeptValue → ReadReportValue → List ℕ → Option CardTable → List Line → List (Option Refutation) → List Beside → List PlayedLine → List Piece
page game board kept read bytes known lines refuted besides played =
    top game board kept read known lines ++ cards (scale_of kept read.version) read.card known ++ middle board kept read lines refuted besides played
    ++ report bytes ++ own END.now

-- a page of a report, with its strategies in words, where they part, the first of them played out, and why sampling believes in
-- more; and with every legal card if the report was searched for
pub record IsReportPage (game : GameValue) (board : BoardValue) (kept : KeptValue) (read : ReadReportValue) (bytes : List ℕ) (known : Option CardTable) (text : List ℕ) : Type 0 where
  pub lines : List Line
  pub besides : List Beside
  pub are_lines : AreLines board.declarer kept.node read.entries lines
  pub are_beside : AreBeside read.entries besides
  pub played : List PlayedLine
  pub are_played : ArePlayed kept.node read.entries played
  pub refuted : List (Option Refutation)
  pub are_refuted : AreRefuted kept.node read.entries lines (beliefs_of kept) refuted
  pub is_text : text ≡ written (page game board kept read bytes known lines refuted besides played)

-- a text has these bytes, escaped and nothing else, in the element that the report stands in
pub record HoldsReport (bytes text : List ℕ) : Type 0 where
  pub before : List ℕ
  pub after : List ℕ
  pub is_text : text ≡ before ++ (REPORT.now ++ (escape bytes ++ (REPORT_END.now ++ after)))

-- the page of a report holds that report
abbrev pub HoldsItsReport : Type 0
HoldsItsReport = (game : GameValue) (board : BoardValue) (kept : KeptValue) (read : ReadReportValue) (bytes : List ℕ) (known : Option CardTable) (text : List ℕ)
    → IsReportPage game board kept read bytes known text → HoldsReport bytes text
