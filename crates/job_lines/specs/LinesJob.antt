-- The strategies of a report as games, each in each layout.
use Rattle.std.specs.Prelude.{◌≡◌, ◌<◌, ◌^◌, ℕ, Bool, zero, suc, ◌+◌, ◌*◌, All, List, [], ◌∷◌, ◌++◌, length, map, slice_get, Some, Ok, codes}
use Rattle.byte_text.specs.Lines.{line_of}
use Rattle.card_sets.specs.declared.seat.Seat.TheVariants.{Left, Right}
use Rattle.trick_rules.specs.Positions.{State}
use Rattle.trick_rules.specs.Play.{hand_of}
use Rattle.trick_rules.specs.Nodes.{states}
use Rattle.strategy_games.specs.Plans.{Fits, wins}
use Rattle.strategy_tree.specs.Bridge.{bridge}
use Rattle.pbn_text.specs.Games.{GameValue}
use Rattle.pbn_text.specs.Grammar.{games_read}
use Rattle.line_plays.specs.Defended.{PlaysOut}
use Rattle.am_report.specs.Answers.{ReadEntryValue}
use Rattle.am_report.specs.Reading.{ReadReportValue, report_read}
use Rattle.am_answer.specs.declared.root.Root.{Root}
use Rattle.am_answer.specs.Judging.{plans_in}
use Rattle.pbn_games.specs.declared.game.Shown.{Shown}
use Rattle.pbn_games.specs.GameText.{dealt_hand, game_text}

-- the strategies of a report fit the root, and each of its layouts has a number
pub record AreLines (root : Root) (entries : List ReadEntryValue) : Type 0 where
  pub few : length entries < 2 ^ 32
  pub as_many : length root.kept.numbers ≡ length root.kept.node.lefts
  pub fits : All (λ read. (moves : ℕ) × Fits bridge read.entry.plan root.kept.node moves) entries

-- texts one after another, one for each place, which are counted from 0
abbrev pub AreTexts : (ℕ → List ℕ → Type 0) → ℕ → List ℕ → Type 0
AreTexts IsText zero text = text ≡ []
AreTexts IsText (suc place) text =
    (before : List ℕ) × (last : List ℕ) × AreTexts IsText place before × IsText place last × (text ≡ before ++ last)

-- what is shown of one of these strategies in a layout, by their places, if there are `lines` of them
abbrev pub shown_at : Root → ℕ → ℕ → ℕ → Bool → ℕ → State → Shown
shown_at root lines line place made number s = record {
  board = line * length root.kept.node.lefts + place + 1;
  line = line + 1;
  lines = lines;
  layout = number;
  made = made;
  left = dealt_hand root.board.plays Left (hand_of s Left);
  right = dealt_hand root.board.plays Right (hand_of s Right);
}

-- the game of a strategy in a layout, by their places: the play so far, and then the strategy played out
pub record IsGameAt (game : GameValue) (root : Root) (entries : List ReadEntryValue) (line place : ℕ) (text : List ℕ) : Type 0 where
  pub read : ReadEntryValue
  pub number : ℕ
  pub state : State
  pub cards : List ℕ
  pub at_line : slice_get entries line ≡ Some read
  pub at_number : slice_get root.kept.numbers place ≡ Some number
  pub at_layout : slice_get (states root.kept.node) place ≡ Some state
  pub played : PlaysOut read.entry.plan state cards
  pub is_text : text ≡ game_text game root.board (shown_at root (length entries) line place (wins bridge read.entry.plan state) number state) (map (λ play. play.card) root.board.plays ++ cards)

-- a game for each strategy and each kept layout
abbrev pub AreGames : GameValue → Root → List ReadEntryValue → List ℕ → Type 0
AreGames game root entries = AreTexts (λ line. AreTexts (IsGameAt game root entries line) (length root.kept.node.lefts)) (length entries)

-- the games of a report whose plans are all good, with the tags of the deal file's first game
pub record IsLinesReport (deal : List ℕ) (root : Root) (bytes text : List ℕ) : Type 0 where
  pub game : GameValue
  pub others : List GameValue
  pub report : ReadReportValue
  pub games : List ℕ
  pub is_game : games_read deal ≡ Ok (game ∷ others)
  pub is_read : report_read bytes ≡ Ok report
  pub is_good : plans_in root bytes ≡ Ok (length report.entries)
  pub are_games : AreGames game root report.entries games
  pub is_text : text ≡ line_of (codes "% alphamu lines 1") ++ games
