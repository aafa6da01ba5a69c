-- The games of a report that was judged good.
use Rattle.std.proofs.Common.{◌≡◌, ◌≤◌, ◌++◌, ℕ, zero, suc, Result, Ok, Err, IsErrAnd, List, [], ◌∷◌, length, All, get_or, sym, subst, le_of_suc-le-suc, arith}
use Rattle.std.specs.Prelude.{IfErr, codes}
use Rattle.byte_text.specs.Lines.{line_of}
use Rattle.trick_rules.specs.Nodes.{NodeValue}
use Rattle.strategy_games.specs.Plans.{Fits}
use Rattle.strategy_tree.specs.Bridge.{bridge}
use Rattle.pbn_text.specs.Games.{GameValue}
use Rattle.pbn_text.specs.Grammar.{games_read}
use Rattle.am_report.specs.Answers.{ReadEntryValue}
use Rattle.am_report.specs.Reading.{ReadReportValue, report_read}
use Rattle.am_answer.specs.declared.root.Root.{Root}
use Rattle.am_answer.specs.declared.status.Status.{Status}
use Rattle.am_answer.specs.declared.status.Status.TheVariants.{Done, Refuted, BadWords, Unread, BadPbn, BadLayouts, NoTurn, Spent, Unwritten, Memory, TooLong, BadReport, BadMake, NoLayout, BadLog, Unproved, GameSpent, TooManyGames}
use Rattle.am_answer.specs.Judging.{plans_in}
use Rattle.am_answer.specs.Stages.{IsFileRefusal}
use Rattle.job_told.proofs.GoodPlans.{AreGood}
use Rattle.job_lines.specs.LinesJob.{AreGames, IsLinesReport}

-- each plan is a strategy
pub good_fits : (node : NodeValue) (moves : ℕ) (entries : List ReadEntryValue) → AreGood node moves entries → All (λ read. (m : ℕ) × Fits bridge read.entry.plan node m) entries
good_fits node moves [] good k d below = absurd (omega (arith, below))
good_fits node moves (read ∷ entries) good zero d below = (moves, good.0.fits)
good_fits node moves (read ∷ entries) good (suc k) d below = good_fits node moves entries good.1 k d (le_of_suc-le-suc below)

pub lines_report : (deal bytes : List ℕ) (root : Root) (report : ReadReportValue) (all : List GameValue) (game : GameValue) (games now : List ℕ)
    → games_read deal ≡ Ok all → 1 ≤ length all → game ≡ get_or all 0 game → report_read bytes ≡ Ok report → plans_in root bytes ≡ Ok (length report.entries)
    → AreGames game root report.entries games → now ≡ line_of (codes "% alphamu lines 1") ++ games → IsLinesReport deal root bytes now
lines_report deal bytes root report [] game games now is_games some is_first read good are written = absurd (omega (arith, some))
lines_report deal bytes root report (first ∷ others) game games now is_games some is_first read good are written = record {
  game = first;
  others = others;
  report = report;
  games = games;
  is_game = is_games;
  is_read = read;
  is_good = good;
  are_games = subst (λ (g : GameValue). AreGames g root report.entries games) is_first are;
  is_text = written;
}

-- ---- what was read before is read again, unless there is no memory

accepted : {A : Type 0} (expected : Result A Status) (x : A) (status : Status) → expected ≡ Ok x → expected ≡ Err status → ⊥
accepted expected x status ok refused = cc

only_memory : {A B : Type 0} (expected : Result A Status) (other : Result B Status) (x : A) (status : Status) → expected ≡ Ok x → IsFileRefusal expected status → IsFileRefusal other status
only_memory expected other x Memory ok refused = tt
only_memory expected other x Done ok refused = refused
only_memory expected other x BadWords ok refused = refused
only_memory expected other x (Unread a) ok refused = refused
only_memory expected other x (Spent a) ok refused = refused
only_memory expected other x (GameSpent a b) ok refused = refused
only_memory expected other x (Unproved a) ok refused = refused
only_memory expected other x Unwritten ok refused = refused
only_memory expected other x (TooLong a) ok refused = refused
only_memory expected other x (Refuted a b) ok refused = absurd (accepted expected x (Refuted a b) ok refused)
only_memory expected other x (BadPbn a b) ok refused = absurd (accepted expected x (BadPbn a b) ok refused)
only_memory expected other x (BadLayouts a) ok refused = absurd (accepted expected x (BadLayouts a) ok refused)
only_memory expected other x NoTurn ok refused = absurd (accepted expected x NoTurn ok refused)
only_memory expected other x (BadReport a b) ok refused = absurd (accepted expected x (BadReport a b) ok refused)
only_memory expected other x (BadMake a) ok refused = absurd (accepted expected x (BadMake a) ok refused)
only_memory expected other x (NoLayout a) ok refused = absurd (accepted expected x (NoLayout a) ok refused)
only_memory expected other x (BadLog a) ok refused = absurd (accepted expected x (BadLog a) ok refused)
only_memory expected other x (TooManyGames a) ok refused = absurd (accepted expected x (TooManyGames a) ok refused)

-- the status that `?` passes on
pub refused_on : {T A B : Type 0} (result : Result T Status) (status : Status) (expected : Result A Status) (other : Result B Status) (x : A)
    → IsErrAnd result (λ e. e ≡ status) → expected ≡ Ok x → IsFileRefusal expected status → IfErr result (IsFileRefusal other)
refused_on (Ok y) status expected other x passed ok refused = absurd passed
refused_on (Err e) status expected other x passed ok refused = subst (λ s. IsFileRefusal other s) (sym passed) (only_memory expected other x status ok refused)
