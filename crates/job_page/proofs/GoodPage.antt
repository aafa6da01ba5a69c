-- The page of a report that was judged good.
use Rattle.std.proofs.Common.{◌≡◌, ◌≤◌, ℕ, zero, suc, true, Ok, Option, None, List, [], ◌∷◌, length, get_or, All, subst, le_of_suc-le-suc, arith}
use Rattle.trick_rules.specs.Nodes.{NodeValue}
use Rattle.strategy_games.specs.Plans.{Fits}
use Rattle.strategy_tree.specs.Bridge.{bridge}
use Rattle.pbn_text.specs.Games.{GameValue}
use Rattle.pbn_text.specs.Grammar.{games_read}
use Rattle.am_report.specs.Answers.{ReadEntryValue}
use Rattle.am_report.specs.Reading.{ReadReportValue, report_read}
use Rattle.am_answer.specs.declared.root.Root.{Root}
use Rattle.am_answer.specs.Judging.{plans_in}
use Rattle.card_brackets.specs.declared.table.CardTable.{CardTable}
use Rattle.page_report.specs.Named.{names_own_card}
use Rattle.page_report.specs.ReportPages.{IsReportPage}
use Rattle.job_told.proofs.GoodPlans.{AreGood}
use Rattle.job_page.specs.PageJob.{IsPage}

-- the plans of a good report fit its node with as many moves
pub good_moves : (node : NodeValue) (moves : ℕ) (entries : List ReadEntryValue) → AreGood node moves entries → All (λ read. Fits bridge read.entry.plan node moves) entries
good_moves node moves [] good k d below = absurd (omega (arith, below))
good_moves node moves (read ∷ entries) good zero d below = good.0.fits
good_moves node moves (read ∷ entries) good (suc k) d below = good_moves node moves entries good.1 k d (le_of_suc-le-suc below)

pub good_page : (deal bytes : List ℕ) (root : Root) (report : ReadReportValue) (all : List GameValue) (game : GameValue) (known : Option CardTable) (now : List ℕ)
    → games_read deal ≡ Ok all → 1 ≤ length all → game ≡ get_or all 0 game → report_read bytes ≡ Ok report → plans_in root bytes ≡ Ok (length report.entries)
    → IsReportPage game root.board root.kept report bytes known now → (known ≡ None → names_own_card root.kept.node report ≡ true)
    → IsPage deal root bytes known now
good_page deal bytes root report [] game known now is_games some is_first read good page named = absurd (omega (arith, some))
good_page deal bytes root report (first ∷ others) game known now is_games some is_first read good page named = record {
  game = first;
  others = others;
  report = report;
  is_game = is_games;
  is_read = read;
  is_good = good;
  is_page = subst (λ (g : GameValue). IsReportPage g root.board root.kept report bytes known now) is_first page;
  is_named = named;
}
