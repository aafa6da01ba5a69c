use Rattle.std.proofs.Common.{ℕ, get_or, ap, sym, subst, ◌∙◌}
use Rattle.strategy_games.specs.Plans.{Fits}
use Rattle.strategy_tree.specs.Bridge.{bridge}
use Rattle.am_report.specs.Answers.{ReadEntryValue}
use Rattle.am_answer.specs.declared.root.Root.{Root}
use Rattle.job_lines.proofs.Placed.{is_game}
use Rattle.job_lines.proofs.lines.Lines.game_at.Goals as goal

pub play_at-played-requires-clause-fits : goal.play_at-played-requires-clause-fits
play_at-played-requires-clause-fits c =
    let read = get_or c.args.self.now.entries.now c.args.line c.index-self-line.result in
    subst (λ (r : Root). (moves : ℕ) × Fits bridge read.entry.plan r.kept.node moves) (sym c.root.view_is)
    (c.requires.lines.fits c.args.line c.index-self-line.result c.requires.a_line)

pub returns : goal.returns
returns c =
    let entries = c.args.self.now.entries.now in
    let is = ap (λ (read : ReadEntryValue). get_or entries c.args.line read) c.index-self-line.is in
    is_game c.args.self.now.game.now _ c.args.self.now.root.now entries c.args.line c.args.place (get_or entries c.args.line c.index-self-line.result) c.root.view_is
    c.requires.a_line is c.requires.a_layout c.requires.lines.as_many c.game_text.result c.play_at-played.result.made c.shown_at-shown.result
    c.plays.result.now c.play_at-played.result.cards c.deref.result.now c.play_at-played.ensures.cards c.play_at-played.ensures.made c.shown_at-shown.ensures
    c.plays.ensures.value (c.deref.ensures.value ∙ c.in_ok-cards.ensures) c.game_text.ensures
