use Rattle.std.proofs.Common.{Err, ap, arith}
use Rattle.job_words.specs.Asks.{job_of}
use Rattle.am_answer.specs.declared.status.Status.TheVariants.{Unread}
use Rattle.am_answer.proofs.Passed.{passed_on}
use Rattle.am_inputs.proofs.Names.{game_named, job_names}
use Rattle.am_inputs.proofs.inputs.read_named.Goals as goal

pub returns-in_err-job-in-OnLayouts-clause-unread : goal.returns-in_err-job-in-OnLayouts-clause-unread
returns-in_err-job-in-OnLayouts-clause-unread g c = λ file e.
    let same = passed_on c.from_residual-in_err-job-in-OnLayouts.result c.in_err-job-in-OnLayouts.field-0.0 (Unread file) c.from_residual-in_err-job-in-OnLayouts.ensures.1 e in
    rw c.in-OnLayouts.is
    (job_names (g.S.Shelf.faults c.args.shelf.now) (g.S.Shelf.faults c.read_file-in-OnLayouts.new.shelf) (g.S.Shelf.faults c.read_job.new.shelf)
    (λ name. omega (arith, c.read_file.ensures.never_falls name, c.read_file-in-OnLayouts.ensures.never_falls name))
    (g.S.Shelf.told c.args.shelf.now) c.in-OnLayouts.deal.now c.in-OnLayouts.layouts.now (job_of c.in-OnLayouts.job) file (c.in_err-job-in-OnLayouts.ensures.unread file (ap Err same)))

pub returns-in_err-games-in-Boards-clause-unread : goal.returns-in_err-games-in-Boards-clause-unread
returns-in_err-games-in-Boards-clause-unread g c = λ file e.
    let same = passed_on c.from_residual-in_err-games-in-Boards.result c.in_err-games-in-Boards.field-0.0 (Unread file) c.from_residual-in_err-games-in-Boards.ensures.1 e in
    rw c.in-Boards.is
    (game_named (g.S.Shelf.faults c.args.shelf.now) (g.S.Shelf.faults c.read_file-in-Boards.new.shelf) (g.S.Shelf.faults c.read_game_files.new.shelf) c.read_file-in-Boards.ensures.never_falls
    (g.S.Shelf.told c.args.shelf.now) (record { deal = c.in-Boards.games.deal.now; layouts = c.in-Boards.games.layouts.now }) c.in_ok-deal-in-Boards.deal c.in-Boards.moves c.in-Boards.search file c.in_ok-deal-in-Boards.ensures.read
    (c.in_err-games-in-Boards.ensures.unread file (ap Err same)))
