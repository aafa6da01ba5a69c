use Rattle.std.proofs.Common.{length, subst, sym, ap, ◌∙◌, arith}
use Rattle.pbn_text.specs.Reading.{games_after, GivesGames}
use Rattle.pbn_text.proofs.Collected.{text_read-collected, pieces-none, tagged_read}
use Rattle.pbn_text.proofs.reading.read_text.Goals as goal

pub loop-reader-init : goal.loop-reader-init
loop-reader-init c =
    let text = c.args.text.now in
    let r = c.new-reader.ensures in
    let k = c.new-collector.ensures in
    (rw (k.games, k.tags, k.last, r.front, r.line, r.rest) (text_read-collected text), omega (arith, r.line, ap length r.rest))

pub returns : goal.returns
returns c =
    let r = c.loop-reader.reader in
    let none = pieces-none r.at_front r.line r.rest.now (sym c.is_empty.ensures ∙ c.loop-reader-test.false) in
    let read = subst (GivesGames c.into_games.result) (sym (ap (games_after c.loop-reader.collector) none) ∙ c.loop-reader.invariant.0) c.into_games.ensures in
    record { read = read; tagged = tagged_read c.args.text.now c.into_games.result read }
