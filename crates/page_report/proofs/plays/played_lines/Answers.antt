use Rattle.std.proofs.Common.{◌≡◌, ◌∙◌, ◌+◌, ◌<◌, ◌≤◌, ℕ, List, length, min, take, sym, ap, subst, arith, rules}
use Rattle.std.specs.List.{AllZip, range_with_len}
use Rattle.std.proofs.lemmas.List.{take_min, length-take}
use Rattle.std.proofs.lemmas.Option.{get_or_from_slice_get}
use Rattle.std.proofs.lemmas.Slice.Zip.{AllZip-long}
use Rattle.strategy_games.specs.Plans.{Fits}
use Rattle.strategy_tree.specs.Bridge.{bridge}
use Rattle.am_report.specs.Answers.{ReadEntryValue}
use Rattle.page_report.specs.Played.{IsPlayedLine}
use Rattle.page_report.proofs.Zipped.{zip_next, numbers_next}
use Rattle.page_report.proofs.plays.played_lines.Goals as goal

pub played_line-requires : goal.played_line-requires
played_line-requires c =
    let inside : c.loop-place.place < length c.args.entries.now = omega (arith, c.min-count.ensures, c.loop-place-test.true) in
    record {
      fits = subst (λ (read : ReadEntryValue). (moves : ℕ) × Fits bridge read.entry.plan c.args.node.now moves) (sym c.index-entries-place.is) (c.requires.fit c.loop-place.place c.index-entries-place.result inside);
    }

pub loop-place-preserved : goal.loop-place-preserved
loop-place-preserved c =
    let entries = c.args.entries.now in
    let place = c.loop-place.place in
    let read = c.index-entries-place.result in
    let inside : place < length entries = omega (arith, c.min-count.ensures, c.loop-place-test.true) in
    record {
      numbers = numbers_next c.loop-place.played.items c.push.new.self.items c.in_ok-line.line place c.loop-place.invariant.numbers c.in_ok-line.ensures.number c.in_ok-push.ensures.items;
      each =
          zip_next (IsPlayedLine c.args.node.now) entries c.loop-place.played.items c.push.new.self.items place read c.in_ok-line.line inside
          (λ z is. subst (λ (r : ReadEntryValue). IsPlayedLine c.args.node.now r c.in_ok-line.line) (c.index-entries-place.is ∙ get_or_from_slice_get entries place z read is) c.in_ok-line.ensures.played)
          c.loop-place.invariant.each c.in_ok-push.ensures.items;
    }

pub returns : goal.returns
returns c =
    let entries = c.args.entries.now in
    let place = c.loop-place.place in
    let lines = c.loop-place.played.items in
    let ended : place ≡ min 4 (length entries) = omega (arith, c.min-count.ensures, c.loop-place-test.false) in
    let taken : min place (length entries) ≡ place = omega (arith, c.min-count.ensures, ended) in
    let long : length lines ≡ place = AllZip-long (IsPlayedLine c.args.node.now) (take place entries) lines c.loop-place.invariant.each ∙ length-take place entries ∙ taken in
    record {
      numbers = c.loop-place.invariant.numbers ∙ ap (range_with_len 1) (sym long);
      each = subst (λ (reads : List ReadEntryValue). AllZip (IsPlayedLine c.args.node.now) reads lines) (ap (λ n. take n entries) ended ∙ take_min 4 entries) c.loop-place.invariant.each;
    }
