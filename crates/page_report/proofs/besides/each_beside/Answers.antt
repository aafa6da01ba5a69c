use Rattle.std.proofs.Common.{sym, subst}
use Rattle.am_report.specs.Answers.{ReadEntryValue}
use Rattle.line_partings.specs.Partings.{FitOneNode}
use Rattle.page_report.proofs.MoreBesides.{beside_more}
use Rattle.page_report.proofs.besides.each_beside.Goals as goal

pub beside_of-requires : goal.beside_of-requires
beside_of-requires c =
    subst (λ (read : ReadEntryValue). FitOneNode c.args.first.now.entry.plan read.entry.plan) (sym c.index-later-place.is) (c.requires c.loop-place.place c.index-later-place.result c.loop-place-test.true)

pub loop-place-preserved : goal.loop-place-preserved
loop-place-preserved c =
    beside_more c.args.first.now.entry.plan c.args.later.now c.loop-place.place c.index-later-place.result c.in_ok-beside.beside c.loop-place.besides.items c.push.new.self.items c.loop-place-test.true c.index-later-place.is
    c.in_ok-beside.ensures.number c.in_ok-beside.ensures.parting c.in_ok-push.ensures.items c.loop-place.invariant
