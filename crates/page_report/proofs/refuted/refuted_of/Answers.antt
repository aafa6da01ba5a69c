use Rattle.std.proofs.Common.{◌∙◌, subst}
use Rattle.std.proofs.lemmas.Option.{get_or_from_slice_get}
use Rattle.page_text.specs.declared.beliefs.Belief.{Belief}
use Rattle.page_text.specs.Refutations.{refuting_place}
use Rattle.page_report.specs.Refuted.{IsRefutedAt}
use Rattle.page_report.proofs.Zipped.{zip_next}
use Rattle.page_report.proofs.refuted.refuted_of.Goals as goal

pub loop-belief-preserved : goal.loop-belief-preserved
loop-belief-preserved c =
    let beliefs = c.args.beliefs.now in
    let place = c.loop-belief.belief-index in
    let belief = c.belief-item.result in
    let node = c.args.node.now in
    let entries = c.args.entries.now in
    let lines = c.args.lines.now in
    zip_next (λ (b : Belief) it. IsRefutedAt node entries b (refuting_place lines b) it) beliefs c.loop-belief.refuted.items c.push.new.self.items place belief c.in_ok-one.one c.loop-belief-test.true
    (λ z is. subst (λ (b : Belief). IsRefutedAt node entries b (refuting_place lines b) c.in_ok-one.one) (c.belief-item.is ∙ get_or_from_slice_get beliefs place z belief is) c.in_ok-one.ensures) c.loop-belief.invariant
    c.in_ok-push.ensures.items
