use Rattle.std.proofs.Common.{◌+◌, ◌-◌, ◌∙◌, true, false, refl, get_or, drop, List, sym, subst}
use Rattle.std.proofs.lemmas.Bool.{false≢true}
use Rattle.win_vectors.specs.Fronts.{Vector, CoversAll}
use Rattle.log_check.specs.declared.lines.LogLine.{LogLine}
use Rattle.log_check.specs.Logs.{cited_lines}
use Rattle.log_check.proofs.CitedLines.{refute, confirm, cited-next, cited-end, each-next, each-not, each-end}
use Rattle.log_check.proofs.covering.covers_lines.Goals as goal

pub loop-number-init : goal.loop-number-init
loop-number-init c = (λ h. h, λ h. h)

pub returns-then-not-covers_all : goal.returns-then-not-covers_all
returns-then-not-covers_all c =
    let l = get_or c.args.lines.now (get_or c.args.numbers.now c.loop-number.number-index 0 - 1) c.index-lines-number.result in
    let tail = cited_lines c.args.lines.now (drop (c.loop-number.number-index + 1) c.args.numbers.now) in
    let are = cited-next c.args.lines.now c.args.numbers.now c.loop-number.number-index c.index-lines-number.result c.requires c.loop-number-test.true in
    refute (λ h. each-not (λ (k : LogLine). CoversAll c.args.vectors.now k.vectors) _ tail l are
    (λ all. false≢true (sym c.if-not-covers_all.true
    ∙ c.covers_all.ensures.1 (subst (λ (vs : List Vector). CoversAll c.args.vectors.now vs) (sym c.as_slice.ensures) all)))
    (c.loop-number.invariant.0 h)) false refl

pub loop-number-preserved : goal.loop-number-preserved
loop-number-preserved c =
    let l = get_or c.args.lines.now (get_or c.args.numbers.now c.loop-number.number-index 0 - 1) c.index-lines-number.result in
    let tail = cited_lines c.args.lines.now (drop (c.loop-number.number-index + 1) c.args.numbers.now) in
    let are = cited-next c.args.lines.now c.args.numbers.now c.loop-number.number-index c.index-lines-number.result c.requires c.loop-number-test.true in
    let turn = each-next (λ (k : LogLine). CoversAll c.args.vectors.now k.vectors) _ tail l are
    (subst (λ (vs : List Vector). CoversAll c.args.vectors.now vs) c.as_slice.ensures (c.covers_all.ensures.0 c.if-not-covers_all.false)) in
    (λ h. turn.0 (c.loop-number.invariant.0 h), λ h. c.loop-number.invariant.1 (turn.1 h))

pub returns : goal.returns
returns c = confirm (c.loop-number.invariant.1 (each-end (λ (k : LogLine). CoversAll c.args.vectors.now k.vectors) _
    (cited-end c.args.lines.now c.args.numbers.now c.loop-number.number-index c.loop-number-test.false))) true refl
