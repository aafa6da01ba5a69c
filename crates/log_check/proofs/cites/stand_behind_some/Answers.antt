use Rattle.std.proofs.Common.{◌≡◌, ◌+◌, ◌-◌, ◌<◌, ◌≤◌, ◌∙◌, true, false, refl, get_or, drop, sym, subst, arith}
use Rattle.card_sets.specs.SetWords.{has_card}
use Rattle.log_check.specs.Logs.{cited_lines}
use Rattle.log_check.specs.Steps.{StandBehindSome}
use Rattle.log_check.proofs.CitedLines.{refute, confirm, cited-next, cited-end, some-next, some-none, some-low, some-not, some-end}
use Rattle.log_check.proofs.cites.stand_behind_some.Goals as goal
use Rattle.log_check.proofs.cites.stand_behind_some.Goals.{then-number-low-via-then-number-low, then-number-low-via-else-number-low+then-not-has}

pub loop-number-init : goal.loop-number-init
loop-number-init c = (λ h. h, λ h. h)

pub returns-in_default : goal.returns-in_default
returns-in_default c =
    let l = get_or c.args.lines.now (get_or c.args.numbers.now c.loop-number.number-index 0 - 1) c.index-lines-number.result in
    let tail = cited_lines c.args.lines.now (drop (c.loop-number.number-index + 1) c.args.numbers.now) in
    let are = cited-next c.args.lines.now c.args.numbers.now c.loop-number.number-index c.index-lines-number.result c.requires c.loop-number-test.true in
    refute (λ h. some-none c.args.path.now c.args.choices c.loop-number.low _ tail l are c.in_default.ensures (c.loop-number.invariant.0 h)) false refl

pub returns-then-number-low : goal.returns-then-number-low
returns-then-number-low c =
    let l = get_or c.args.lines.now (get_or c.args.numbers.now c.loop-number.number-index 0 - 1) c.index-lines-number.result in
    let tail = cited_lines c.args.lines.now (drop (c.loop-number.number-index + 1) c.args.numbers.now) in
    let are = cited-next c.args.lines.now c.args.numbers.now c.loop-number.number-index c.index-lines-number.result c.requires c.loop-number-test.true in
    elim c.then-number-low.branch [
      | then-number-low-via-then-number-low w ↦
          (let is = c.number.ensures.value in
          let under = w.if-number-low.true in
          let less : c.in-Some.card < c.loop-number.low = omega arith in
          refute (λ h. some-low c.args.path.now c.args.choices c.loop-number.low c.in-Some.card _ tail l are c.in-Some.ensures less (c.loop-number.invariant.0 h)) false refl)
      | then-number-low-via-else-number-low+then-not-has w ↦
          (let not : has_card c.args.choices c.in-Some.card ≡ false = sym w.has.ensures.value ∙ w.if-not-has.true in
          refute (λ h. some-not c.args.path.now c.args.choices c.loop-number.low c.in-Some.card _ tail l are c.in-Some.ensures not (c.loop-number.invariant.0 h)) false refl)
    ]

pub loop-number-preserved : goal.loop-number-preserved
loop-number-preserved c =
    let l = get_or c.args.lines.now (get_or c.args.numbers.now c.loop-number.number-index 0 - 1) c.index-lines-number.result in
    let tail = cited_lines c.args.lines.now (drop (c.loop-number.number-index + 1) c.args.numbers.now) in
    let are = cited-next c.args.lines.now c.args.numbers.now c.loop-number.number-index c.index-lines-number.result c.requires c.loop-number-test.true in
    let is = c.number.ensures.value in
    let over = c.if-number-low.false in
    let from : c.loop-number.low ≤ c.in-Some.card = omega arith in
    let turn = some-next c.args.path.now c.args.choices c.loop-number.low c.in-Some.card _ tail l are c.in-Some.ensures (sym c.has.ensures.value ∙ c.if-not-has.false) from in
    let low_is : c.in-Some.card ≡ c.number-low.result = sym c.number-low.ensures.value in (
      λ h. subst (λ k. StandBehindSome c.args.path.now c.args.choices (k + 1) tail) low_is (turn.0 (c.loop-number.invariant.0 h)),
      λ h. c.loop-number.invariant.1 (turn.1 (subst (λ k. StandBehindSome c.args.path.now c.args.choices (k + 1) tail) (sym low_is) h)),
    )

pub returns : goal.returns
returns c = confirm (c.loop-number.invariant.1 (some-end c.args.path.now c.args.choices c.loop-number.low _
    (cited-end c.args.lines.now c.args.numbers.now c.loop-number.number-index c.loop-number-test.false))) true refl
