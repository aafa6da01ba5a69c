use Rattle.pbn_text.proofs.StringLemmas.{written-taken, written-kept, written-last, written-all}
use Rattle.pbn_text.proofs.scan.unescaped.Goals.{then-text-at-eq92+then-at-text, else-text-at-eq92, else-text-at-eq92-via-then-text-at-eq92+else-at-text, else-text-at-eq92-via-else-text-at-eq92}
use Rattle.pbn_text.proofs.scan.unescaped.Goals as goal

pub loop-at-preserved : goal.loop-at-preserved
loop-at-preserved c =
    let text = c.args.text.now in
    elim c.if-text-at-eq92.branch [
      | then-text-at-eq92+then-at-text w ↦ written-taken c.loop-at.value c.push.new.self text c.loop-at.at c.if-text-at-eq92.at w.at-is c.in_ok-push.ensures.appended w.if-at-text.true w.if-text-at-eq92.true c.loop-at.invariant
      | else-text-at-eq92 w ↦ elim w.else-text-at-eq92.branch [
        | else-text-at-eq92-via-then-text-at-eq92+else-at-text v ↦ written-last c.loop-at.value c.push.new.self text c.loop-at.at c.if-text-at-eq92.at w.at-is c.in_ok-push.ensures.appended c.loop-at-test.true v.if-at-text.false c.loop-at.invariant
        | else-text-at-eq92-via-else-text-at-eq92 v ↦ written-kept c.loop-at.value c.push.new.self text c.loop-at.at c.if-text-at-eq92.at w.at-is c.in_ok-push.ensures.appended c.loop-at-test.true v.if-text-at-eq92.false c.loop-at.invariant
      ]
    ]

pub returns : goal.returns
returns c = written-all c.loop-at.value c.args.text.now c.loop-at.at c.loop-at-test.false c.loop-at.invariant
