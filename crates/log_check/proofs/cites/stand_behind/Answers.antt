use Rattle.std.proofs.Common.{◌≡◌, ◌+◌, ◌-◌, ◌∙◌, ◌∷◌, ◌++◌, [], false, refl, get_or, drop, sym, ap, arith}
use Rattle.log_check.specs.Logs.{cited_lines}
use Rattle.log_check.proofs.CitedLines.{refute, cited-next, cited-end, behind-next, behind-empty, behind-first, behind-end, same_card}
use Rattle.log_check.proofs.cites.stand_behind.Goals as goal

pub loop-number-init : goal.loop-number-init
loop-number-init c = (λ h. h, λ h. h)

pub returns-in_default : goal.returns-in_default
returns-in_default c =
    refute (λ h. behind-empty c.args.path.now c.loop-number.rest c.args.lines.now c.args.numbers.now c.loop-number.number-index c.requires
    c.loop-number-test.true (c.in_default.ensures.value.0) (c.loop-number.invariant.0 h)) false refl

pub returns-in_default-card_behind : goal.returns-in_default-card_behind
returns-in_default-card_behind c =
    let l = get_or c.args.lines.now (get_or c.args.numbers.now c.loop-number.number-index 0 - 1) c.index-lines-number.result in
    let tail = cited_lines c.args.lines.now (drop (c.loop-number.number-index + 1) c.args.numbers.now) in
    let are = cited-next c.args.lines.now c.args.numbers.now c.loop-number.number-index c.index-lines-number.result c.requires c.loop-number-test.true in
    refute (λ h. c.in_default-card_behind.ensures c.in-Some.card
    (behind-first c.args.path.now c.loop-number.rest c.pop_first.new.self c.in-Some.card _ tail l c.in-Some.ensures.value are (c.loop-number.invariant.0 h))) false refl

pub returns-then-ne : goal.returns-then-ne
returns-then-ne c =
    let l = get_or c.args.lines.now (get_or c.args.numbers.now c.loop-number.number-index 0 - 1) c.index-lines-number.result in
    let tail = cited_lines c.args.lines.now (drop (c.loop-number.number-index + 1) c.args.numbers.now) in
    let are = cited-next c.args.lines.now c.args.numbers.now c.loop-number.number-index c.index-lines-number.result c.requires c.loop-number-test.true in
    refute (λ h.
    let here = behind-first c.args.path.now c.loop-number.rest c.pop_first.new.self c.in-Some.card _ tail l c.in-Some.ensures.value are (c.loop-number.invariant.0 h) in
    let same : c.in-Some-card_behind.last ≡ c.in-Some.card = same_card c.args.path.now c.in-Some-card_behind.last c.in-Some.card (sym c.in-Some-card_behind.ensures ∙ here) in
    grind (arith, c.ne.ensures, c.if-ne.true, same)) false refl

pub loop-number-preserved : goal.loop-number-preserved
loop-number-preserved c =
    let l = get_or c.args.lines.now (get_or c.args.numbers.now c.loop-number.number-index 0 - 1) c.index-lines-number.result in
    let tail = cited_lines c.args.lines.now (drop (c.loop-number.number-index + 1) c.args.numbers.now) in
    let are = cited-next c.args.lines.now c.args.numbers.now c.loop-number.number-index c.index-lines-number.result c.requires c.loop-number-test.true in
    let same : c.in-Some-card_behind.last ≡ c.in-Some.card = grind (arith, c.ne.ensures, c.if-ne.false) in
    let turn = behind-next c.args.path.now c.loop-number.rest c.pop_first.new.self c.in-Some.card _ tail l c.in-Some.ensures.value are
    (c.in-Some-card_behind.ensures ∙ ap (λ x. c.args.path.now ++ x ∷ []) same) in
    (λ h. turn.0 (c.loop-number.invariant.0 h), λ h. c.loop-number.invariant.1 (turn.1 h))

pub returns : goal.returns
returns c =
    let end = behind-end c.args.path.now c.loop-number.rest _ (cited-end c.args.lines.now c.args.numbers.now c.loop-number.number-index c.loop-number-test.false) in
    (λ h. c.loop-number.invariant.1 (end.1 (c.is_empty.ensures.value.0 h)), λ h. c.is_empty.ensures.value.1 (end.0 (c.loop-number.invariant.0 h)))
