use Rattle.std.proofs.Common.{rules, ◌≡◌, ◌∙◌, [], sym, ap, cond, Bool, true, false}
use Rattle.std.specs.Prelude.{Result, Ok, Err}
use Rattle.suit_problem.specs.declared.fault.SuitFault.{SuitFault}
use Rattle.suit_problem.specs.declared.fault.SuitFault.TheVariants.{NotCards}
use Rattle.suit_problem.specs.declared.reading.Written.{Written}
use Rattle.suit_problem.specs.Written.{bytes_read, hand_read}
use Rattle.suit_problem.proofs.Readings.{read_more, read_stopped, read_whole}
use Rattle.suit_problem.proofs.reading.read_hand.Goals as goal

pub returns-in_err-hand : goal.returns-in_err-hand
returns-in_err-hand c =
    let stopped = read_stopped c.args.others c.args.text.now c.loop-byte.byte-index c.loop-byte.hand c.in_err-hand.field-0.0 (hand_read c.args.others c.args.text.now) c.loop-byte-test.true
    (sym c.with_byte.ensures ∙ c.in_err-hand.was) c.loop-byte.invariant in
    search (rules, stopped)

pub loop-byte-preserved : goal.loop-byte-preserved
loop-byte-preserved c =
    read_more c.args.others c.args.text.now c.loop-byte.byte-index c.loop-byte.hand c.in_ok-hand.hand (hand_read c.args.others c.args.text.now) c.loop-byte-test.true
    (sym c.with_byte.ensures ∙ c.in_ok-hand.was) c.loop-byte.invariant

pub returns-then-hand : goal.returns-then-hand
unfolding bytes_read
returns-then-hand c =
    let whole = read_whole c.args.others c.args.text.now c.loop-byte.byte-index c.loop-byte.hand (hand_read c.args.others c.args.text.now) c.loop-byte-test.false c.loop-byte.invariant in
    ap (λ (one : Bool). cond {A = Result Written SuitFault} one (Err NotCards) (Ok c.loop-byte.hand)) (sym c.if-hand.true) ∙ whole

pub returns : goal.returns
unfolding bytes_read
returns c =
    let whole = read_whole c.args.others c.args.text.now c.loop-byte.byte-index c.loop-byte.hand (hand_read c.args.others c.args.text.now) c.loop-byte-test.false c.loop-byte.invariant in
    ap (λ (one : Bool). cond {A = Result Written SuitFault} one (Err NotCards) (Ok c.loop-byte.hand)) (sym c.if-hand.false) ∙ whole
