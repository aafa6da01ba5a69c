use Rattle.std.proofs.Common.{arith}
use Rattle.pbn_text.proofs.StringLemmas.{Measures-quote, Measures-line_end, Measures-lone, Measures-backslash_end, Measures-end, Measures-taken, Measures-other}
use Rattle.pbn_text.proofs.scan.string_len.Goals as goal

pub returns-in-34-clause-len : goal.returns-in-34-clause-len
returns-in-34-clause-len c = Measures-quote c.args.text.now c.loop-len.len c.loop-len-test.true c.loop-len.invariant.1 c.in-34.is

pub returns-in-10-clause-len : goal.returns-in-10-clause-len
returns-in-10-clause-len c = Measures-line_end c.args.text.now c.loop-len.len c.loop-len-test.true c.loop-len.invariant.1 c.in-10.is

pub returns-then-len-text-clause-len : goal.returns-then-len-text-clause-len
returns-then-len-text-clause-len c = Measures-lone c.args.text.now c.loop-len.len c.loop-len-test.true c.loop-len.invariant.1 c.in-92.is c.if-len-text.true

pub returns-then-text-len-eq10-clause-len : goal.returns-then-text-len-eq10-clause-len
returns-then-text-len-eq10-clause-len c = Measures-backslash_end c.args.text.now c.loop-len.len (omega arith) c.loop-len.invariant.1 c.in-92.is c.if-text-len-eq10.true

pub loop-len-preserved-in-92 : goal.loop-len-preserved-in-92
loop-len-preserved-in-92 c = (omega arith, Measures-taken c.args.text.now c.loop-len.len (omega arith) c.loop-len.invariant.1 c.in-92.is c.if-text-len-eq10.false)

pub loop-len-preserved : goal.loop-len-preserved
loop-len-preserved c = (omega arith, Measures-other c.args.text.now c.loop-len.len c.loop-len-test.true c.loop-len.invariant.1 (λ is. omega arith) (λ is. omega arith) (λ is. omega arith))

pub returns-clause-len : goal.returns-clause-len
returns-clause-len c = Measures-end c.args.text.now c.loop-len.len c.loop-len-test.false c.loop-len.invariant.1
