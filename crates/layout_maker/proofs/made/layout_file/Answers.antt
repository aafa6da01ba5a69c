use Rattle.layout_maker.specs.Generator.{orders}
use Rattle.layout_maker.specs.MadeProblem.{layout_file}
use Rattle.layout_maker.proofs.MadePacks.{layout_file-step, layout_file-end}
use Rattle.layout_maker.proofs.made.layout_file.Goals as goal

pub loop-preserved : goal.loop-preserved
loop-preserved c =
    layout_file-step c.loop.text c.push_layout.new.text c.args.north c.args.south c.loop.others c.shuffle.new.cards c.loop.generator c.shuffle.new.self c.loop.counter
    (layout_file c.args.north c.args.south (orders 40 (record { items = c.args.others.now; state = c.args.generator.now })))
    c.loop-test.true c.shuffle.ensures.cards c.shuffle.ensures.state c.in_ok-push_layout.ensures c.loop.invariant

pub returns : goal.returns
returns c =
    layout_file-end c.loop.text c.args.north c.args.south (record { items = c.loop.others; state = c.loop.generator }) c.loop.counter
    (layout_file c.args.north c.args.south (orders 40 (record { items = c.args.others.now; state = c.args.generator.now }))) c.loop-test.false c.loop.invariant
