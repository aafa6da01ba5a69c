use Rattle.std.proofs.Common.{ap}
use Rattle.layout_maker.specs.Generator.{Shuffle, shuffled}
use Rattle.layout_maker.proofs.MadePacks.{shuffled-start, shuffled-step, shuffled-end}
use Rattle.layout_maker.proofs.generator.Generator.shuffle.Goals as goal

pub loop-place-init : goal.loop-place-init
loop-place-init c = shuffled-start (record { items = c.args.cards.now; state = c.args.self.now })

pub loop-place-preserved : goal.loop-place-preserved
loop-place-preserved c =
    shuffled-step c.loop-place.self c.draw-drawn.new.self c.loop-place.cards c.swap.new.self c.loop-place.place c.draw-drawn.result (shuffled (record { items = c.args.cards.now; state = c.args.self.now }))
    c.loop-place-test.true c.draw-drawn.ensures.state c.draw-drawn.ensures.drawn c.swap.ensures.after c.loop-place.invariant

pub returns-clause-cards : goal.returns-clause-cards
returns-clause-cards c =
    ap (λ (s : Shuffle). s.items) (shuffled-end c.loop-place.place (record { items = c.loop-place.cards; state = c.loop-place.self }) (shuffled (record { items = c.args.cards.now; state = c.args.self.now })) c.loop-place-test.false c.loop-place.invariant)

pub returns-clause-state : goal.returns-clause-state
returns-clause-state c =
    ap (λ (s : Shuffle). s.state) (shuffled-end c.loop-place.place (record { items = c.loop-place.cards; state = c.loop-place.self }) (shuffled (record { items = c.args.cards.now; state = c.args.self.now })) c.loop-place-test.false c.loop-place.invariant)
