use Rattle.std.proofs.Common.{◌+◌, ◌-◌, ◌≢◌, arith, below_more, get_or-set_other, get_or-set_same, length-set, ap₂, ◌∙◌, sym}
use Rattle.layout_maker.proofs.Adding.{ways-more, ways-small}
use Rattle.layout_maker.proofs.dividing.with_one_more.Goals as goal

pub overflow_add-next : goal.overflow_add-next
overflow_add-next c =
    let k = c.loop-chosen.chosen in
    let before = c.requires.row (k - 1) (omega arith) in
    let here = c.requires.row k (omega arith) in
    omega (arith, before, here, ways-small c.args.things (k - 1) (omega arith), ways-small c.args.things k (omega arith))

pub loop-chosen-preserved : goal.loop-chosen-preserved
loop-chosen-preserved c =
    let i = c.loop-chosen.chosen in
    let next = c.loop-chosen.next in
    let sum = ap₂ (λ m n. m + n) (c.requires.row (i - 1) (omega arith)) (c.requires.row i (omega arith)) ∙ sym (ways-more c.args.things i (omega arith)) in
    record {
      long = length-set next i _ ∙ c.loop-chosen.invariant.long;
      below = below_more _ _
          (λ k h. let ne : k ≢ i = omega arith in get_or-set_other next i k _ 0 ne ∙ c.loop-chosen.invariant.below k h)
          (get_or-set_same next i _ 0 (omega (arith, c.loop-chosen.invariant.long)) ∙ sum);
    }
