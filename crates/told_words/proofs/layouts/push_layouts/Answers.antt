use Rattle.told_words.proofs.Numbered.{begun_more, numbers_more}
use Rattle.told_words.proofs.layouts.push_layouts.Goals as goal

pub loop-place-preserved : goal.loop-place-preserved
loop-place-preserved c =
    let bits = c.args.layouts in
    let i = c.loop-place.place in
    record {
      so_far = numbers_more bits i c.loop-place.begun c.args.out.now c.loop-place.out c.push_number.new.out c.loop-place.invariant.begun c.loop-place.invariant.so_far c.in_ok-push_number.ensures;
      begun = begun_more bits i c.get-begun.result c.loop-place.begun c.get-begun.ensures c.loop-place.invariant.begun;
    }
