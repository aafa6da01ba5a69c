use Rattle.std.proofs.Common.{◌≡◌, ◌<◌, Some, true, false, slice_get, length, refl, add-one, arith}
use Rattle.std.proofs.lemmas.List.{length-take-le, take_all}
use Rattle.win_vectors.proofs.WeightLemmas.{weight_of-take}
use Rattle.win_vectors.proofs.weights.Weights.total.Goals as goal
use Rattle.win_vectors.proofs.weights.Weights.total.Goals.{then-made, else-made}

pub loop-place-init : goal.loop-place-init
loop-place-init c = record { so_far = refl; most = omega arith }

pub overflow_add-total : goal.overflow_add-total
overflow_add-total c =
    let here = c.self.invariant.each c.loop-place.place 0 (omega arith) in
    omega (arith, here.high, c.loop-place.invariant.most, c.self.invariant.high)

pub loop-place-preserved : goal.loop-place-preserved
loop-place-preserved c =
    let within : c.loop-place.place < length c.self.inside.weights = omega arith in
    let here = c.self.invariant.each c.loop-place.place 0 within in
    let most = c.loop-place.invariant.most in
    let so_far = c.loop-place.invariant.so_far in
    elim c.if-made.branch [
      | then-made w ↦
          let made : slice_get c.args.vector c.loop-place.place ≡ Some true = rw w.if-made.true at c.get-made.ensures in
          let more = weight_of-take c.loop-place.place c.self.inside.weights c.args.vector true within made in
          record { so_far = rw add-one (omega arith); most = omega (arith, here.high) }
      | else-made w ↦
          let lost : slice_get c.args.vector c.loop-place.place ≡ Some false = rw w.if-made.false at c.get-made.ensures in
          let more = weight_of-take c.loop-place.place c.self.inside.weights c.args.vector false within lost in
          record { so_far = rw add-one (omega arith); most = omega arith }
    ]

pub returns-clause-value : goal.returns-clause-value
returns-clause-value c =
    let whole : c.loop-place.place ≡ c.self.inside.width = omega arith in
    let width = length-take-le c.self.inside.width c.self.inside.weights (omega arith) in
    let vector = take_all c.self.inside.width c.args.vector (rw (← c.requires, ← c.self.view_is) (omega arith)) in
    rw (c.loop-place.invariant.so_far, whole, vector) (rw (← c.self.view_is) refl)

pub returns-clause-most : goal.returns-clause-most
returns-clause-most c =
    let width = length-take-le c.self.inside.width c.self.inside.weights (omega arith) in
    let most = c.loop-place.invariant.most in
    rw (← c.requires, ← c.self.view_is, width) (omega arith)
