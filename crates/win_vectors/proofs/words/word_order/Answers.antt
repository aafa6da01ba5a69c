use Rattle.std.proofs.Common.{◌≡◌, ◌∙◌, sym, true, false}
use Rattle.std.proofs.lemmas.Bool.{eq-eqb, ne_eqb}
use Rattle.std.proofs.lemmas.Nat.Bits.{shr_and_one}
use Rattle.std.specs.Int.Count.{ones}
use Rattle.bit_lists.specs.Bits.{has_bit, bools}
use Rattle.win_vectors.specs.Vectors.{ones_of}
use Rattle.win_vectors.proofs.VectorLemmas.{vector_order-same, order-by_count, order-less, order-greater}
use Rattle.win_vectors.proofs.WordBits.{ones_of-bools, DifferAt-lowest, IsLowestDifference-swap}
use Rattle.win_vectors.proofs.words.word_order.Goals as goal

pub returns-then-our_ones-their_ones : goal.returns-then-our_ones-their_ones
returns-then-our_ones-their_ones c =
    let ours : ones_of (bools 64 c.args.ours) ≡ ones c.args.ours = ones_of-bools 64 c.args.ours c.ranges.ours.fits in
    let theirs : ones_of (bools 64 c.args.theirs) ≡ ones c.args.theirs = ones_of-bools 64 c.args.theirs c.ranges.theirs.fits in
    rw (c.cmp.ensures, ← ours, ← theirs)
    (order-by_count (bools 64 c.args.ours) (bools 64 c.args.theirs) (rw (← ours, ← theirs) at c.if-our_ones-their_ones.true))

pub returns-then-ours-theirs : goal.returns-then-ours-theirs
returns-then-ours-theirs c = rw c.if-ours-theirs.true (sym (vector_order-same (bools 64 c.args.theirs)))

pub returns-then-ours-lowest_difference-eq1 : goal.returns-then-ours-lowest_difference-eq1
returns-then-ours-lowest_difference-eq1 c =
    let counts : ones_of (bools 64 c.args.ours) ≡ ones_of (bools 64 c.args.theirs) =
    ones_of-bools 64 c.args.ours c.ranges.ours.fits ∙ c.if-our_ones-their_ones.false ∙ sym (ones_of-bools 64 c.args.theirs c.ranges.theirs.fits) in
    let one : has_bit c.args.ours c.lowest_difference.result ≡ true = eq-eqb _ _ (rw shr_and_one at c.if-ours-lowest_difference-eq1.true) in
    order-less (bools 64 c.args.ours) (bools 64 c.args.theirs) c.lowest_difference.result counts
    (DifferAt-lowest c.args.ours c.args.theirs c.lowest_difference.result c.lowest_difference.ensures one)

pub returns-else-ours-lowest_difference-eq1 : goal.returns-else-ours-lowest_difference-eq1
returns-else-ours-lowest_difference-eq1 c =
    let counts : ones_of (bools 64 c.args.ours) ≡ ones_of (bools 64 c.args.theirs) =
    ones_of-bools 64 c.args.ours c.ranges.ours.fits ∙ c.if-our_ones-their_ones.false ∙ sym (ones_of-bools 64 c.args.theirs c.ranges.theirs.fits) in
    let none : has_bit c.args.ours c.lowest_difference.result ≡ false = ne_eqb _ _ (rw shr_and_one at c.if-ours-lowest_difference-eq1.false) in
    let swapped = IsLowestDifference-swap c.args.ours c.args.theirs c.lowest_difference.result c.lowest_difference.ensures none in
    order-greater (bools 64 c.args.ours) (bools 64 c.args.theirs) c.lowest_difference.result counts
    (DifferAt-lowest c.args.theirs c.args.ours c.lowest_difference.result swapped.0 swapped.1)
