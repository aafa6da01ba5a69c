use Rattle.std.proofs.Common.{◌≡◌, suc, ◌+◌, ◌-◌, ◌*◌, ◌^◌, false, get_or, sym, ap, ap₂, ◌∙◌, arith}
use Rattle.std.specs.Prelude.{if◌then◌else◌}
use Rattle.std.proofs.Math.Nat.{pow-suc}
use Rattle.vector_words.proofs.Horner.{tail_of, tail_none, tail_more, tail_all, bit_small}
use Rattle.vector_words.proofs.words.word_from.Goals as goal

pub loop-step-init : goal.loop-step-init
loop-step-init c = record { so_far = tail_none c.args.vector c.args.start; fits = omega arith }

pub loop-step-preserved : goal.loop-step-preserved
loop-step-preserved c =
    let bits = c.args.vector in
    let start = c.args.start in
    let step = c.loop-step.step in
    let next : 64 - step ≡ 63 - step + 1 = omega arith in
    let lower : 63 - step ≡ 64 - (step + 1) = omega arith in
    let more : suc step ≡ step + 1 = omega arith in
    let power : 2 ^ (step + 1) ≡ 2 ^ step * 2 = ap (λ k. 2 ^ k) (sym more) ∙ pow-suc 2 step in
    record {
      so_far = ap₂ (λ w b. w * 2 + b) c.loop-step.invariant.so_far c.bit_at-bit.ensures ∙ tail_more bits start (64 - step) step (63 - step) next ∙ ap₂ (tail_of bits start) lower more;
      fits = omega (arith, power, c.bit_at-bit.ensures, bit_small (get_or bits (start + (63 - step)) false), c.loop-step.invariant.fits);
    }

pub returns : goal.returns
returns c =
    let all : c.loop-step.step ≡ 64 = omega arith in
    c.loop-step.invariant.so_far ∙ ap (λ k. tail_of c.args.vector c.args.start (64 - k) k) all ∙ tail_all c.args.vector c.args.start
