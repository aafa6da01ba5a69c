-- What stands between the beginning and the end of a line.
use Rattle.std.proofs.Common.{◌≡◌, ◌≤◌, ◌+◌, ◌-◌, ℕ, Bool, true, false, min, List, take, drop, refl, sym, ap, ◌∙◌, arith}
use Rattle.std.specs.Prelude.{nat_le}
use Rattle.std.proofs.lemmas.Bool.Decides.{nat_tests}
use Rattle.std.proofs.lemmas.List.{length-take, drop-take, drop_all}

within : (line : List ℕ) (start end : ℕ) → start ≤ end → take (end - start) (drop start line) ≡ drop start (take end line)
within line start end less =
    let whole : start + (end - start) ≡ end = omega arith in
    sym (drop-take start (end - start) line) ∙ ap (λ n. drop start (take n line)) whole

short : (line : List ℕ) (start end : ℕ) → end ≤ start → take (end - end) (drop end line) ≡ drop start (take end line)
short line start end less =
    let none : end - end ≡ 0 = omega arith in
    ap (λ n. take n (drop end line)) none ∙ sym (drop_all start (take end line) (omega (arith, length-take end line, less)))

-- from a start, but no further than the end
pub between-ends : (line : List ℕ) (most start end : ℕ) → start ≡ min most end → take (end - start) (drop start line) ≡ drop most (take end line)
between-ends line most start end is = go (nat_le most end) refl where
  go : (b : Bool) → nat_le most end ≡ b → take (end - start) (drop start line) ≡ drop most (take end line)
  go true long =
      let same : start ≡ most = grind (arith, nat_tests, long, is) in
      ap (λ n. take (end - n) (drop n line)) same ∙ within line most end (grind (arith, nat_tests, long))
  go false long =
      let same : start ≡ end = grind (arith, nat_tests, long, is) in
      ap (λ n. take (end - n) (drop n line)) same ∙ short line most end (grind (arith, nat_tests, long))
