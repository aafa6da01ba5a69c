-- A test that each number below a limit passes, worked out once for all of them.
use Rattle.std.proofs.Common.{◌≡◌, ℕ, ◌+◌, ◌<◌, Bool, true, false, ◌==◌, Option, Some, None, get_or, refl, sym, ap, ◌∙◌, arith}
use Rattle.std.specs.List.{list_all, range_with_len}
use Rattle.std.proofs.lemmas.Bool.{false≢true}
use Rattle.std.proofs.lemmas.Bool.Decides.{Decides-eqb}
use Rattle.std.proofs.lemmas.List.Folds.{list_all_at}
use Rattle.std.proofs.lemmas.List.FromFn.{get_or-range_with_len, length-range_with_len}

-- the option has this number
abbrev pub is_number : Option ℕ → ℕ → Bool
is_number None n = false
is_number (Some m) n = m == n

pub number_is : (o : Option ℕ) (n : ℕ) → is_number o n ≡ true → o ≡ Some n
number_is None n h = absurd (false≢true h)
number_is (Some m) n h = ap (λ x. Some x) ((Decides-eqb m n).0 h)

-- a test that each number below a limit passes
pub below_limit : (p : ℕ → Bool) (limit n : ℕ) → list_all p (range_with_len 0 limit) ≡ true → n < limit → p n ≡ true
below_limit p limit n all low = go (p n) refl
  where
    go : (b : Bool) → p n ≡ b → b ≡ true
    go true is = refl
    go false is =
        let same : 0 + n ≡ n = omega arith in
        let at : get_or (range_with_len 0 limit) n 0 ≡ n = get_or-range_with_len 0 limit n 0 low ∙ same in
        absurd (false≢true (sym (list_all_at p (range_with_len 0 limit) n 0 (omega (arith, length-range_with_len 0 limit)) (rw at is)) ∙ all))
