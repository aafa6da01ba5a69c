-- Counts that rise.
use Rattle.std.proofs.Common.{◌≡◌, ℕ, ◌≤◌, Bool, true, false, if◌then◌else◌, arith}
use Rattle.std.proofs.lemmas.Bool.Decides.{nat_tests}
use Rattle.am_outside.specs.Faults.{Rose, one_more}

-- a count that never falls, and rose in between, rose in all
pub Rose_between : (before b c now : ℕ) → before ≤ b → b ≤ c → Rose b c → c ≤ now → Rose before now
Rose_between before b c now h1 h2 rose h3 = grind arith

pub one_more-rises : (count : ℕ) → Rose count (one_more count)
one_more-rises count = grind (arith, nat_tests)

pub one_more-no_fall : (count : ℕ) → count ≤ one_more count
one_more-no_fall count = grind (arith, nat_tests)

-- a count that rises by a test, where the test passes
pub one_more_if-rises : (b : Bool) (count : ℕ) → b ≡ true → Rose count (if b then one_more count else count)
one_more_if-rises b count passes = rw passes (one_more-rises count)

same_count : (count : ℕ) → count ≤ count
same_count count = omega arith

-- and where it may not pass
pub one_more_if-no_fall : (b : Bool) (count : ℕ) → count ≤ (if b then one_more count else count)
one_more_if-no_fall true count = one_more-no_fall count
one_more_if-no_fall false count = same_count count
