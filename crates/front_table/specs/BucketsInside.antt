-- What is true of the fields of `Buckets`.
use Rattle.std.specs.Prelude.{◌≡◌, ◌^◌, ◌<◌, ◌≤◌, length}
use Rattle.front_table.specs.Buckets.{AreLinked}
use Rattle.front_table.specs.declared.buckets.Buckets.TheInside.{Inside}

-- every place is linked, and there are places only if there are buckets
pub record AreSound (a : Inside) : Type 0 where
  pub few : length a.digests.items < 2 ^ 32
  pub places : length a.earlier.items ≡ length a.digests.items
  pub some : 1 ≤ length a.digests.items → 1 ≤ length a.heads.items
  pub linked : AreLinked a.digests.items a.heads.items a.earlier.items (length a.digests.items)
