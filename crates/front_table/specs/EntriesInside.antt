-- What is true of the fields of `Entries`.
use Rattle.std.specs.Prelude.{◌≡◌, map}
use Rattle.front_table.specs.Digests.{digest_of}
use Rattle.front_table.specs.Entries.{HasKeysOnce}
use Rattle.front_table.specs.declared.entries.Entries.TheInside.{Inside}

-- each entry is in the bucket of its digest, and no key is there twice
pub record AreKept (a : Inside) : Type 0 where
  pub digests : a.buckets.digests ≡ map (λ e. digest_of e.node e.moves) a.list.items
  pub once : HasKeysOnce a.list.items
