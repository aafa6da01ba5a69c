-- The limits of a table.
use Rattle.std.specs.Prelude.{ℕ}

-- the most shards
abbrev pub most_shards : ℕ
most_shards = 64

-- the most entries that a shard may have room for
abbrev pub most_room : ℕ
most_room = 65536

-- the most entries that a table may have room for, in all its shards
abbrev pub most_entries : ℕ
most_entries = 262144
