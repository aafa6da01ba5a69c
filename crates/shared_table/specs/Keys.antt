-- Which shard a key belongs to.
use Rattle.std.specs.Prelude.{ℕ, ◌+◌, ◌%◌, sum}
use Rattle.trick_rules.specs.Nodes.{NodeValue}

-- the numbers of the cards in declarer's hand, in dummy's hand and in the unseen set, and the moves, added up
abbrev pub key_number : NodeValue → ℕ → ℕ
key_number n moves = sum n.position.declarer + sum n.position.dummy + sum n.position.unseen + moves

-- the shard of a key, among this many
abbrev pub shard_of : ℕ → NodeValue → ℕ → ℕ
shard_of shards n moves = key_number n moves % shards
