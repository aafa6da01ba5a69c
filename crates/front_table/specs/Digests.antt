-- The digest of a key.
use Rattle.std.specs.Prelude.{ℕ, List, [], ◌∷◌, fold}
use Rattle.std.specs.Hash.{HashWrites, u8, u64, slice}
use Rattle.std.specs.Hash.FoldHasher.{initial, write, finish}
use Rattle.bit_lists.specs.Bits.{number_at}
use Rattle.card_sets.specs.declared.seat.Seat.TheVariants.{Declarer}
use Rattle.trick_rules.specs.Positions.{places_on}
use Rattle.trick_rules.specs.Nodes.{NodeValue}

-- a set of cards, as it is fed to a hasher
abbrev pub set_writes : List ℕ → HashWrites
set_writes cards = u64 (number_at cards)

-- what a hasher is fed for a node and its moves: the whole of both
abbrev pub key_writes : NodeValue → ℕ → List HashWrites
key_writes n moves = set_writes n.position.declarer ∷ set_writes n.position.dummy ∷ set_writes n.position.unseen
    ∷ slice u8 n.position.trick.cards ∷ u8 (places_on Declarer n.position.trick.leader) ∷ u8 n.position.need
    ∷ slice set_writes n.lefts ∷ u8 moves ∷ []

-- the digest of a node and its moves
unfoldable pub digest_of : NodeValue → ℕ → ℕ
digest_of n moves = finish (fold (fold write) initial (key_writes n moves))
