-- A store of one caller, and how it grows.
use Rattle.std.specs.Prelude.{◌≡◌, ℕ, List, [], ◌++◌}
use Rattle.std.proofs.Common.{refl, ap, ◌∙◌, append_assoc, append-nil}
use Rattle.front_table.specs.Entries.{StoredFrontValue}

-- its entries, and for how many it has room
pub record LocalStoreValue : Type 0 where
  pub entries : List StoredFrontValue
  pub room : ℕ

-- the earlier list begins the later one, and the room stays
pub record HasGrown (early later : LocalStoreValue) : Type 0 where
  pub list : (new : List StoredFrontValue) × (later.entries ≡ early.entries ++ new)
  pub room : later.room ≡ early.room

pub HasGrown-none : (store : LocalStoreValue) → HasGrown store store
HasGrown-none store = record { list = ([], rw append-nil refl); room = refl }

pub HasGrown-more : (early middle late : LocalStoreValue) → HasGrown early middle → HasGrown middle late → HasGrown early late
HasGrown-more early middle late h k = record {
  list = (h.list.0 ++ k.list.0, k.list.1 ∙ ap (λ xs. xs ++ k.list.0) h.list.1 ∙ append_assoc early.entries h.list.0 k.list.0);
  room = k.room ∙ h.room;
}
