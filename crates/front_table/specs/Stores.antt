-- What becomes of an entry that is offered to a store.
use Rattle.std.specs.Prelude.{◌≡◌, ⊤}
use Rattle.front_table.specs.Proven.{ProvenFrontValue}
use Rattle.front_table.specs.declared.store.Put.{Put}
use Rattle.front_table.specs.declared.store.Put.TheVariants.{Kept, Present, Full, TooWide, Busy, Memory}

-- an entry that isn't kept comes back as it was
abbrev pub HandsBack : ProvenFrontValue → Put → Type 0
HandsBack entry Kept = ⊤
HandsBack entry (Present back) = back ≡ entry
HandsBack entry (Full back) = back ≡ entry
HandsBack entry (TooWide back) = back ≡ entry
HandsBack entry (Busy back) = back ≡ entry
HandsBack entry (Memory back) = back ≡ entry
