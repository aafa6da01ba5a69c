-- What a seat holds between its take and its give.
use Rattle.std.proofs.Common.{◌≡◌, ℕ, List, ◌∷◌, sym, ap, ◌∙◌}
use Rattle.atomic_table.specs.Table.{rest}
use Rattle.shared_table.specs.Shards.{held}
use Rattle.shared_table.specs.Passes.{Holds}
use Rattle.shared_table.proofs.Prefixes.{E}

-- the shard that is held was taken last
pub holds_last : (i : ℕ) (c : List (ℕ × E)) → Holds i c → (list : E) × (c ≡ (i, list) ∷ rest c)
holds_last i c e = (held c, e ∙ ap (λ (l : List (ℕ × E)). (i, held c) ∷ rest l) (sym e))

-- what is lent is what is held
pub lent_held : (i : ℕ) (c : List (ℕ × E)) (list : E) → c ≡ (i, list) ∷ rest c → held c ≡ list
lent_held i c list e = ap held e
