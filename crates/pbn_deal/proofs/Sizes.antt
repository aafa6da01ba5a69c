-- The sizes of hands, one after another.
use Rattle.std.proofs.Common.{ℕ, Bool, List, Option, Some, None}
use Rattle.std.specs.Prelude.{◌==◌}
use Rattle.std.specs.List.{list_all}
use Rattle.pbn_deal.specs.Deal.{are_one_size}

-- whether the sizes that follow keep to one size, where a first size was seen or not
abbrev pub sizes_from : Option ℕ → List ℕ → Bool
sizes_from None sizes = are_one_size sizes
sizes_from (Some first) sizes = list_all (λ other. other == first) sizes
