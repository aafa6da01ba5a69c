-- A search that goes on.
use Rattle.std.proofs.Common.{◌∙◌, refl}
use Rattle.assured_fronts.specs.declared.search.AssuredSearch.{AssuredSearch}
use Rattle.assured_fronts.specs.AssuredSearches.{IsSameSearch}

pub same_none : (now : AssuredSearch) → IsSameSearch now now
same_none now = record { budget = refl; nodes = refl }

pub same_more : {early middle late : AssuredSearch} → IsSameSearch early middle → IsSameSearch middle late → IsSameSearch early late
same_more a b = record { budget = b.budget ∙ a.budget; nodes = b.nodes ∙ a.nodes }
