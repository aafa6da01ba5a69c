use Rattle.std.proofs.Common.{◌≡◌, Option, None, Some, MatchOption, ℕ, List, [], ◌∷◌}
use Rattle.std.specs.Prelude.{IfSome}
use Rattle.alphamu_core.specs.Kept.{IsTaken}
use Rattle.alphamu_core.proofs.Taken.{taken_first}
use Rattle.assured_fronts.proofs.tried.next_card.Goals as goal

first_taken : (cards rest : List ℕ) (found : Option ℕ) → MatchOption found ((cards ≡ []) × (rest ≡ [])) (λ card. cards ≡ card ∷ rest) → IfSome found (λ card. IsTaken cards card rest)
first_taken cards rest None none = tt
first_taken cards rest (Some card) is = taken_first cards card rest is

pub returns-else-is_ours-clause-taken : goal.returns-else-is_ours-clause-taken
returns-else-is_ours-clause-taken c = first_taken c.args.cards.now c.pop_first.new.self c.pop_first.result c.pop_first.ensures.value
