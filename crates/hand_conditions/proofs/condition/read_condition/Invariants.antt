use Rattle.std.proofs.Common.{◌≡◌}
use Rattle.std.specs.Prelude.{option_map}
use Rattle.hand_conditions.specs.Reading.{condition_read, before_terms}
use Rattle.hand_conditions.proofs.Pieces.{terms_left, size_left}
use Rattle.hand_conditions.proofs.condition.read_condition.Given as goal

-- the terms so far come before those of the text that is left
abbrev pub invariant-terms : goal.invariant-terms
invariant-terms l = condition_read l.text ≡ before_terms l.terms.items (terms_left (option_map (λ text. text.now) l.rest))

abbrev pub decreases-terms : goal.decreases-terms
decreases-terms l = size_left (option_map (λ text. text.now) l.rest)
