use Rattle.std.proofs.Common.{◌≡◌, ◌++◌, flat_map, take}
use Rattle.page_text.specs.Beliefs.{belief_row}
use Rattle.page_text.proofs.beliefs.push_beliefs.Given as goal

abbrev pub invariant-loop-belief : goal.invariant-loop-belief
invariant-loop-belief l = l.page ≡ l.initial.page ++ flat_map (belief_row l.lines) (take l.belief-index l.beliefs)
