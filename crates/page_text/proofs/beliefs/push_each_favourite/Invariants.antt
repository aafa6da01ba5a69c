use Rattle.std.proofs.Common.{◌≡◌, ◌++◌, flat_map, take}
use Rattle.page_text.specs.Beliefs.{favourite}
use Rattle.page_text.proofs.beliefs.push_each_favourite.Given as goal

abbrev pub invariant-loop-belief : goal.invariant-loop-belief
invariant-loop-belief l = l.page ≡ l.initial.page ++ flat_map (favourite l.most) (take l.belief-index l.beliefs)
