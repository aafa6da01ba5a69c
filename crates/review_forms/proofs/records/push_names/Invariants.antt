use Rattle.std.proofs.Common.{◌≡◌, ◌++◌, map, take}
use Rattle.review_forms.proofs.records.push_names.Given as goal

abbrev pub invariant-loop-name : goal.invariant-loop-name
invariant-loop-name l = l.fields ≡ l.initial.fields ++ map (λ name. name.now) (take l.name-index l.names)
