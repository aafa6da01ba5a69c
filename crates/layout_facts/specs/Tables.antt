-- The first reason of a table of facts with their layouts.
use Rattle.std.specs.Prelude.{Option, None, Some, List, [], ◌∷◌, if◌then◌else◌}
use Rattle.std.specs.Option.{option_or}
use Rattle.std.specs.Cmp.Lexicographic.{pointwise}
use Rattle.std.proofs.Math.Bool.{beq}
use Rattle.win_vectors.specs.Fronts.{Vector}
use Rattle.win_vectors.specs.Vectors.{meet_of, either_of}
use Rattle.layout_facts.specs.declared.judged.Judged.{Judged}
use Rattle.layout_facts.specs.declared.deciding.Joint.{Joint}
use Rattle.layout_facts.specs.declared.deciding.Joint.TheVariants.{And, Or}
use Rattle.layout_facts.specs.declared.deciding.Reason.{Reason}
use Rattle.layout_facts.specs.declared.deciding.Reason.TheVariants.{One, Two}

-- the layouts of both, or of either
abbrev pub joined : Joint → Vector → Vector → Vector
joined And first second = meet_of first second
joined Or first second = either_of first second

-- the first fact with these layouts
abbrev pub first_one : Vector → List Judged → Option Reason
first_one vector [] = None
first_one vector (judged ∷ rest) = if pointwise beq judged.vector vector then Some (One judged.fact) else first_one vector rest

-- the first fact that has these layouts if it is joined to another
abbrev pub second_of : Vector → Joint → Judged → List Judged → Option Reason
second_of vector joint first [] = None
second_of vector joint first (second ∷ rest) =
    if pointwise beq (joined joint first.vector second.vector) vector then Some (Two first.fact joint second.fact)
    else second_of vector joint first rest

-- the first of these facts that has such a second one in the table
abbrev pub first_two : Vector → Joint → List Judged → List Judged → Option Reason
first_two vector joint table [] = None
first_two vector joint table (first ∷ rest) = option_or (second_of vector joint first table) (first_two vector joint table rest)

-- the first reason
abbrev pub first_reason : Vector → List Judged → Option Reason
first_reason vector table = option_or (option_or (first_one vector table) (first_two vector And table table)) (first_two vector Or table table)
