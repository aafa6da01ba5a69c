-- What decides a win vector: one fact about the defenders' hands, or two.
use Rattle.std.specs.Prelude.{◌==◌, Bool, ◌&&◌, ◌||◌, Option, None, List, ◌++◌, length, map, flat_map, find, nat_lt, if◌then◌else◌}
use Rattle.std.specs.Cmp.Lexicographic.{pointwise}
use Rattle.std.proofs.Math.Bool.{beq}
use Rattle.win_vectors.specs.Fronts.{Vector}
use Rattle.win_vectors.specs.Vectors.{ones_of}
use Rattle.trick_rules.specs.Positions.{State}
use Rattle.trick_rules.specs.Nodes.{NodeValue, states}
use Rattle.layout_facts.specs.declared.fact.Fact.{Fact}
use Rattle.layout_facts.specs.declared.judged.Judged.{Judged}
use Rattle.layout_facts.specs.declared.deciding.Joint.{Joint}
use Rattle.layout_facts.specs.declared.deciding.Joint.TheVariants.{And, Or}
use Rattle.layout_facts.specs.declared.deciding.Reason.{Reason}
use Rattle.layout_facts.specs.declared.deciding.Reason.TheVariants.{One, Two}
use Rattle.layout_facts.specs.Facts.{holds_in, facts}

-- whether a reason is so: its fact, or both of its facts, or one of them
abbrev pub is_so : Reason → State → Bool
is_so (One fact) s = holds_in fact s
is_so (Two first And second) s = holds_in first s && holds_in second s
is_so (Two first Or second) s = holds_in first s || holds_in second s

-- a reason is so in exactly the layouts that are made
abbrev pub decides : NodeValue → Vector → Reason → Bool
decides n vector reason = pointwise beq (map (is_so reason) (states n)) vector

-- a fact joined to each fact
abbrev pub joined_to : Joint → Fact → List Reason
joined_to joint first = map (λ second. Two first joint second) facts

-- all reasons in order: single facts, two facts with *and*, and two with *or*
unfoldable pub reasons : List Reason
reasons = map (λ fact. One fact) facts ++ flat_map (joined_to And) facts ++ flat_map (joined_to Or) facts

-- some of the node's layouts are made, and not all of them
abbrev pub is_split : NodeValue → Vector → Bool
is_split n vector = (length vector == length n.lefts) && (nat_lt 0 (ones_of vector) && nat_lt (ones_of vector) (length n.lefts))

-- what decides a vector: the first reason that is so in exactly the layouts that are made
unfoldable pub what_decides : NodeValue → Vector → Option Reason
what_decides n vector = if is_split n vector then find (decides n vector) reasons else None

-- the layouts in which a fact is so
abbrev pub where_so : NodeValue → Fact → Vector
where_so n fact = map (holds_in fact) (states n)

abbrev pub judge : NodeValue → Fact → Judged
judge n fact = record { fact = fact; vector = where_so n fact }
