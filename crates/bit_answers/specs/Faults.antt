-- Why a question in numbers has no answer.
use Rattle.std.specs.Prelude.{ℕ, List}
use Rattle.trick_rules.specs.Nodes.{NodeValue}
use Rattle.strategy_tree.specs.RootTrees.{IsSpentAt}
use Rattle.strategy_tree.specs.declared.root_fault.RootFault as root
use Rattle.bit_questions.specs.declared.question.Question as questions
use Rattle.bit_questions.specs.declared.fault.QuestionFault.TheVariants.{Memory}
use Rattle.bit_questions.specs.Causes.{HasCause, code_of}
use Rattle.bit_questions.specs.Numbers.{IsAskedNode}
use Rattle.bit_answers.specs.declared.fault.BitFault.{BitFault}
use Rattle.bit_answers.specs.declared.fault.BitFault.TheVariants.{Question, Spent, NoVector}

-- an allocation that failed
abbrev pub out_of_memory : BitFault
out_of_memory = Question Memory

-- why a search ends with no answer
abbrev pub fault_of : root.RootFault → BitFault
fault_of (root.TheVariants.Spent card) = Spent card
fault_of root.TheVariants.Memory = out_of_memory

-- the number that C has for a fault
abbrev pub number_of : BitFault → ℕ
number_of (Question fault) = code_of fault
number_of (Spent card) = 7
number_of NoVector = 47

-- the numbers have this fault; or the tree after a root card of the node that they say is too large. No vector is asked for
abbrev pub IsRefusedFor : questions.Question → List ℕ → List ℕ → BitFault → Type 0
IsRefusedFor q lefts weights (Question fault) = HasCause q lefts weights fault
IsRefusedFor q lefts weights (Spent card) = (n : NodeValue) × IsAskedNode q lefts n × IsSpentAt n q.moves q.nodes card
IsRefusedFor q lefts weights NoVector = ⊥
