-- What is found at the node that the numbers say, by the numbers.
use Rattle.std.proofs.Common.{◌≡◌, ℕ, List, Result, Ok, Err, refl, sym, ap, subst}
use Rattle.std.specs.Prelude.{IfErr, IsErrOf}
use Rattle.strategy_games.specs.Choosing.{IsBestWeight, IsNamedByWeight}
use Rattle.strategy_tree.specs.Bridge.{bridge}
use Rattle.strategy_tree.specs.RootTrees.{IsSpentAt}
use Rattle.strategy_tree.specs.declared.root_fault.RootFault.{RootFault}
use Rattle.strategy_tree.specs.declared.root_fault.RootFault.TheVariants.{Spent, Memory}
use Rattle.bit_questions.specs.declared.question.Question.{Question}
use Rattle.bit_questions.specs.declared.asked.Asked.{Asked}
use Rattle.bit_questions.specs.Asked.{IsAsked}
use Rattle.bit_answers.specs.Answers.{HoldsAt, IsChoice}
use Rattle.bit_answers.specs.Ready.{IsReady, IsSearchFault}
use Rattle.bit_answers.specs.Faults.{fault_of, IsRefusedFor}

-- what is read of the numbers is ready for a search
pub ready : (q : Question) (lefts weights : List ℕ) (asked : Asked) → IsAsked q lefts weights asked → IsReady asked
ready q lefts weights asked is = record { turn = is.turn; weighed = is.weighed; moves = is.moves.1 }

-- a search that names a card whose tree is too large
pub named_fault : (asked : Asked) (fault : RootFault) → ((card : ℕ) → fault ≡ Spent card → IsSpentAt asked.node asked.moves asked.nodes card) → IsSearchFault asked fault
named_fault asked (Spent card) named = named card refl
named_fault asked Memory named = tt

pub search_faults : {T : Type 0} (asked : Asked) (result : Result T RootFault) → ((card : ℕ) → IsErrOf result (Spent card) → IsSpentAt asked.node asked.moves asked.nodes card) → IfErr result (IsSearchFault asked)
search_faults asked (Ok found) named = tt
search_faults asked (Err fault) named = named_fault asked fault (λ card same. named card (ap Err same))

-- the card that is found, by the numbers
pub choice_of : (q : Question) (lefts weights : List ℕ) (asked : Asked) → IsAsked q lefts weights asked → (card number weight : ℕ) → number ≡ card
    → IsNamedByWeight bridge asked.weights asked.node asked.moves card → IsBestWeight bridge asked.weights asked.node asked.moves weight
    → HoldsAt q lefts (λ n. IsChoice n weights q.moves (record { card = number; weight = weight }))
choice_of q lefts weights asked is card number weight same named best = (
  asked.node,
  is.node,
  record {
    card =
        subst (λ c. IsNamedByWeight bridge weights asked.node q.moves c) (sym same)
        (subst (λ m. IsNamedByWeight bridge weights asked.node m card) is.moves.0 (subst (λ ws. IsNamedByWeight bridge ws asked.node asked.moves card) is.weights named));
    weight = subst (λ m. IsBestWeight bridge weights asked.node m weight) is.moves.0 (subst (λ ws. IsBestWeight bridge ws asked.node asked.moves weight) is.weights best);
  },
)

-- a fault of the search is one of the question
pub refused_for : (q : Question) (lefts weights : List ℕ) (asked : Asked) (fault : RootFault) → IsAsked q lefts weights asked → IsSearchFault asked fault → IsRefusedFor q lefts weights (fault_of fault)
refused_for q lefts weights asked (Spent card) is spent =
    (asked.node, is.node, subst (λ nodes. IsSpentAt asked.node q.moves nodes card) is.nodes.0 (subst (λ moves. IsSpentAt asked.node moves asked.nodes card) is.moves.0 spent))
refused_for q lefts weights asked Memory is spent = tt
