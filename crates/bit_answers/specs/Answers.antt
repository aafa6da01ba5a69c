-- What is answered to a question in numbers: the definitions' answer at the node that the numbers say.
use Rattle.std.specs.Prelude.{◌≡◌, ◌-◌, ℕ, List, flat_map}
use Rattle.std.specs.List.{AllZip}
use Rattle.bit_lists.specs.Words.{words_of}
use Rattle.win_vectors.specs.Fronts.{Vector}
use Rattle.win_vectors.specs.Weights.{weight_of}
use Rattle.trick_rules.specs.Nodes.{NodeValue, choices, child}
use Rattle.strategy_games.specs.Plans.{IsFront}
use Rattle.strategy_games.specs.Choosing.{IsBestWeight, IsNamedByWeight}
use Rattle.strategy_tree.specs.Bridge.{bridge}
use Rattle.fusion_base.specs.Sampling.{made_after}
use Rattle.vector_words.specs.Best.{IsFirstBest}
use Rattle.bit_questions.specs.declared.question.Question.{Question}
use Rattle.bit_questions.specs.Numbers.{IsAskedNode}
use Rattle.bit_answers.specs.declared.structs.Choice.{Choice}
use Rattle.bit_answers.specs.declared.structs.Worth.{Worth}

-- it holds of the node that the numbers say
abbrev pub HoldsAt : Question → List ℕ → (NodeValue → Type 0) → Type 0
HoldsAt q lefts Holds = (n : NodeValue) × IsAskedNode q lefts n × Holds n

-- the first card that keeps the best weight, and that weight
pub record IsChoice (n : NodeValue) (weights : List ℕ) (moves : ℕ) (choice : Choice) : Type 0 where
  pub card : IsNamedByWeight bridge weights n moves choice.card
  pub weight : IsBestWeight bridge weights n moves choice.weight

-- what a card is worth: the first of the heaviest vectors of the front after it, and the weight of what double dummy makes
pub record IsWorth (n : NodeValue) (weights : List ℕ) (moves card : ℕ) (worth : Worth) : Type 0 where
  pub card_is : worth.card ≡ card
  pub front : List Vector
  pub is_front : IsFront bridge (child n card) (moves - 1) front
  pub best : Vector
  pub is_best : IsFirstBest weights front best
  pub vector : worth.vector ≡ words_of 4 best
  pub weight : worth.weight ≡ weight_of weights best
  pub double_dummy : worth.double_dummy ≡ weight_of weights (made_after n card)

-- each legal card in card order
abbrev pub AreWorths : NodeValue → List ℕ → ℕ → List Worth → Type 0
AreWorths n weights moves worths = AllZip (IsWorth n weights moves) (choices n) worths

-- the vectors of the front, four words each
abbrev pub AreFrontWords : NodeValue → ℕ → List ℕ → Type 0
AreFrontWords n moves words = (front : List Vector) × IsFront bridge n moves front × (words ≡ flat_map (words_of 4) front)
