-- What a search has found for declarer's side.
use Rattle.std.specs.Prelude.{ℕ, Bool, List}
use Rattle.strategy_games.specs.Plans.{Plan}

-- a vector of the front, and the plan that is printed for it
pub record EntryValue : Type 0 where
  pub vector : List Bool
  pub plan : Plan ℕ

-- the same as a report gives it, with the number behind the vector: how many layouts it wins, or their weight
pub record ReadEntryValue : Type 0 where
  pub entry : EntryValue
  pub weight : ℕ

-- the front with its plans, the card to play, and the weight of the layouts in which the contract is made
pub record SolveAnswerValue : Type 0 where
  pub entries : List EntryValue
  pub card : ℕ
  pub weight : ℕ
