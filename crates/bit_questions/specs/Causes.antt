-- Why the numbers of a question are refused.
use Rattle.std.specs.Prelude.{◌≡◌, ◌≢◌, ◌+◌, ◌*◌, ◌^◌, ◌<◌, ◌≤◌, ⊤, ℕ, true, false, List, [], length, slice_get, Some, All, AllPairs}
use Rattle.card_sets.specs.SetWords.{Apart}
use Rattle.card_sets.specs.declared.seat.Seat.TheVariants.{Left, Dummy, Right}
use Rattle.win_vectors.specs.Vectors.{most_layouts}
use Rattle.win_vectors.specs.Weights.{IsWeight}
use Rattle.trick_rules.specs.Positions.{PositionValue, FitsLeft, to_play, played_count, tricks_left}
use Rattle.trick_rules.specs.Play.{is_declarers, is_over}
use Rattle.bit_questions.specs.declared.question.Question.{Question}
use Rattle.bit_questions.specs.declared.fault.QuestionFault as faults
use Rattle.bit_questions.specs.declared.fault.QuestionFault.TheVariants.{NotCards, Overlap, Trick, PlayedTwice, Sizes, Leader, Trump, Need, NoLayouts, TooManyLayouts, Layout, WeightCount, Weight, Moves, Nodes, NoTurn, Memory}
use Rattle.bit_questions.specs.Numbers.{cards_at, trick_of, IsAskedPosition, AreMoves}

-- no hand has a bit past the last card
pub record AreCards (q : Question) : Type 0 where
  pub declarer : q.declarer < 2 ^ 52
  pub dummy : q.dummy < 2 ^ 52
  pub unseen : q.unseen < 2 ^ 52

-- up to three cards
abbrev pub IsTrick : Question → Type 0
IsTrick q = (q.played ≤ 3) × All (λ card. card < 52) (trick_of q)

-- no card is in two hands
pub record AreHandsApart (t : PositionValue) : Type 0 where
  pub declarer_dummy : Apart t.declarer t.dummy
  pub declarer_unseen : Apart t.declarer t.unseen
  pub dummy_unseen : Apart t.dummy t.unseen

-- no card of the trick is in a hand, or in the trick twice
pub record IsTrickApart (t : PositionValue) : Type 0 where
  pub declarer : Apart t.trick.cards t.declarer
  pub dummy : Apart t.trick.cards t.dummy
  pub unseen : Apart t.trick.cards t.unseen
  pub differs : AllPairs (λ c d. c ≢ d) t.trick.cards

-- with their cards in the trick, dummy has as many as declarer and the defenders twice as many
pub record HaveSizes (t : PositionValue) : Type 0 where
  pub dummy : length t.dummy + played_count t Dummy ≡ tricks_left t
  pub unseen : length t.unseen + played_count t Left + played_count t Right ≡ 2 * tricks_left t

-- declarer's side is to play, and cards are left
pub record CanChoose (t : PositionValue) : Type 0 where
  pub ours : is_declarers (to_play t) ≡ true
  pub goes_on : is_over t ≡ false

-- the position that the numbers say isn't so
abbrev pub Lacks : (PositionValue → Type 0) → Question → Type 0
Lacks Holds q = (t : PositionValue) × IsAskedPosition q t × (Holds t → ⊥)

-- what a position lacks that isn't sound
abbrev pub LacksPart : PositionValue → faults.QuestionFault → Type 0
LacksPart t Overlap = AreHandsApart t → ⊥
LacksPart t Sizes = HaveSizes t → ⊥
LacksPart t PlayedTwice = IsTrickApart t → ⊥
LacksPart t _ = ⊥

-- a word of a Left hand that fits
abbrev pub IsLeftWord : ℕ → PositionValue → Type 0
IsLeftWord bits t = (bits < 2 ^ 52) × FitsLeft t (cards_at bits)

-- the first layout that doesn't fit a position, or no memory
abbrev pub IsLayoutFault : PositionValue → List ℕ → faults.QuestionFault → Type 0
IsLayoutFault t lefts (Layout place) = (bits : ℕ) × (slice_get lefts place ≡ Some bits) × (IsLeftWord bits t → ⊥)
IsLayoutFault t lefts NoLayouts = lefts ≡ []
IsLayoutFault t lefts TooManyLayouts = most_layouts < length lefts
IsLayoutFault t lefts Memory = ⊤
IsLayoutFault t lefts _ = ⊥

-- weights that aren't one for each of this many layouts, or one of them that is none
abbrev pub IsWeightFault : ℕ → List ℕ → faults.QuestionFault → Type 0
IsWeightFault width weights WeightCount = length weights ≢ width
IsWeightFault width weights (Weight place) = (weight : ℕ) × (slice_get weights place ≡ Some weight) × (IsWeight weight → ⊥)
IsWeightFault width weights _ = ⊥

-- a fault of a question, its layouts and their weights
abbrev pub HasCause : Question → List ℕ → List ℕ → faults.QuestionFault → Type 0
HasCause q lefts weights NotCards = AreCards q → ⊥
HasCause q lefts weights Overlap = Lacks AreHandsApart q
HasCause q lefts weights Trick = IsTrick q → ⊥
HasCause q lefts weights PlayedTwice = Lacks IsTrickApart q
HasCause q lefts weights Sizes = Lacks HaveSizes q
HasCause q lefts weights Leader = 3 < q.leader
HasCause q lefts weights Trump = 4 < q.trump
HasCause q lefts weights Need = 13 < q.need
HasCause q lefts weights NoLayouts = lefts ≡ []
HasCause q lefts weights TooManyLayouts = most_layouts < length lefts
HasCause q lefts weights (Layout place) = (bits : ℕ) × (slice_get lefts place ≡ Some bits) × Lacks (IsLeftWord bits) q
HasCause q lefts weights WeightCount = length weights ≢ length lefts
HasCause q lefts weights (Weight place) = (weight : ℕ) × (slice_get weights place ≡ Some weight) × (IsWeight weight → ⊥)
HasCause q lefts weights Moves = AreMoves q.moves → ⊥
HasCause q lefts weights Nodes = q.nodes ≡ 0
HasCause q lefts weights NoTurn = Lacks CanChoose q
HasCause q lefts weights Memory = ⊤

-- a fault of a question, whatever its layouts and their weights are
abbrev pub IsFaultOf : Question → faults.QuestionFault → Type 0
IsFaultOf q fault = (lefts weights : List ℕ) → HasCause q lefts weights fault

-- the number that C has for a fault
abbrev pub code_of : faults.QuestionFault → ℕ
code_of NoTurn = 6
code_of Memory = 9
code_of NotCards = 32
code_of Overlap = 33
code_of Trick = 34
code_of PlayedTwice = 35
code_of Sizes = 36
code_of Leader = 37
code_of Trump = 38
code_of Need = 39
code_of NoLayouts = 40
code_of TooManyLayouts = 41
code_of (Layout place) = 42
code_of WeightCount = 43
code_of (Weight place) = 44
code_of Moves = 45
code_of Nodes = 46
