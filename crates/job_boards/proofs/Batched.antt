-- What a batch says of its problems, as it is of the games.
use Rattle.std.proofs.Common.{◌≡◌, ◌+◌, ℕ, suc, List, [], ◌∷◌, Option, Some, Result, Ok, Err, length, take, slice_get, refl, ap, subst, ◌∙◌, arith}
use Rattle.std.specs.Prelude.{IfOk}
use Rattle.std.specs.List.{AllZip}
use Rattle.std.proofs.lemmas.List.Elements.{All-head, All-tail, All-cons, All-nil}
use Rattle.strategy_tree.specs.RootTrees.{AllFit, IsSpentAt, IsFirstSpentAt}
use Rattle.root_workers.specs.declared.root.Options.{Options}
use Rattle.job_words.specs.declared.asks.Search.{Search}
use Rattle.root_answers.specs.declared.written.WrittenAnswer.{WrittenAnswer}
use Rattle.board_batch.specs.declared.batch.Problem.{Problem}
use Rattle.board_batch.specs.Problems.{AreAnswers, AllProblemsFit, IsSpentIn, IsFirstSpentIn}
use Rattle.am_answer.specs.declared.root.Root.{Root}
use Rattle.am_answer.specs.declared.status.Status.{Status}
use Rattle.root_answers.specs.Written.{IsWrittenAnswer}
use Rattle.am_answer.specs.Endings.{AllGamesFit, IsGameSpentBy, IsPlain}
use Rattle.board_batch.specs.declared.fault.BatchFault as faults
use Rattle.board_batch.specs.Refusals.{batch_status}
use Rattle.root_workers.specs.Plain as options
use Rattle.am_answer.specs.Tasks.{Boards}
use Rattle.am_answer.specs.Stages.{IsTaskRefusal}
use Rattle.job_boards.specs.Accepted.{accepted, numbered_from, AreProblems, IsProblemOf}
use Rattle.job_boards.specs.Outcomes.{AreAnswersOf, IsAnswerAt}
use Rattle.job_boards.proofs.Roots.{game-of}

-- ---- answers

abbrev EachIs : List Problem → ℕ → List WrittenAnswer → Type 0
EachIs problems moves answers = (place : ℕ) (p : Problem) (answer : WrittenAnswer) → slice_get problems place ≡ Some p
    → slice_get answers place ≡ Some answer → IsWrittenAnswer p.node.now p.weights.now moves answer

answer-at : (number : ℕ) (root : Root) (p : Problem) (moves : ℕ) (answer : WrittenAnswer) → IsProblemOf (number, root) p → IsWrittenAnswer p.node.now p.weights.now moves answer → IsAnswerAt moves root answer
answer-at number root p moves answer of is =
    subst (λ weights. IsWrittenAnswer root.kept.node weights moves answer) of.weights (subst (λ node. IsWrittenAnswer node p.weights.now moves answer) of.node is)

each-answer : (number : ℕ) (games : List (Result Root Status)) (problems : List Problem) (moves : ℕ) (answers : List WrittenAnswer) → AllZip IsProblemOf (numbered_from number games) problems → length answers ≡ length problems
    → EachIs problems moves answers → AllZip (IsAnswerAt moves) (accepted games) answers
each-answer number [] [] moves [] of long each = tt
each-answer number [] [] moves (a ∷ answers) of long each = absurd (omega (arith, long))
each-answer number [] (p ∷ problems) moves answers of long each = absurd of
each-answer number (Err status ∷ games) problems moves answers of long each = each-answer (number + 1) games problems moves answers of long each
each-answer number (Ok root ∷ games) [] moves answers of long each = absurd of
each-answer number (Ok root ∷ games) (p ∷ problems) moves [] of long each = absurd (omega (arith, long))
each-answer number (Ok root ∷ games) (p ∷ problems) moves (a ∷ answers) of long each = (
  answer-at number root p moves a of.0 (each 0 p a refl refl),
  each-answer (number + 1) games problems moves answers of.1 (omega (arith, long)) (λ place q answer here there. each (suc place) q answer here there),
)

pub answers-of-games : (games : List (Result Root Status)) (problems : List Problem) (moves : ℕ) (answers : List WrittenAnswer) → AreProblems games problems → AreAnswers problems moves answers → AreAnswersOf moves games answers
answers-of-games games problems moves answers of are = each-answer 1 games problems moves answers of are.all are.each

-- ---- trees that fit

abbrev FitsAt : ℕ → ℕ → Problem → Type 0
FitsAt moves nodes p = AllFit p.node.now moves nodes

abbrev GameFits : ℕ → ℕ → Result Root Status → Type 0
GameFits moves nodes found = IfOk found (λ root. AllFit root.kept.node moves nodes)

all-fit : (number : ℕ) (games : List (Result Root Status)) (problems : List Problem) (moves nodes : ℕ) → AllZip IsProblemOf (numbered_from number games) problems → AllProblemsFit problems moves nodes → AllGamesFit games moves nodes
all-fit number [] problems moves nodes of fit = All-nil (GameFits moves nodes)
all-fit number (Err status ∷ games) problems moves nodes of fit = All-cons (GameFits moves nodes) (Err status) games tt (all-fit (number + 1) games problems moves nodes of fit)
all-fit number (Ok root ∷ games) [] moves nodes of fit = absurd of
all-fit number (Ok root ∷ games) (p ∷ problems) moves nodes of fit =
    All-cons (GameFits moves nodes) (Ok root) games
    (subst (λ node. AllFit node moves nodes) of.0.node (All-head (FitsAt moves nodes) p problems fit))
    (all-fit (number + 1) games problems moves nodes of.1 (All-tail (FitsAt moves nodes) p problems fit))

pub games-fit : (games : List (Result Root Status)) (problems : List Problem) (moves nodes : ℕ) → AreProblems games problems → AllProblemsFit problems moves nodes → AllGamesFit games moves nodes
games-fit games problems moves nodes of fit = all-fit 1 games problems moves nodes of fit

-- ---- a tree that doesn't fit

-- the number of a problem is that of its game
module _ (games : List (Result Root Status)) (problems : List Problem) (moves : ℕ) (search' : Search) (nodes : ℕ) (same : nodes ≡ search'.nodes) (of : AreProblems games problems) (number card : ℕ) where
  root-same : (first other : Root) (found : Option (Result Root Status)) → found ≡ Some (Ok first) → found ≡ Some (Ok other) → first ≡ other
  root-same first other found is also = cc

  -- the first one
  first-game : (game : ℕ) (root : Root) → number ≡ game + 1 → slice_get games game ≡ Some (Ok root) → IsFirstSpentIn problems moves nodes number card
      → IsFirstSpentAt root.kept.node moves search'.nodes card × AllGamesFit (take game games) moves search'.nodes
  first-game game root counted there is =
      let its = game-of 1 games problems is.place is.problem of is.here in
      let games-same : its.game ≡ game = omega (arith, its.numbered, is.numbered, counted) in
      let its-there : slice_get games game ≡ Some (Ok its.root) = subst (λ k. slice_get games k ≡ Some (Ok its.root)) games-same its.there in
      let node : is.problem.node.now ≡ root.kept.node = its.node ∙ ap (λ (r : Root). r.kept.node) (root-same its.root root (slice_get games game) its-there there) in
      let fit : AllGamesFit (take its.game games) moves nodes = all-fit 1 (take its.game games) (take is.place problems) moves nodes its.earlier is.spent.1 in (
        subst (λ k. IsFirstSpentAt root.kept.node moves k card) same (subst (λ n. IsFirstSpentAt n moves nodes card) node is.spent.0),
        subst (λ k. AllGamesFit (take game games) moves k) same (subst (λ k. AllGamesFit (take k games) moves nodes) games-same fit),
      )

  pub game-spent : IsSpentIn problems moves nodes number card → (IsPlain search' → IsFirstSpentIn problems moves nodes number card) → IsGameSpentBy games moves search' number card
  game-spent is first =
      let its = game-of 1 games problems is.place is.problem of is.here in
      let counted : number ≡ its.game + 1 = omega (arith, is.numbered, its.numbered) in
      record {
        place = its.game;
        root = its.root;
        number = counted;
        there = its.there;
        spent = subst (λ k. IsSpentAt its.root.kept.node moves k card) same (subst (λ n. IsSpentAt n moves nodes card) its.node is.spent);
        first = λ plain. first-game its.game its.root counted its.there (first plain);
      }

-- ---- how a batch is asked, and how it ends without answers

abbrev asked : Search → Options
asked s = record { nodes = s.nodes; workers = s.workers; table = s.table; cuts = s.cuts }

pub plain-as : (o : Options) (s : Search) → o ≡ asked s → IsPlain s → options.IsPlain o
plain-as o s same plain = record { table = ap (λ (x : Options). x.table) same ∙ plain.0; cuts = ap (λ (x : Options). x.cuts) same ∙ plain.1 }

pub nodes-as : (o : Options) (s : Search) → o ≡ asked s → o.nodes ≡ s.nodes
nodes-as o s same = ap (λ (x : Options). x.nodes) same

pub batch-refused : (games : List (Result Root Status)) (problems : List Problem) (moves : ℕ) (search' : Search) (nodes : ℕ) (same : nodes ≡ search'.nodes) (of : AreProblems games problems) (fault : faults.BatchFault)
    → ((number card : ℕ) → fault ≡ faults.TheVariants.Spent number card → IsSpentIn problems moves nodes number card)
    → ((number card : ℕ) → fault ≡ faults.TheVariants.Spent number card → IsPlain search' → IsFirstSpentIn problems moves nodes number card)
    → IsTaskRefusal (Ok (Boards games moves search')) (batch_status fault)
batch-refused games problems moves search' nodes same of (faults.TheVariants.Spent number card) spent first =
    (Boards games moves search', refl, game-spent games problems moves search' nodes same of number card (spent number card refl) (first number card refl))
batch-refused games problems moves search' nodes same of faults.TheVariants.Memory spent first = tt
