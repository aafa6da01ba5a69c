-- What a report says, and that it is the only one.
use Rattle.std.proofs.Common.{◌≡◌, ◌≤◌, ℕ, zero, suc, List, [], ◌∷◌, Result, Ok, Err, length, map, All, refl, sym, ap, ap₂, subst, ◌∙◌}
use Rattle.std.specs.List.{AllZip}
use Rattle.std.proofs.lemmas.List.Elements.{All-contains, All-tail}
use Rattle.std.proofs.lemmas.List.Sorted.{Contains-permutation}
use Rattle.win_vectors.specs.Weights.{weight_of}
use Rattle.win_vectors.specs.Fronts.{Vector, Covers}
use Rattle.trick_rules.specs.Nodes.{NodeValue, IsNode}
use Rattle.strategy_games.specs.Plans.{Plan, Fits, wins_vector}
use Rattle.strategy_games.specs.Choosing.{IsChosenPlan, IsNamedCard, IsNamedByWeight, IsBestWeight}
use Rattle.strategy_games.specs.Laws.{HasBestWeight}
use Rattle.strategy_games.proofs.Lists.{Contains-here}
use Rattle.strategy_games.proofs.WeightedChoice as theory_of_weights
use Rattle.strategy_tree.specs.Bridge.{bridge}
use Rattle.strategy_tree.proofs.BridgeLaws as laws
use Rattle.strategy_tree.proofs.Rules.{lawful, settled}
use Rattle.log_maker.proofs.OneLog.{one_log}
use Rattle.log_texts.specs.LogText.{log_text}
use Rattle.job_words.specs.declared.asks.Search.{Search}
use Rattle.am_report.specs.declared.made.MadeSummary.{MadeSummary}
use Rattle.am_report.specs.Answers.{SolveAnswerValue, EntryValue}
use Rattle.am_report.specs.Solve.{solve_text}
use Rattle.am_report.specs.Card.{card_text}
use Rattle.am_report.specs.Made.{made_text}
use Rattle.am_report.specs.declared.boards.GameText.{GameText}
use Rattle.am_report.specs.declared.boards.GameText.TheVariants.{Solved, Refused}
use Rattle.am_report.specs.Boards.{boards_text}
use Rattle.am_answer.specs.declared.root.Root.{Root}
use Rattle.am_answer.specs.declared.status.Status.{Status}
use Rattle.am_answer.specs.Tasks.{Solve, Card, Prove, Made, Boards}
use Rattle.am_answer.specs.Reports.{IsSolveAnswer, IsSolveText, IsGameText, IsText, made_moves}
use Rattle.am_top.proofs.OneOrder.{one_reported_front}

-- ---- what is printed

-- a vector that one of the front dominates is dominated by one that is printed
covered : (n : NodeValue) (weights : List ℕ) (moves : ℕ) (found : SolveAnswerValue) (is : IsSolveAnswer n weights moves found) (vector : Vector)
    → Covers is.vectors.front vector → Covers (map (λ e. e.vector) found.entries) vector
covered n weights moves found is vector (above, member, dominates) =
    (above, Contains-permutation is.vectors.front (map (λ e. e.vector) found.entries) above is.vectors.same member, dominates)

pub vectors-cover : (n : NodeValue) (weights : List ℕ) (moves : ℕ) (found : SolveAnswerValue) (plan : Plan ℕ) → IsSolveAnswer n weights moves found → Fits bridge plan n moves
    → Covers (map (λ e. e.vector) found.entries) (wins_vector bridge plan n)
vectors-cover n weights moves found plan is fits = covered n weights moves found is (wins_vector bridge plan n) (is.vectors.is_front.covered (wins_vector bridge plan n) (plan, fits, refl))

best_weight : HasBestWeight bridge IsNode
best_weight = theory_of_weights.best_weight bridge IsNode lawful settled

pub weight-most : (n : NodeValue) (weights : List ℕ) (moves : ℕ) (found : SolveAnswerValue) (plan : Plan ℕ) → IsSolveAnswer n weights moves found → Fits bridge plan n moves
    → weight_of weights (wins_vector bridge plan n) ≤ found.weight
weight-most n weights moves found plan is fits = (best_weight.best weights).most n moves found.weight plan is.weight fits

-- ---- that it is the only one

abbrev entry_of : Vector → Plan ℕ → EntryValue
entry_of vector plan = record { vector = vector; plan = plan }

same_heads : {X : Type 0} (x y : X) (xs ys : List X) → x ∷ xs ≡ y ∷ ys → (x ≡ y) × (xs ≡ ys)
same_heads x y xs ys same = (cc, cc)

entries-same : (n : NodeValue) (moves : ℕ) (entries others : List EntryValue) → map (λ e. e.vector) entries ≡ map (λ e. e.vector) others
    → All (λ e. IsChosenPlan bridge e.plan n moves e.vector) entries → All (λ e. IsChosenPlan bridge e.plan n moves e.vector) others → entries ≡ others
entries-same n moves [] [] same plans more = refl
entries-same n moves [] (f ∷ others) same plans more = cc
entries-same n moves (e ∷ entries) [] same plans more = cc
entries-same n moves (e ∷ entries) (f ∷ others) same plans more =
    let (vector, rest) = same_heads e.vector f.vector (map (λ e. e.vector) entries) (map (λ e. e.vector) others) same in
    let first = All-contains (λ e. IsChosenPlan bridge e.plan n moves e.vector) (e ∷ entries) e plans (Contains-here e entries) in
    let second = All-contains (λ e. IsChosenPlan bridge e.plan n moves e.vector) (f ∷ others) f more (Contains-here f others) in
    let plan = laws.chosen_plan.unique e.plan f.plan n moves f.vector (subst (λ v. IsChosenPlan bridge e.plan n moves v) vector first) second in
    ap₂ (λ (x : EntryValue) xs. x ∷ xs) (ap₂ entry_of vector plan)
    (entries-same n moves entries others rest (All-tail (λ e. IsChosenPlan bridge e.plan n moves e.vector) e entries plans) (All-tail (λ e. IsChosenPlan bridge e.plan n moves e.vector) f others more))

named-same : (n : NodeValue) (moves card other : ℕ) → IsNamedCard bridge n moves card → IsNamedCard bridge n moves other → card ≡ other
named-same n zero card other is also = absurd is
named-same n (suc moves) card other is also = laws.named_card.unique n moves card other is also

named_by_weight-same : (weights : List ℕ) (n : NodeValue) (moves card other : ℕ) → IsNamedByWeight bridge weights n moves card → IsNamedByWeight bridge weights n moves other → card ≡ other
named_by_weight-same weights n zero card other is also = absurd is
named_by_weight-same weights n (suc moves) card other is also = (best_weight.named weights).unique n moves card other is also

weight-same : (weights : List ℕ) (n : NodeValue) (moves weight other : ℕ) → IsBestWeight bridge weights n moves weight → IsBestWeight bridge weights n moves other → weight ≡ other
weight-same weights = (best_weight.best weights).unique

abbrev answer_of : List EntryValue → ℕ → ℕ → SolveAnswerValue
answer_of entries card weight = record { entries = entries; card = card; weight = weight }

answer-same : (n : NodeValue) (weights : List ℕ) (moves : ℕ) (found other : SolveAnswerValue) → IsSolveAnswer n weights moves found → IsSolveAnswer n weights moves other → found ≡ other
answer-same n weights moves found other is also =
    let vectors = one_reported_front n weights moves (map (λ e. e.vector) found.entries) (map (λ e. e.vector) other.entries) is.vectors also.vectors in
    let entries = entries-same n moves found.entries other.entries vectors is.plans also.plans in
    let card = named_by_weight-same weights n moves found.card other.card is.card also.card in
    let weight = weight-same weights n moves found.weight other.weight is.weight also.weight in
    ap (λ e. answer_of e found.card found.weight) entries ∙ ap₂ (λ c k. answer_of other.entries c k) card weight

one-solved : (root : Root) (moves : ℕ) (text more : List ℕ) → IsSolveText root moves text → IsSolveText root moves more → text ≡ more
one-solved root moves text more (found, is, written) (also, same, again) =
    written ∙ ap (solve_text root.board root.kept moves) (answer-same root.kept.node root.kept.weights moves found also is same) ∙ sym again

module _ (root : Root) (moves : ℕ) (search other : Search) (text more : List ℕ) where
  pub one-solve : IsText (Solve root moves search) text → IsText (Solve root moves other) more → text ≡ more
  one-solve is same = one-solved root moves text more is same

  pub one-card : IsText (Card root moves search) text → IsText (Card root moves other) more → text ≡ more
  one-card (card, weight, is, best, written) (named, most, also, same, again) =
      written
      ∙ ap₂ (λ c k. card_text c k root.kept.weights) (named_by_weight-same root.kept.weights root.kept.node moves card named is also) (weight-same root.kept.weights root.kept.node moves weight most best same)
      ∙ sym again

pub one-prove : (root : Root) (moves nodes others : ℕ) (text more : List ℕ) → IsText (Prove root moves nodes) text → IsText (Prove root moves others) more → text ≡ more
one-prove root moves nodes others text more (lines, is, written) (also, same, again) = written ∙ ap log_text (one_log root.kept.node moves lines also is same) ∙ sym again

abbrev summary_of : ℕ → Root → ℕ → ℕ → ℕ → MadeSummary
summary_of number root front best card = record { number = number; layouts = length root.kept.node.lefts; front = front; best = best; card = card }

pub one-made : (number : ℕ) (root : Root) (search other : Search) (text more : List ℕ) → IsText (Made number root search) text → IsText (Made number root other) more → text ≡ more
one-made number root search other text more (vectors, card, count, front, is, best, written) (others, named, most, same_front, also, same, again) =
    let fronts = laws.one_front.unique root.kept.node made_moves vectors others front same_front in
    let cards = named-same root.kept.node made_moves card named is also in
    let counts = laws.best_count.unique root.kept.node made_moves count most best same in
    written ∙ ap (λ f. made_text (summary_of number root (length f) count card)) fronts ∙ ap (λ k. made_text (summary_of number root (length others) k card)) counts
    ∙ ap (λ c. made_text (summary_of number root (length others) most c)) cards ∙ sym again

one-outcome : (moves : ℕ) (found : Result Root Status) (game other : GameText) → IsGameText moves found game → IsGameText moves found other → game ≡ other
one-outcome moves (Ok root) (Solved text) (Solved more) is also = ap (λ t. Solved t) (one-solved root moves text more is also)
one-outcome moves (Ok root) (Solved text) (Refused said) is also = absurd also
one-outcome moves (Ok root) (Refused said) other is also = absurd is
one-outcome moves (Err status) (Refused said) (Refused more) is also = ap (λ t. Refused t) (is ∙ sym also)
one-outcome moves (Err status) (Refused said) (Solved text) is also = absurd also
one-outcome moves (Err status) (Solved text) other is also = absurd is

one-by-game : (moves : ℕ) (roots : List (Result Root Status)) (games others : List GameText) → AllZip (IsGameText moves) roots games → AllZip (IsGameText moves) roots others → games ≡ others
one-by-game moves [] [] [] is also = refl
one-by-game moves [] [] (other ∷ others) is also = absurd also
one-by-game moves [] (game ∷ games) others is also = absurd is
one-by-game moves (found ∷ roots) [] others is also = absurd is
one-by-game moves (found ∷ roots) (game ∷ games) [] is also = absurd also
one-by-game moves (found ∷ roots) (game ∷ games) (other ∷ others) is also =
    ap₂ (λ (g : GameText) gs. g ∷ gs) (one-outcome moves found game other is.0 also.0) (one-by-game moves roots games others is.1 also.1)

pub one-boards : (roots : List (Result Root Status)) (moves : ℕ) (search other : Search) (text more : List ℕ) → IsText (Boards roots moves search) text → IsText (Boards roots moves other) more → text ≡ more
one-boards roots moves search other text more (games, is, written) (others, also, again) =
    written ∙ ap boards_text (one-by-game moves roots games others is also) ∙ sym again
