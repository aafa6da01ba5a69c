-- Answers of problems, one by one.
use Rattle.std.proofs.Common.{◌≡◌, ◌∙◌, ◌+◌, ◌<◌, ◌++◌, ℕ, List, [], ◌∷◌, Some, Result, All, length, take, slice_get, get_or, inl, inr, refl, sym, ap, subst, arith, length-append}
use Rattle.std.proofs.lemmas.Option.{slice_get_within, slice_get_read, get_or_from_slice_get}
use Rattle.std.proofs.lemmas.List.{take_more, length-take-le}
use Rattle.std.proofs.lemmas.List.Elements.{All-nil, All-push, All-get_or}
use Rattle.root_answers.specs.declared.written.WrittenAnswer.{WrittenAnswer}
use Rattle.root_answers.specs.Written.{IsWrittenAnswer}
use Rattle.strategy_tree.specs.RootTrees.{IsFirstSpentAt, AllFit}
use Rattle.root_workers.proofs.Founds.{get_push}
use Rattle.std.specs.Borrow.{Bor, MutBor}
use Rattle.strategy_tree.specs.declared.root_fault.RootFault.{RootFault}
use Rattle.root_workers.specs.Rounds.{HasSeenMore}
use Rattle.shared_table.specs.declared.Pass.{Pass}
use Rattle.shared_table.specs.Passes.{IsPassOf}
use Rattle.board_batch.specs.declared.batch.Batch.{Batch}
use Rattle.board_batch.specs.declared.batch.Problem.{Problem}
use Rattle.board_batch.specs.Batches.{IsBatch, IsOutcomeAt, Solves}
use Rattle.board_batch.specs.Problems.{IsProblem, AreAnswers, AllProblemsFit, IsFirstSpentIn}

-- the element at a place is one of which all is said
pub all_here : {X : Type 0} (P : X → Type 0) (xs : List X) (place : ℕ) (x : X) → All P xs → slice_get xs place ≡ Some x → P x
all_here P xs place x all here = subst P (get_or_from_slice_get xs place x x here) (All-get_or P xs place x (slice_get_within xs place x here) all)

-- what a worker gives that solves the problem at a place
pub solved_at : {can : ℕ → Bor Problem → MutBor Pass → Type 0} {gives : ℕ → Bor Problem → MutBor Pass → Result WrittenAnswer RootFault → MutBor Pass → Type 0}
    (b : Batch) (worker place : ℕ) (problem : Bor Problem) (pass late : MutBor Pass) (outcome : Result WrittenAnswer RootFault)
    → IsBatch b × Solves b can gives → IsPassOf b.table.now pass.now → place < length b.problems.now → problem.now ≡ get_or b.problems.now place problem.now
    → gives worker problem pass outcome late → IsOutcomeAt b place outcome × IsPassOf b.table.now late.now × HasSeenMore pass.now late.now
solved_at b worker place problem pass late outcome sound of within is given =
    let here = slice_get_read b.problems.now (length b.problems.now) place problem.now refl within is in
    let solved = (sound.1 worker problem pass (all_here IsProblem b.problems.now place problem.now sound.0.problems here) of).1 outcome late given in
    (record { problem = problem.now; here = here; outcome_is = solved.0 }, solved.1, solved.2)

-- an element more
next_taken : {X : Type 0} (xs : List X) (i : ℕ) (x : X) → i < length xs → x ≡ get_or xs i x → take (i + 1) xs ≡ take i xs ++ x ∷ []
next_taken xs i x inside is = take_more xs i x inside ∙ ap (λ y. take i xs ++ y ∷ []) (sym is)

module _ (problems : List Problem) (moves : ℕ) where
  pub none_answered : (answers : List WrittenAnswer) → answers ≡ [] → AreAnswers (take 0 problems) moves answers
  none_answered answers none =
      subst (λ (all : List WrittenAnswer). AreAnswers (take 0 problems) moves all) (sym none)
      (record { all = refl; each = λ place p answer here at. absurd (omega (arith, slice_get_within (take 0 problems) place p here)) })

  pub one_more_answered : (i : ℕ) (p : Problem) (answers now : List WrittenAnswer) (answer : WrittenAnswer) → AreAnswers (take i problems) moves answers → i < length problems → p ≡ get_or problems i p
      → IsWrittenAnswer p.node.now p.weights.now moves answer → now ≡ answers ++ answer ∷ [] → AreAnswers (take (i + 1) problems) moves now
  one_more_answered i p answers now answer so inside here is pushed =
      let next = next_taken problems i p inside here in
      subst (λ (all : List WrittenAnswer). AreAnswers (take (i + 1) problems) moves all) (sym pushed)
      (record {
        all = length-append answers (answer ∷ []) ∙ ap (λ k. k + 1) so.all ∙ sym (length-append (take i problems) (p ∷ [])) ∙ sym (ap (λ (ps : List Problem). length ps) next);
        each = λ place q other at found. elim (get_push (take i problems) p place q (subst (λ (ps : List Problem). slice_get ps place ≡ Some q) next at)) [
          | inl old ↦ elim (get_push answers answer place other found) [
            | inl there ↦ so.each place q other old there
            | inr end ↦ absurd (omega (arith, slice_get_within (take i problems) place q old, end.0, so.all))
          ]
          | inr last ↦ elim (get_push answers answer place other found) [
            | inl there ↦ absurd (omega (arith, slice_get_within answers place other there, last.0, so.all))
            | inr end ↦ subst (λ (r : Problem). IsWrittenAnswer r.node.now r.weights.now moves other) last.1
                (subst (λ (a : WrittenAnswer). IsWrittenAnswer p.node.now p.weights.now moves a) end.1 is)
          ]
        ];
      })

  -- the problem that is answered next
  pub counted : (i place : ℕ) (answers : List WrittenAnswer) → AreAnswers (take i problems) moves answers → i < length problems → place ≡ length answers → place ≡ i
  counted i place answers so inside at = at ∙ so.all ∙ length-take-le i problems (omega (arith, inside))

  pub here_next : (i place : ℕ) (p : Problem) (answers : List WrittenAnswer) → AreAnswers (take i problems) moves answers → i < length problems → p ≡ get_or problems i p → place ≡ length answers
      → slice_get problems place ≡ Some p
  here_next i place p answers so inside here at =
      subst (λ k. slice_get problems k ≡ Some p) (sym (counted i place answers so inside at)) (slice_get_read problems (length problems) i p refl inside here)

  module _ (nodes : ℕ) where
    pub none_fit : AllProblemsFit (take 0 problems) moves nodes
    none_fit = All-nil (λ (p : Problem). AllFit p.node.now moves nodes)

    pub one_more_fits : (i : ℕ) (p : Problem) → AllProblemsFit (take i problems) moves nodes → i < length problems → p ≡ get_or problems i p → AllFit p.node.now moves nodes
        → AllProblemsFit (take (i + 1) problems) moves nodes
    one_more_fits i p so inside here fits =
        subst (λ (ps : List Problem). All (λ (q : Problem). AllFit q.node.now moves nodes) ps) (sym (next_taken problems i p inside here))
        (All-push (λ (q : Problem). AllFit q.node.now moves nodes) (take i problems) p so fits)

    pub first_spent : (i place number card : ℕ) (p : Problem) (answers : List WrittenAnswer) → AreAnswers (take i problems) moves answers → i < length problems → p ≡ get_or problems i p → place ≡ length answers
        → AllProblemsFit (take i problems) moves nodes → number ≡ p.number → IsFirstSpentAt p.node.now moves nodes card → IsFirstSpentIn problems moves nodes number card
    first_spent i place number card p answers so inside here at fits numbered spent = record {
      place = place;
      problem = p;
      here = here_next i place p answers so inside here at;
      numbered = numbered;
      spent = (spent, subst (λ k. AllProblemsFit (take k problems) moves nodes) (sym (counted i place answers so inside at)) fits);
    }
