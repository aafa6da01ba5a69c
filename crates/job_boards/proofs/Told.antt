-- The answers and texts of games, one after another.
use Rattle.std.proofs.Common.{◌≡◌, ◌⊎◌, inl, inr, ◌<◌, ◌+◌, ℕ, true, false, zero, suc, List, [], ◌∷◌, ◌++◌, Some, Result, Ok, Err, length, take, drop, get_or, slice_get, refl, sym, ap, subst, ◌∙◌, rules, arith, take-suc, drop-cons}
use Rattle.std.specs.Prelude.{IfOk, is_ok}
use Rattle.std.specs.List.{AllZip}
use Rattle.root_answers.specs.declared.written.WrittenAnswer.{WrittenAnswer}
use Rattle.am_report.specs.declared.boards.GameText.{GameText}
use Rattle.am_answer.specs.declared.root.Root.{Root}
use Rattle.am_answer.specs.declared.status.Status.{Status}
use Rattle.am_answer.specs.Reports.{IsGameText}
use Rattle.job_boards.specs.Outcomes.{AreAnswersOf, HasAnswer}
use Rattle.job_boards.proofs.Zips.{zip-push}

-- ---- the answer of a root

pub inside : {X : Type 0} (xs : List X) (place : ℕ) (x : X) → slice_get xs place ≡ Some x → place < length xs
inside [] place x there = absurd (search (rules, there))
inside (y ∷ xs) zero x there = omega arith
inside (y ∷ xs) (suc place) x there = omega (arith, inside xs place x there)

pub at-place : {X : Type 0} (xs : List X) (place : ℕ) (x d : X) → slice_get xs place ≡ Some x → get_or xs place d ≡ x
at-place [] place x d there = absurd (search (rules, there))
at-place (y ∷ xs) zero x d there = search (rules, there)
at-place (y ∷ xs) (suc place) x d there = at-place xs place x d there

-- ---- games one after another

-- the answer of the next game, where it has a root
pub next-answer : (moves : ℕ) (game : Result Root Status) (later : List (Result Root Status)) (answers : List WrittenAnswer) (place : ℕ) → AreAnswersOf moves (game ∷ later) (drop place answers) → IfOk game (HasAnswer moves answers place)
next-answer moves (Err status) later answers place all = tt
next-answer moves (Ok root) later [] zero all = absurd all
next-answer moves (Ok root) later [] (suc place) all = absurd all
next-answer moves (Ok root) later (a ∷ answers) zero all = record { answer = a; there = refl; own = all.0 }
next-answer moves (Ok root) later (a ∷ answers) (suc place) all =
    let found = next-answer moves (Ok root) later answers place all in
    record { answer = found.answer; there = found.there; own = found.own }

-- the answers that are left after it
pub left-refused : (moves : ℕ) (game : Result Root Status) (status : Status) (later : List (Result Root Status)) (answers : List WrittenAnswer) → game ≡ Err status → AreAnswersOf moves (game ∷ later) answers → AreAnswersOf moves later answers
left-refused moves (Err own) status later answers is all = all
left-refused moves (Ok root) status later answers is all = absurd cc

pub left-solved : (moves : ℕ) (game : Result Root Status) (root : Root) (later : List (Result Root Status)) (answers : List WrittenAnswer) (place : ℕ) → game ≡ Ok root → AreAnswersOf moves (game ∷ later) (drop place answers)
    → AreAnswersOf moves later (drop (suc place) answers)
left-solved moves (Err status) root later answers place is all = absurd cc
left-solved moves (Ok own) root later [] zero is all = absurd all
left-solved moves (Ok own) root later [] (suc place) is all = absurd all
left-solved moves (Ok own) root later (a ∷ answers) zero is all = all.1
left-solved moves (Ok own) root later (a ∷ answers) (suc place) is all = left-solved moves (Ok own) root later answers place is all

-- one text more
pub texts-next : (moves : ℕ) (games : List (Result Root Status)) (i : ℕ) (game : Result Root Status) (before now : List GameText) (text : GameText) → i < length games → game ≡ get_or games i game
    → AllZip (IsGameText moves) (take i games) before → IsGameText moves game text → now ≡ before ++ text ∷ [] → AllZip (IsGameText moves) (take (i + 1) games) now
texts-next moves games i game before now text within is all own more =
    let next : i + 1 ≡ suc i = omega arith in
    let longer : take (i + 1) games ≡ take i games ++ game ∷ [] =
    ap (λ n. take n games) next ∙ take-suc games i game within ∙ ap (λ (g : Result Root Status). take i games ++ g ∷ []) (sym is) in
    subst (λ gs. AllZip (IsGameText moves) gs now) (sym longer) (subst (AllZip (IsGameText moves) (take i games ++ game ∷ [])) (sym more)
    (zip-push (IsGameText moves) (take i games) before game text all own))

-- the games that are left begin with the next one
pub left-now : (moves : ℕ) (games : List (Result Root Status)) (i : ℕ) (game : Result Root Status) (answers : List WrittenAnswer) → i < length games → game ≡ get_or games i game → AreAnswersOf moves (drop i games) answers
    → AreAnswersOf moves (game ∷ drop (suc i) games) answers
left-now moves games i game answers within is all =
    subst (λ gs. AreAnswersOf moves gs answers) (drop-cons games i game within ∙ ap (λ (g : Result Root Status). g ∷ drop (suc i) games) (sym is)) all

after-ok : (moves : ℕ) (game : Result Root Status) (later : List (Result Root Status)) (answers : List WrittenAnswer) (place : ℕ) → is_ok game ≡ true → AreAnswersOf moves (game ∷ later) (drop place answers)
    → AreAnswersOf moves later (drop (suc place) answers)
after-ok moves (Err status) later answers place is all = absurd cc
after-ok moves (Ok own) later answers place is all = left-solved moves (Ok own) own later answers place refl all

after-err : (moves : ℕ) (game : Result Root Status) (later : List (Result Root Status)) (answers : List WrittenAnswer) → is_ok game ≡ false → AreAnswersOf moves (game ∷ later) answers → AreAnswersOf moves later answers
after-err moves (Err status) later answers is all = all
after-err moves (Ok own) later answers is all = absurd cc

-- what is left for later games, where the next one has a root and where it has none
pub left-next : (moves : ℕ) (games : List (Result Root Status)) (i : ℕ) (game : Result Root Status) (answers : List WrittenAnswer) (place now : ℕ) → i < length games → game ≡ get_or games i game → AreAnswersOf moves (drop i games) (drop place answers)
    → ((is_ok game ≡ true) × (now ≡ place + 1)) ⊎ ((is_ok game ≡ false) × (now ≡ place)) → AreAnswersOf moves (drop (i + 1) games) (drop now answers)
left-next moves games i game answers place now within is all (inl solved) =
    let next : i + 1 ≡ suc i = omega arith in
    let more : now ≡ suc place = omega (arith, solved.1) in
    subst (λ n. AreAnswersOf moves (drop n games) (drop now answers)) (sym next)
    (subst (λ n. AreAnswersOf moves (drop (suc i) games) (drop n answers)) (sym more) (after-ok moves game (drop (suc i) games) answers place solved.0 (left-now moves games i game (drop place answers) within is all)))
left-next moves games i game answers place now within is all (inr refused) =
    let next : i + 1 ≡ suc i = omega arith in
    subst (λ n. AreAnswersOf moves (drop n games) (drop now answers)) (sym next)
    (subst (λ n. AreAnswersOf moves (drop (suc i) games) (drop n answers)) (sym refused.1) (after-err moves game (drop (suc i) games) (drop place answers) refused.0 (left-now moves games i game (drop place answers) within is all)))
