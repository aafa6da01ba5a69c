-- How the stages of a run come together to the answer.
use Rattle.std.proofs.Common.{◌≡◌, ◌⊎◌, inl, inr, subst, ℕ, List, Option, Some, None, Result, Ok, Err, refl, sym, ap₂, ◌∙◌, rules}
use Rattle.std.specs.Prelude.{IfSome, IfOk, IfErr}
use Rattle.am_outside.specs.Shelf.{Files}
use Rattle.job_words.specs.declared.asks.Ask.TheVariants.{Made}
use Rattle.am_answer.specs.declared.status.Status.{Status}
use Rattle.am_answer.specs.declared.status.Status.TheVariants.{Done, Refuted, BadWords, Unread, BadPbn, BadLayouts, NoTurn, Spent, Unwritten, Memory, TooLong, BadReport, BadMake, NoLayout, BadLog, Unproved, GameSpent, TooManyGames}
use Rattle.job_words.specs.declared.asks.Search.{Search}
use Rattle.layout_maker.specs.MadeProblem.{made_deal, made_layouts}
use Rattle.am_answer.specs.declared.root.Root.{Root}
use Rattle.am_answer.specs.Answers.{root_in, made_in, task_in, answer}
use Rattle.am_answer.specs.Tasks.{TaskValue}
use Rattle.am_answer.specs.Tasks as tasks
use Rattle.am_answer.specs.Files.{InputsValue, inputs_read}
use Rattle.am_answer.specs.Stages.{IsOfReading, IsReadRefusal, IsTaskRefusal, IsTextForAt, IsRefusal}
use Rattle.am_match.specs.Defences.{Sitter}

-- the root of the problem of a number
pub problem-root : (number : ℕ) (search' : Search) (root : Root) (deal layouts : List ℕ) → deal ≡ made_deal number → layouts ≡ made_layouts number → root_in deal layouts ≡ Ok root → made_in number search' ≡ Ok (tasks.Made number root search')
unfolding made_in
problem-root number search' root deal layouts made also is =
    let read : root_in (made_deal number) (made_layouts number) ≡ Ok root = ap₂ root_in (sym made) (sym also) ∙ is in
    rw read refl

-- ---- the answer

answer-in : (words : List (List ℕ)) (files : Files) (inputs : InputsValue) → inputs_read words files ≡ Ok inputs → answer words files ≡ task_in inputs
unfolding answer
answer-in words files inputs is = rw is refl

answer-refused : (words : List (List ℕ)) (files : Files) (status : Status) → inputs_read words files ≡ Err status → answer words files ≡ Err status
unfolding answer
answer-refused words files status is = rw is refl

refused_inputs : (words : List (List ℕ)) (files : Files) (status : Status) → IsReadRefusal (inputs_read words files) status → IsRefusal (answer words files) status
refused_inputs words files Done is = absurd is
refused_inputs words files (Refuted plan place) is = absurd is
refused_inputs words files BadWords is = answer-refused words files BadWords is
refused_inputs words files (Unread file) is = tt
refused_inputs words files (BadPbn line kind) is = answer-refused words files (BadPbn line kind) is
refused_inputs words files (BadLayouts fault) is = absurd is
refused_inputs words files NoTurn is = absurd is
refused_inputs words files (Spent card) is = absurd is
refused_inputs words files Unwritten is = absurd is
refused_inputs words files Memory is = tt
refused_inputs words files (TooLong file) is = answer-refused words files (TooLong file) is
refused_inputs words files (BadReport line kind) is = absurd is
refused_inputs words files (BadMake fault) is = absurd is
refused_inputs words files (NoLayout layout) is = absurd is
refused_inputs words files (BadLog line) is = absurd is
refused_inputs words files (Unproved number) is = absurd is
refused_inputs words files (GameSpent game card) is = absurd is
refused_inputs words files (TooManyGames games) is = answer-refused words files (TooManyGames games) is

-- a task that is refused
refused_task : (found : Result TaskValue Status) (status : Status) → IsTaskRefusal found status → IsRefusal found status
refused_task found Done is = absurd is
refused_task found (Refuted plan place) is = is
refused_task found BadWords is = absurd is
refused_task found (Unread file) is = tt
refused_task found (BadPbn line kind) is = is
refused_task found (BadLayouts fault) is = is
refused_task found NoTurn is = is
refused_task found (Spent card) is = is
refused_task found Unwritten is = absurd is
refused_task found Memory is = tt
refused_task found (TooLong file) is = absurd is
refused_task found (BadReport line kind) is = is
refused_task found (BadMake fault) is = is
refused_task found (NoLayout layout) is = is
refused_task found (BadLog line) is = is
refused_task found (Unproved number) is = is
refused_task found (GameSpent game card) is = is
refused_task found (TooManyGames games) is = is

-- where the shelf tells its files

pub told_refused_inputs : (told : Option Files) (words : List (List ℕ)) (status : Status) → IfSome told (λ files. IsReadRefusal (inputs_read words files) status) → IfSome told (λ files. IsRefusal (answer words files) status)
told_refused_inputs None words status is = tt
told_refused_inputs (Some files) words status is = refused_inputs words files status is

pub told_text : (told : Option Files) (words : List (List ℕ)) (inputs : InputsValue) (result : Result (List ℕ) Status) (table later : List Sitter) → IfSome told (λ files. inputs_read words files ≡ Ok inputs) → IfOk result (IsTextForAt (task_in inputs) table later) → IfSome told (λ files. IfOk result (IsTextForAt (answer words files) table later))
told_text None words inputs result table later same is = tt
told_text (Some files) words inputs result table later same is = rw (answer-in words files inputs same) is

refused_tasks : {A : Type 0} (result : Result A Status) (found : Result TaskValue Status) → IfErr result (IsTaskRefusal found) → IfErr result (IsRefusal found)
refused_tasks (Ok text) found is = tt
refused_tasks (Err status) found is = refused_task found status is

pub told_refused : (told : Option Files) (words : List (List ℕ)) (inputs : InputsValue) (result : Result (List ℕ) Status) → IfSome told (λ files. inputs_read words files ≡ Ok inputs) → IfErr result (IsTaskRefusal (task_in inputs)) → IfSome told (λ files. IfErr result (IsRefusal (answer words files)))
told_refused None words inputs result same is = tt
told_refused (Some files) words inputs result same is = rw (answer-in words files inputs same) (refused_tasks result (task_in inputs) is)

-- ---- statuses that no stage before the output gives

pub reading-not_done : (status : Status) → IsOfReading status → (status ≡ Done → ⊥) × (status ≡ Unwritten → ⊥)
reading-not_done status is = (λ same. subst IsOfReading same is, λ same. subst IsOfReading same is)

-- ---- the problem of a number

made-task : (number : ℕ) (search' : Search) → task_in (Made number search') ≡ made_in number search'
unfolding task_in
made-task number search' = refl

ok_inputs : {A E : Type 0} (result : Result A E) (inputs made : A) (memory : E) → result ≡ Ok inputs → (result ≡ Ok made) ⊎ (result ≡ Err memory) → inputs ≡ made
ok_inputs result inputs made memory ok (inl is) = search (rules, sym ok ∙ is)
ok_inputs result inputs made memory ok (inr is) = absurd (search (rules, sym ok ∙ is))

err_inputs : {A E : Type 0} (result : Result A E) (status memory : E) (made : A) → result ≡ Err status → (result ≡ Ok made) ⊎ (result ≡ Err memory) → status ≡ memory
err_inputs result status memory made err (inl is) = absurd (search (rules, sym err ∙ is))
err_inputs result status memory made err (inr is) = search (rules, sym err ∙ is)

module _ (read : Result InputsValue Status) (number : ℕ) (search' : Search) (only : (read ≡ Ok (Made number search')) ⊎ (read ≡ Err Memory)) where
  pub made_text : (inputs : InputsValue) (result : Result (List ℕ) Status) (table later : List Sitter) → read ≡ Ok inputs → IfOk result (IsTextForAt (task_in inputs) table later) → IfOk result (IsTextForAt (made_in number search') table later)
  made_text inputs result table later ok is =
      let same = ok_inputs read inputs (Made number search') Memory ok only in
      subst (λ found. IfOk result (IsTextForAt found table later)) (made-task number search') (subst (λ inputs. IfOk result (IsTextForAt (task_in inputs) table later)) same is)

  pub made_refused : (inputs : InputsValue) (result : Result (List ℕ) Status) → read ≡ Ok inputs → IfErr result (IsTaskRefusal (task_in inputs)) → IfErr result (IsTaskRefusal (made_in number search'))
  made_refused inputs result ok is =
      let same = ok_inputs read inputs (Made number search') Memory ok only in
      subst (λ found. IfErr result (IsTaskRefusal found)) (made-task number search') (subst (λ inputs. IfErr result (IsTaskRefusal (task_in inputs))) same is)

  pub made_unread : (status : Status) → read ≡ Err status → IsTaskRefusal (made_in number search') status
  made_unread status err = subst (λ s. IsTaskRefusal (made_in number search') s) (sym (err_inputs read status Memory (Made number search') err only)) tt
