-- A run that is accepted, and meets no fault, is done or out of memory.
use Rattle.std.proofs.Common.{◌≡◌, ◌⊎◌, inr, ⊎_elim, ℕ, List, Option, Some, None, Result, Ok, Err, refl, sym, subst, ◌∙◌, rules}
use Rattle.std.specs.Prelude.{IfSome}
use Rattle.am_outside.specs.Shelf.{Files}
use Rattle.job_words.specs.declared.asks.Search.{Search}
use Rattle.job_words.specs.Asks.{AskValue}
use Rattle.job_words.specs.Words.{words_read}
use Rattle.am_answer.specs.declared.status.FileWord.{FileWord}
use Rattle.am_answer.specs.declared.status.Status.{Status}
use Rattle.am_answer.specs.declared.status.Status.TheVariants.{Done, Refuted, BadWords, Unread, BadPbn, BadLayouts, NoTurn, Spent, Unwritten, Memory, TooLong, BadReport, BadMake, NoLayout, BadLog, Unproved, GameSpent, TooManyGames}
use Rattle.am_answer.specs.declared.root.Root.{Root}
use Rattle.am_answer.specs.Answers.{answer, made_in}
use Rattle.am_answer.specs.Tasks.{TaskValue}
use Rattle.am_answer.specs.Tasks as tasks
use Rattle.am_answer.specs.Files.{IsNameOf}
use Rattle.am_answer.specs.Refusals.{IsUnread}
use Rattle.am_answer.specs.Endings.{IsSpentOn, IsGameSpentOn, IsUnprovedOn, HasText, IsWithinIfPlain, IsMadeStatus, IsMadeRun, HasNoFault, IsDoneOrMemory}
use Rattle.am_answer.specs.Stages.{IsRefusal, IsTaskRefusal, IsTextForAt}
use Rattle.am_match.specs.Defences.{Sitter}
use Rattle.am_answer.proofs.Endings.{not_spent, not_game_spent, not_unproved}
use Rattle.am_top.proofs.MadeAccepted.{made-problem}

ok-err : {A : Type 0} (result : Result A Status) (value : A) (status : Status) → result ≡ Ok value → result ≡ Err status → ⊥
ok-err result value status ok err = search (rules, sym ok ∙ err)

ok-same : {A : Type 0} (result : Result A Status) (value other : A) → result ≡ Ok value → result ≡ Ok other → value ≡ other
ok-same result value other ok also = search (rules, sym ok ∙ also)

some-same : {A : Type 0} (found : Option A) (value other : A) → found ≡ Some value → found ≡ Some other → value ≡ other
some-same found value other is also = search (rules, sym is ∙ also)

-- ---- a run that wrote nothing

not_unread : (told : Option Files) (words : List (List ℕ)) (ask : AskValue) (before now : List ℕ → ℕ) (file : FileWord) → words_read words ≡ Some ask → HasNoFault told ask before now → IsUnread told words before now file → ⊥
not_unread told words ask before now file asked none (other, name, is, named, rose) =
    none file name (subst (λ a. IsNameOf told a file name) (some-same (words_read words) other ask is asked) named) rose

module _ (words : List (List ℕ)) (files : Files) (before now : List ℕ → ℕ) (ask : AskValue) (task : TaskValue) (asked : words_read words ≡ Some ask) (accepted : answer words files ≡ Ok task) (fits : HasText task)
    (none : HasNoFault (Some files) ask before now) where
  complete : (status : Status) → IsRefusal (answer words files) status → ((file : FileWord) → status ≡ Unread file → IsUnread (Some files) words before now file) → IsDoneOrMemory status
  complete Done is unread = absurd is
  complete (Refuted plan place) is unread = absurd (ok-err (answer words files) task (Refuted plan place) accepted is)
  complete BadWords is unread = absurd (ok-err (answer words files) task BadWords accepted is)
  complete (Unread file) is unread = absurd (not_unread (Some files) words ask before now file asked none (unread file refl))
  complete (BadPbn line kind) is unread = absurd (ok-err (answer words files) task (BadPbn line kind) accepted is)
  complete (BadLayouts fault) is unread = absurd (ok-err (answer words files) task (BadLayouts fault) accepted is)
  complete NoTurn is unread = absurd (ok-err (answer words files) task NoTurn accepted is)
  complete (Spent card) (other, also, spent) unread =
      absurd (not_spent task card fits (subst (λ t. IsSpentOn t card) (ok-same (answer words files) other task also accepted) spent))
  complete Unwritten is unread = absurd is
  complete Memory is unread = inr refl
  complete (TooLong file) is unread = absurd (ok-err (answer words files) task (TooLong file) accepted is)
  complete (BadReport line kind) is unread = absurd (ok-err (answer words files) task (BadReport line kind) accepted is)
  complete (BadMake fault) is unread = absurd (ok-err (answer words files) task (BadMake fault) accepted is)
  complete (NoLayout layout) is unread = absurd (ok-err (answer words files) task (NoLayout layout) accepted is)
  complete (BadLog line) is unread = absurd (ok-err (answer words files) task (BadLog line) accepted is)
  complete (Unproved number) (other, also, unproved) unread =
      absurd (not_unproved task number fits (subst (λ t. IsUnprovedOn t number) (ok-same (answer words files) other task also accepted) unproved))
  complete (GameSpent game card) (other, also, spent) unread =
      absurd (not_game_spent task game card fits (subst (λ t. IsGameSpentOn t game card) (ok-same (answer words files) other task also accepted) spent))
  complete (TooManyGames games) is unread = absurd (ok-err (answer words files) task (TooManyGames games) accepted is)

pub told_complete : (told : Option Files) (words : List (List ℕ)) (status : Status) (before now : List ℕ → ℕ) (written : Type 0) → IfSome told (λ files. IsRefusal (answer words files) status) → ((file : FileWord) → status ≡ Unread file → IsUnread told words before now file)
    → IfSome told (λ files. (ask : AskValue) (task : TaskValue) → words_read words ≡ Some ask → answer words files ≡ Ok task → HasText task → HasNoFault (Some files) ask before now → (written → ⊥) → IsDoneOrMemory status)
told_complete None words status before now written is unread = tt
told_complete (Some files) words status before now written is unread = λ ask task asked accepted fits none _. complete words files before now ask task asked accepted fits none status is unread

-- ---- the problem of a number

-- a run on the problem of a number that wrote nothing
module _ (number : ℕ) (search' : Search) where
  made_refused : (root : Root) (status : Status) → made_in number search' ≡ Ok (tasks.Made number root search') → IsTaskRefusal (made_in number search') status → IsMadeStatus (tasks.Made number root search') status
  made_refused root Done is refused = absurd refused
  made_refused root (Refuted plan place) is refused = absurd (ok-err (made_in number search') (tasks.Made number root search') (Refuted plan place) is refused)
  made_refused root BadWords is refused = absurd refused
  made_refused root (Unread file) is refused = absurd refused
  made_refused root (BadPbn line kind) is refused = absurd (ok-err (made_in number search') (tasks.Made number root search') (BadPbn line kind) is refused)
  made_refused root (BadLayouts fault) is refused = absurd (ok-err (made_in number search') (tasks.Made number root search') (BadLayouts fault) is refused)
  made_refused root NoTurn is refused = absurd (ok-err (made_in number search') (tasks.Made number root search') NoTurn is refused)
  made_refused root (Spent card) is (other, also, spent) =
      subst (λ t. IsSpentOn t card) (ok-same (made_in number search') other (tasks.Made number root search') also is) spent
  made_refused root Unwritten is refused = absurd refused
  made_refused root Memory is refused = tt
  made_refused root (TooLong file) is refused = absurd refused
  made_refused root (BadReport line kind) is refused = absurd (ok-err (made_in number search') (tasks.Made number root search') (BadReport line kind) is refused)
  made_refused root (BadMake fault) is refused = absurd (ok-err (made_in number search') (tasks.Made number root search') (BadMake fault) is refused)
  made_refused root (NoLayout layout) is refused = absurd (ok-err (made_in number search') (tasks.Made number root search') (NoLayout layout) is refused)
  made_refused root (BadLog line) is refused = absurd (ok-err (made_in number search') (tasks.Made number root search') (BadLog line) is refused)
  made_refused root (Unproved line) is (other, also, unproved) =
      subst (λ t. IsUnprovedOn t line) (ok-same (made_in number search') other (tasks.Made number root search') also is) unproved
  made_refused root (GameSpent game card) is (other, also, spent) =
      subst (λ t. IsGameSpentOn t game card) (ok-same (made_in number search') other (tasks.Made number root search') also is) spent
  made_refused root (TooManyGames games) is refused = absurd (ok-err (made_in number search') (tasks.Made number root search') (TooManyGames games) is refused)

  pub made_run_refused : (status : Status) → IsTaskRefusal (made_in number search') status → IsMadeRun number search' status
  made_run_refused status refused = let made = made-problem number search' in (made.0, made.1, made_refused made.0 status made.1 refused)

  -- a run that has the text of the job
  made_within : (root : Root) (text : List ℕ) (table later : List Sitter) → made_in number search' ≡ Ok (tasks.Made number root search') → IsTextForAt (made_in number search') table later text → IsWithinIfPlain (tasks.Made number root search')
  made_within root text table later is written = subst (λ t. IsWithinIfPlain t) (ok-same (made_in number search') written.task (tasks.Made number root search') written.accepted is) written.fits

  pub made_run_written : (text : List ℕ) (status : Status) (table later : List Sitter) → IsTextForAt (made_in number search') table later text → (status ≡ Done) ⊎ (status ≡ Unwritten) → IsMadeRun number search' status
  made_run_written text status table later written ends =
      let made = made-problem number search' in
      let fits = made_within made.0 text table later made.1 written in
      ⊎_elim
      (λ (e : status ≡ Done). subst (λ s. IsMadeRun number search' s) (sym e) (made.0, made.1, fits))
      (λ (e : status ≡ Unwritten). subst (λ s. IsMadeRun number search' s) (sym e) (made.0, made.1, fits))
      ends

  pub made_complete : (task : TaskValue) (status : Status) → made_in number search' ≡ Ok task → HasText task → IsTaskRefusal (made_in number search') status → IsDoneOrMemory status
  made_complete task Done is fits refused = absurd refused
  made_complete task (Refuted plan place) is fits refused = absurd (ok-err (made_in number search') task (Refuted plan place) is refused)
  made_complete task BadWords is fits refused = absurd refused
  made_complete task (Unread file) is fits refused = absurd refused
  made_complete task (BadPbn line kind) is fits refused = absurd (ok-err (made_in number search') task (BadPbn line kind) is refused)
  made_complete task (BadLayouts fault) is fits refused = absurd (ok-err (made_in number search') task (BadLayouts fault) is refused)
  made_complete task NoTurn is fits refused = absurd (ok-err (made_in number search') task NoTurn is refused)
  made_complete task (Spent card) is fits (other, also, spent) = absurd (not_spent task card fits (subst (λ t. IsSpentOn t card) (ok-same (made_in number search') other task also is) spent))
  made_complete task Unwritten is fits refused = absurd refused
  made_complete task Memory is fits refused = inr refl
  made_complete task (TooLong file) is fits refused = absurd refused
  made_complete task (BadReport line kind) is fits refused = absurd (ok-err (made_in number search') task (BadReport line kind) is refused)
  made_complete task (BadMake fault) is fits refused = absurd (ok-err (made_in number search') task (BadMake fault) is refused)
  made_complete task (NoLayout layout) is fits refused = absurd (ok-err (made_in number search') task (NoLayout layout) is refused)
  made_complete task (BadLog line) is fits refused = absurd (ok-err (made_in number search') task (BadLog line) is refused)
  made_complete task (Unproved line) is fits (other, also, unproved) =
      absurd (not_unproved task line fits (subst (λ t. IsUnprovedOn t line) (ok-same (made_in number search') other task also is) unproved))
  made_complete task (GameSpent game card) is fits (other, also, spent) =
      absurd (not_game_spent task game card fits (subst (λ t. IsGameSpentOn t game card) (ok-same (made_in number search') other task also is) spent))
  made_complete task (TooManyGames games) is fits refused = absurd (ok-err (made_in number search') task (TooManyGames games) is refused)
