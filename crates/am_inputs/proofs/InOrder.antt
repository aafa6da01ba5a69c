-- Layout files that are read one after another.
use Rattle.std.proofs.Common.{◌≡◌, ◌<◌, ◌+◌, ◌-◌, ℕ, zero, suc, List, [], ◌∷◌, ◌++◌, Option, Some, None, Result, Ok, Err, refl, sym, ap, subst, ◌∙◌, arith, append_assoc, append-nil}
use Rattle.std.specs.Prelude.{IfSome, IfErr, IsErrAnd}
use Rattle.am_outside.specs.Shelf.{Files}
use Rattle.am_answer.specs.declared.status.FileWord.TheVariants.{Layouts}
use Rattle.am_answer.specs.declared.status.Status.{Status}
use Rattle.am_answer.specs.declared.status.Status.TheVariants.{Done, Refuted, BadWords, Unread, BadPbn, BadLayouts, NoTurn, Spent, Unwritten, Memory, TooLong, BadReport, BadMake, NoLayout, BadLog, Unproved, GameSpent, TooManyGames}
use Rattle.am_answer.specs.Files.{file_read, layouts_from}
use Rattle.am_answer.specs.Games.{layouts_name}
use Rattle.am_answer.specs.Stages.{IsReadRefusal}
use Rattle.byte_text.specs.Steps.{◌>>=◌}

-- texts that were read, and then those that are read later, unless one is refused
abbrev pub with_later : List (List ℕ) → Result (List (List ℕ)) Status → Result (List (List ℕ)) Status
with_later texts (Ok later) = Ok (texts ++ later)
with_later texts (Err status) = Err status

-- this many are read; how many there are in all, these were read, and this many are left
abbrev pub HasRead : Option Files → List ℕ → ℕ → List (List ℕ) → ℕ → Type 0
HasRead told name count texts read =
    IfSome told (λ files. layouts_from files name 1 count ≡ with_later texts (layouts_from files name (read + 1) (count - read)))

with_later-nil : (read : Result (List (List ℕ)) Status) → read ≡ with_later [] read
with_later-nil (Ok texts) = refl
with_later-nil (Err status) = refl

pub none-read : (told : Option Files) (name : List ℕ) (count : ℕ) → HasRead told name count [] 0
none-read None name count = tt
none-read (Some files) name count =
    let all : count - 0 ≡ count = omega arith in
    with_later-nil (layouts_from files name 1 count) ∙ ap (λ n. with_later [] (layouts_from files name 1 n)) (sym all)

pub all-read : (told : Option Files) (name : List ℕ) (count : ℕ) (texts : List (List ℕ)) → HasRead told name count texts count → IfSome told (λ files. layouts_from files name 1 count ≡ Ok texts)
all-read None name count texts is = tt
all-read (Some files) name count texts is =
    let none : count - count ≡ zero = omega arith in
    is ∙ (ap (λ more. with_later texts (layouts_from files name (count + 1) more)) none ∙ ap (λ all. Ok all) (append-nil texts))

-- with one more that is left
from-next : (files : Files) (name : List ℕ) (count read : ℕ) → read < count
    → layouts_from files name (read + 1) (count - read) ≡ layouts_from files name (read + 1) (suc (count - (read + 1)))
from-next files name count read less =
    let same : count - read ≡ suc (count - (read + 1)) = omega arith in
    ap (λ more. layouts_from files name (read + 1) more) same

with_later-more : (texts : List (List ℕ)) (text : List ℕ) (later : Result (List (List ℕ)) Status)
    → with_later texts (with_later (text ∷ []) later) ≡ with_later (texts ++ text ∷ []) later
with_later-more texts text (Ok later) = ap (λ all. Ok all) (sym (append_assoc texts (text ∷ []) later))
with_later-more texts text (Err status) = refl

after-first : (text : List ℕ) (later : Result (List (List ℕ)) Status) → (later >>= λ texts. Ok (text ∷ texts)) ≡ with_later (text ∷ []) later
after-first text (Ok texts) = refl
after-first text (Err status) = refl

first-read : (files : Files) (name : List ℕ) (number more : ℕ) (text : List ℕ) → file_read files Layouts (layouts_name name number) ≡ Ok text
    → layouts_from files name number (suc more) ≡ with_later (text ∷ []) (layouts_from files name (number + 1) more)
first-read files name number more text is = rw is (after-first text (layouts_from files name (number + 1) more))

pub one-more-read : (told : Option Files) (name : List ℕ) (count : ℕ) (texts : List (List ℕ)) (text : List ℕ) (read : ℕ) → read < count → HasRead told name count texts read
    → IfSome told (λ files. file_read files Layouts (layouts_name name (read + 1)) ≡ Ok text) → HasRead told name count (texts ++ text ∷ []) (read + 1)
one-more-read None name count texts text read less so_far is = tt
one-more-read (Some files) name count texts text read less so_far is =
    so_far ∙ (ap (with_later texts) (from-next files name count read less ∙ first-read files name (read + 1) (count - (read + 1)) text is)
    ∙ with_later-more texts text (layouts_from files name (read + 1 + 1) (count - (read + 1))))

-- one that is refused refuses all
first-refused : (files : Files) (name : List ℕ) (number more : ℕ) (status : Status) → file_read files Layouts (layouts_name name number) ≡ Err status → layouts_from files name number (suc more) ≡ Err status
first-refused files name number more status is = rw is refl

refused-as : {A B : Type 0} (first : Result A Status) (all : Result B Status) (status : Status) → (first ≡ Err status → all ≡ Err status) → IsReadRefusal first status → IsReadRefusal all status
refused-as first all Done same is = absurd is
refused-as first all (Refuted plan place) same is = absurd is
refused-as first all BadWords same is = same is
refused-as first all (Unread file) same is = tt
refused-as first all (BadPbn line kind) same is = same is
refused-as first all (BadLayouts fault) same is = absurd is
refused-as first all NoTurn same is = absurd is
refused-as first all (Spent card) same is = absurd is
refused-as first all Unwritten same is = absurd is
refused-as first all Memory same is = tt
refused-as first all (TooLong file) same is = same is
refused-as first all (BadReport line kind) same is = absurd is
refused-as first all (BadMake fault) same is = absurd is
refused-as first all (NoLayout layout) same is = absurd is
refused-as first all (BadLog line) same is = absurd is
refused-as first all (Unproved number) same is = absurd is
refused-as first all (GameSpent game card) same is = absurd is
refused-as first all (TooManyGames games) same is = same is

pub one-refused : (told : Option Files) (name : List ℕ) (count : ℕ) (texts : List (List ℕ)) (read : ℕ) (status : Status) → read < count → HasRead told name count texts read
    → IfSome told (λ files. IsReadRefusal (file_read files Layouts (layouts_name name (read + 1))) status) → IfSome told (λ files. IsReadRefusal (layouts_from files name 1 count) status)
one-refused None name count texts read status less so_far is = tt
one-refused (Some files) name count texts read status less so_far is =
    refused-as (file_read files Layouts (layouts_name name (read + 1))) (layouts_from files name 1 count) status
    (λ first. so_far ∙ ap (with_later texts) (from-next files name count read less ∙ first-refused files name (read + 1) (count - (read + 1)) status first)) is

-- the refusal that `?` passes on
pub passed-refusal : {A : Type 0} (result : Result A Status) (status : Status) (told : Option Files) (Says : Files → Status → Type 0) → IsErrAnd result (λ e. e ≡ status) → IfSome told (λ files. Says files status) → IfSome told (λ files. IfErr result (Says files))
passed-refusal result status None Says passed is = tt
passed-refusal (Ok value) status (Some files) Says passed is = absurd passed
passed-refusal (Err e) status (Some files) Says passed is = subst (Says files) (sym passed) is
