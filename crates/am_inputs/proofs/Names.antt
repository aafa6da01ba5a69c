-- The names that the words give files, and the counts of faults at them.
use Rattle.std.proofs.Common.{◌≡◌, ◌≤◌, ℕ, Bool, true, false, List, [], ◌∷◌, length, Option, Some, None, Result, Ok, Err, inl, inr, refl, sym, subst, arith}
use Rattle.std.specs.Prelude.{IsSomeAnd, IsOkAnd, IfSome, nat_le, if◌then◌else◌}
use Rattle.std.proofs.lemmas.Bool.Decides.{nat_tests}
use Rattle.am_outside.specs.Faults.{Rose}
use Rattle.am_outside.specs.Shelf.{Files}
use Rattle.pbn_text.specs.declared.fault.Syntax.{Syntax as TextSyntax}
use Rattle.pbn_text.specs.Games.{GameValue}
use Rattle.pbn_text.specs.Grammar.{games_read}
use Rattle.job_words.specs.declared.asks.Search.{Search}
use Rattle.job_words.specs.Asks.{AskValue, GameNamesValue, LayoutsJobValue}
use Rattle.job_words.specs.declared.asks.Ask.TheVariants.{OnLayouts, Boards}
use Rattle.job_words.specs.declared.asks.LayoutsJob.TheVariants.{Solve, Card, Match, Fusion, Check, Prove, Audit}
use Rattle.am_answer.specs.declared.status.FileWord.{FileWord}
use Rattle.am_answer.specs.declared.status.FileWord.TheVariants.{Deal, Layouts, Report, Log}
use Rattle.am_answer.specs.declared.status.Status.TheVariants.{TooManyGames}
use Rattle.am_answer.specs.Games.{games_of, games_or, layouts_name, most_games}
use Rattle.am_answer.specs.Files.{file_named, file_read, IsGameNumber, IsGameIn, IsNameOf}

-- a job names neither the deal nor the layouts
neither_named : (job : LayoutsJobValue) → (file_named job Deal ≡ None) × (file_named job Layouts ≡ None)
neither_named (Solve moves search') = (refl, refl)
neither_named (Card moves search') = (refl, refl)
neither_named (Match moves search' layout switch) = (refl, refl)
neither_named Fusion = (refl, refl)
neither_named (Check report) = (refl, refl)
neither_named (Prove moves nodes) = (refl, refl)
neither_named (Audit report log) = (refl, refl)

-- a count that rose since later rose since earlier
pub rose_since : (before between now : ℕ) → before ≤ between → Rose between now → Rose before now
rose_since before between now earlier (inl less) = inl (omega arith)
rose_since before between now earlier (inr last) = inr last

-- ---- the layout file of a game

-- a deal file that isn't refused has no more games than may be solved
few-games : (read : Result (List GameValue) (ℕ × TextSyntax)) (number : ℕ) → IsOkAnd (games_or read) (λ games. number ≤ length games) → number ≤ most_games
few-games (Err fault) number is = absurd is
few-games (Ok []) number is = absurd is
few-games (Ok (game ∷ later)) number is = by_count (nat_le (length (game ∷ later)) most_games) refl is where
  by_count : (few : Bool) → nat_le (length (game ∷ later)) most_games ≡ few → IsOkAnd (if few then Ok (game ∷ later) else Err (TooManyGames (length (game ∷ later)))) (λ games. number ≤ length games) → number ≤ most_games
  by_count true few below = let most : length (game ∷ later) ≤ most_games = grind (arith, nat_tests) in omega arith
  by_count false many below = absurd below

few-number : (deal : List ℕ) (number : ℕ) → IsGameNumber deal number → number ≤ most_games
unfolding games_of
few-number deal number is = few-games (games_read deal) number is.1

-- a game of the deal file that was read
game-in : (told : Option Files) (name deal : List ℕ) (number : ℕ) → IfSome told (λ files. file_read files Deal name ≡ Ok deal) → IsGameNumber deal number → IsGameIn told name number
game-in None name deal number read is = (is.0, few-number deal number is)
game-in (Some files) name deal number read is = subst (λ found. IsOkAnd found (λ bytes. IsGameNumber bytes number)) (sym read) is

-- a file that the words name like this, and whose count rose
pub is_named : (told : Option Files) (ask : AskValue) (file named : FileWord) (name : List ℕ) (before now : List ℕ → ℕ) → file ≡ named → IsNameOf told ask named name → Rose (before name) (now name)
    → (other : List ℕ) × IsNameOf told ask file other × Rose (before other) (now other)
is_named told ask file named name before now same is rose = (name, subst (λ f. IsNameOf told ask f name) (sym same) is, rose)

module _ (before between now : List ℕ → ℕ) (earlier : (name : List ℕ) → before name ≤ between name) where
  named_since : (named : Option (List ℕ)) → IsSomeAnd named (λ name. Rose (between name) (now name)) → (name : List ℕ) × (named ≡ Some name) × Rose (before name) (now name)
  named_since None rose = absurd rose
  named_since (Some name) rose = (name, refl, rose_since (before name) (between name) (now name) (earlier name) rose)

  -- the file that a job names is the one that its words name
  pub job_names : (told : Option Files) (deal layouts : List ℕ) (job : LayoutsJobValue) (file : FileWord) → IsSomeAnd (file_named job file) (λ name. Rose (between name) (now name))
      → (name : List ℕ) × IsNameOf told (OnLayouts deal layouts job) file name × Rose (before name) (now name)
  job_names told deal layouts job Deal rose = absurd (subst (λ (o : Option (List ℕ)). IsSomeAnd o (λ name. Rose (between name) (now name))) (neither_named job).0 rose)
  job_names told deal layouts job Layouts rose = absurd (subst (λ (o : Option (List ℕ)). IsSomeAnd o (λ name. Rose (between name) (now name))) (neither_named job).1 rose)
  job_names told deal layouts job Report rose = named_since (file_named job Report) rose
  job_names told deal layouts job Log rose = named_since (file_named job Log) rose

  -- the layout file of a game, if all games are solved
  pub game_named : (told : Option Files) (names : GameNamesValue) (deal : List ℕ) (moves : ℕ) (search' : Search) (file : FileWord) → IfSome told (λ files. file_read files Deal names.deal ≡ Ok deal)
      → (file ≡ Layouts) × (number : ℕ) × IsGameNumber deal number × Rose (between (layouts_name names.layouts number)) (now (layouts_name names.layouts number))
      → (other : List ℕ) × IsNameOf told (Boards names moves search') file other × Rose (before other) (now other)
  game_named told names deal moves search' file read (same, number, is, rose) =
      let other = layouts_name names.layouts number in
      is_named told (Boards names moves search') file Layouts other before now same (number, game-in told names.deal deal number read is, refl) (rose_since (before other) (between other) (now other) (earlier other) rose)
