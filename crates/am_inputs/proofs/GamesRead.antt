-- What each game comes to, as it is read.
use Rattle.std.proofs.Common.{◌≡◌, ◌<◌, ◌≤◌, ◌+◌, ℕ, zero, suc, min, List, [], ◌∷◌, ◌++◌, Result, Err, length, take, refl, sym, ap, ap₂, ◌∙◌, arith}
use Rattle.std.specs.Prelude.{IfOk, slice_index_or}
use Rattle.std.specs.List.{zip}
use Rattle.std.specs.Global.{Vec}
use Rattle.std.proofs.lemmas.List.{length-map, take_all}
use Rattle.std.proofs.lemmas.Result.{IfOk-weaker}
use Rattle.std.proofs.lemmas.Slice.Zip.{length-zip}
use Rattle.pbn_text.specs.Games.{GameValue}
use Rattle.am_answer.specs.Answers.{game_root, game_roots}
use Rattle.am_answer.specs.Games.{GameFilesValue}
use Rattle.am_answer.specs.declared.root.Root.{Root}
use Rattle.am_answer.specs.declared.status.Status.{Status}
use Rattle.am_answer.specs.declared.status.Status.TheVariants.{Done, Refuted, BadWords, Unread, BadPbn, BadLayouts, NoTurn, Spent, Unwritten, Memory, TooLong, BadReport, BadMake, NoLayout, BadLog, Unproved, GameSpent, TooManyGames}
use Rattle.am_answer.specs.Stages.{IsFileRefusal}

-- a refusal that isn't want of memory is what the files say
refused-is : {A : Type 0} (expected : Result A Status) (status : Status) → (status ≡ Memory → ⊥) → IsFileRefusal expected status → expected ≡ Err status
refused-is expected Done other is = absurd is
refused-is expected (Refuted plan place) other is = is
refused-is expected BadWords other is = absurd is
refused-is expected (Unread file) other is = absurd is
refused-is expected (BadPbn line kind) other is = is
refused-is expected (BadLayouts fault) other is = is
refused-is expected NoTurn other is = is
refused-is expected (Spent card) other is = absurd is
refused-is expected Unwritten other is = absurd is
refused-is expected Memory other is = absurd (other refl)
refused-is expected (TooLong file) other is = absurd is
refused-is expected (BadReport line kind) other is = is
refused-is expected (BadMake fault) other is = is
refused-is expected (NoLayout layout) other is = is
refused-is expected (BadLog line) other is = is
refused-is expected (Unproved number) other is = absurd is
refused-is expected (GameSpent game card) other is = absurd is
refused-is expected (TooManyGames games) other is = is

pub refused-as-said : {A : Type 0} (expected : Result A Status) (status : Status) → (status ≡ Memory → ⊥) → IsFileRefusal expected status → Err status ≡ expected
refused-as-said expected status other is = sym (refused-is expected status other is)

-- ---- one after another

abbrev pub files_of : List GameValue → List (List ℕ) → GameFilesValue
files_of games layouts = record { games = games; layouts = layouts }

roots-length : (files : GameFilesValue) → length (game_roots files) ≡ min (length files.games) (length files.layouts)
unfolding game_roots
roots-length files = length-map (zip files.games files.layouts) (λ (pair : GameValue × List ℕ). game_root pair.0 pair.1) ∙ length-zip files.games files.layouts

roots-suc : (games : List GameValue) (layouts : List (List ℕ)) (place : ℕ) (d : GameValue) (e : List ℕ) → place < length games → place < length layouts
    → take (suc place) (game_roots (files_of games layouts)) ≡ take place (game_roots (files_of games layouts)) ++ game_root (slice_index_or games place d) (slice_index_or layouts place e) ∷ []
unfolding game_roots
roots-suc [] layouts place d e inside within = absurd (omega (arith, inside))
roots-suc (g ∷ games) [] place d e inside within = absurd (omega (arith, within))
roots-suc (g ∷ games) (l ∷ layouts) zero d e inside within = refl
roots-suc (g ∷ games) (l ∷ layouts) (suc place) d e inside within =
    ap (λ roots. game_root g l ∷ roots) (roots-suc games layouts place d e (omega (arith, inside)) (omega (arith, within)))

-- with one game more
pub roots-next : (files : GameFilesValue) (place : ℕ) (d : GameValue) (e : List ℕ) (before now : List (Result Root Status)) (found : Result Root Status)
    → place < min (length files.games) (length files.layouts) → before ≡ take place (game_roots files) → found ≡ game_root (slice_index_or files.games place d) (slice_index_or files.layouts place e) → now ≡ before ++ found ∷ []
    → now ≡ take (place + 1) (game_roots files)
roots-next files place d e before now found inside so_far is more =
    let next : place + 1 ≡ suc place = omega arith in
    let first : place < length files.games = omega (arith, inside) in
    let second : place < length files.layouts = omega (arith, inside) in
    more ∙ ap₂ (λ (bs : List (Result Root Status)) f. bs ++ f ∷ []) so_far is ∙ sym (roots-suc files.games files.layouts place d e first second) ∙ ap (λ n. take n (game_roots files)) (sym next)

pub roots-all : (files : GameFilesValue) (place : ℕ) (roots : List (Result Root Status)) → (place < min (length files.games) (length files.layouts) → ⊥) → roots ≡ take place (game_roots files) → roots ≡ game_roots files
roots-all files place roots done so_far =
    so_far ∙ take_all place (game_roots files) (omega (arith, roots-length files, done))

-- of games and texts that are read one after another
module _ {E : Type 0} (result : Result (Vec (Result Root Status)) E) (files : GameFilesValue) (games : List GameValue) (layouts : List (List ℕ)) (games_are : games ≡ files.games) (layouts_are : layouts ≡ files.layouts)
    (is : IfOk result (λ roots. roots.items ≡ game_roots (files_of games layouts))) where
  pub roots-of : IfOk result (λ roots. roots.items ≡ game_roots files)
  roots-of = IfOk-weaker result _ _ (λ roots same. same ∙ ap game_roots (ap₂ files_of games_are layouts_are)) is

  -- there are no more roots than games
  pub few-roots : (most : ℕ) → length files.games ≤ most → IfOk result (λ roots. length roots.items ≤ most)
  few-roots most few = IfOk-weaker result _ _ (λ roots same. omega (arith, ap length same, roots-length files, few)) roots-of
