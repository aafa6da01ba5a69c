-- Texts that differ, a test of each text, and the text of a flag.
use Rattle.std.proofs.Common.{◌≡◌, ℕ, Bool, true, false, List, [], ◌∷◌, ◌||◌, map, refl, sym, ap, codes, Option, Some, None}
use Rattle.std.specs.Prelude.{is_some, option_map, unwrap_or}
use Rattle.std.specs.Borrow.{Bor}
use Rattle.std.specs.Bool.{Decides}
use Rattle.std.specs.List.{list_any}
use Rattle.std.specs.Option.{option_map_or}
use Rattle.std.specs.Str.{bytes_eq}
use Rattle.std.specs.Str.Parse.{ParsesBool}
use Rattle.std.proofs.lemmas.Slice.Eq.{bytes_eq-Decides}
use Rattle.clap.specs.Matches.{ReadsOne}

false_from : (P : Type 0) (r : Bool) → Decides r P → (P → ⊥) → r ≡ false
false_from P true h differ = absurd (differ (h.0 refl))
false_from P false h differ = refl

-- texts that differ
pub bytes_ne : (xs ys : List ℕ) → (xs ≡ ys → ⊥) → bytes_eq xs ys ≡ false
bytes_ne xs ys differ = false_from (xs ≡ ys) (bytes_eq xs ys) (bytes_eq-Decides xs ys) differ

-- a test of what each element gives
pub list_any-map : {X Y : Type 0} (p : Y → Bool) (f : X → Y) (xs : List X) → list_any p (map f xs) ≡ list_any (λ x. p (f x)) xs
list_any-map p f [] = refl
list_any-map p f (x ∷ xs) = ap (λ b. p (f x) || b) (list_any-map p f xs)

-- a flag is read as it is written
read_flag : (E : Type 0) (text : List ℕ) (r : Option Bool) → ReadsOne {T = Bool} {E = E} ParsesBool text r → unwrap_or r false ≡ bytes_eq text (codes "true")
read_flag E text (Some true) h = sym (ap (λ t. bytes_eq t (codes "true")) h)
read_flag E text (Some false) h = sym (ap (λ t. bytes_eq t (codes "true")) h)
read_flag E text None h = sym (bytes_ne text (codes "true") h.1.0)

-- and one that isn't there as false
pub flag_read : (E : Type 0) (found : Option (List ℕ)) (r : Option Bool) → (found ≡ None → r ≡ None)
    → ((text : List ℕ) → found ≡ Some text → ReadsOne {T = Bool} {E = E} ParsesBool text r)
    → unwrap_or r false ≡ option_map_or (λ text. bytes_eq text (codes "true")) found false
flag_read E None r none value = ap (λ o. unwrap_or o false) (none refl)
flag_read E (Some text) r none value = read_flag E text r (value text refl)

-- whether a text is there, wherever it lies
pub is_some-text : (text : Option (Bor (List ℕ))) → is_some (option_map (λ s. s.now) text) ≡ is_some text
is_some-text None = refl
is_some-text (Some text) = refl
