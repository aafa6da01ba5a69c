-- Strings read byte by byte.
use Rattle.std.proofs.Common.{◌≡◌, ℕ, ◌+◌, ◌<◌, ◌≤◌, get_or, List, [], ◌∷◌, ◌++◌, length, drop, Option, Some, None, option_map, refl, sym, ap, ◌∙◌, arith, append_assoc}
use Rattle.std.proofs.lemmas.Bool.{ne_eqb}
use Rattle.std.proofs.lemmas.List.{drop_more, drop_all, append-nil}
use Rattle.pbn_text.specs.Strings.{string_len, unescaped}

-- ---- the length of a string

quote_first : (rest : List ℕ) → string_len (34 ∷ rest) ≡ Some 1
unfolding string_len
quote_first [] = refl
quote_first (next ∷ rest) = refl

line_end_first : (rest : List ℕ) → string_len (10 ∷ rest) ≡ None
unfolding string_len
line_end_first [] = refl
line_end_first (next ∷ rest) = refl

lone_backslash : string_len (92 ∷ []) ≡ None
unfolding string_len
lone_backslash = refl

backslash_line_end : (rest : List ℕ) → string_len (92 ∷ 10 ∷ rest) ≡ None
unfolding string_len
backslash_line_end rest = refl

backslash_first : (next : ℕ) (rest : List ℕ) → (next ≡ 10 → ⊥) → string_len (92 ∷ next ∷ rest) ≡ option_map (λ len. len + 2) (string_len rest)
unfolding string_len
backslash_first next rest other = rw (ne_eqb next 10 other) refl

other_first : (byte : ℕ) (rest : List ℕ) → (byte ≡ 34 → ⊥) → (byte ≡ 10 → ⊥) → (byte ≡ 92 → ⊥) → string_len (byte ∷ rest) ≡ option_map (λ len. len + 1) (string_len rest)
unfolding string_len
other_first byte [] a b c = rw (ne_eqb byte 34 a) refl
other_first byte (next ∷ rest) a b c = rw (ne_eqb byte 34 a, ne_eqb byte 10 b, ne_eqb byte 92 c) refl

-- the string from a place on
at_cell : (text : List ℕ) (i byte : ℕ) → i < length text → get_or text i 0 ≡ byte → drop i text ≡ byte ∷ drop (i + 1) text
at_cell text i byte inside is = drop_more text i 0 inside ∙ ap (λ (b : ℕ). b ∷ drop (i + 1) text) is

at_cells : (text : List ℕ) (i byte next : ℕ) → i + 1 < length text → get_or text i 0 ≡ byte → get_or text (i + 1) 0 ≡ next → drop i text ≡ byte ∷ next ∷ drop (i + 2) text
at_cells text i byte next inside is is_next =
    at_cell text i byte (omega arith) is ∙ ap (λ more. byte ∷ more) (at_cell text (i + 1) next inside is_next ∙ ap (λ k. next ∷ drop k text) (omega arith))

-- what is left gives the length, with the bytes so far
abbrev pub Measures : List ℕ → ℕ → Type 0
Measures text i = option_map (λ more. more + i) (string_len (drop i text)) ≡ string_len text

pub Measures-quote : (text : List ℕ) (i : ℕ) → i < length text → Measures text i → get_or text i 0 ≡ 34 → Some (i + 1) ≡ string_len text
Measures-quote text i inside so_far is =
    let here : string_len (drop i text) ≡ Some 1 = ap string_len (at_cell text i 34 inside is) ∙ quote_first (drop (i + 1) text) in
    ap (λ (n : ℕ). Some n) (omega arith) ∙ sym (ap (option_map (λ more. more + i)) here) ∙ so_far

none_left : (text : List ℕ) (i : ℕ) → Measures text i → string_len (drop i text) ≡ None → None ≡ string_len text
none_left text i so_far none = sym (ap (option_map (λ more. more + i)) none) ∙ so_far

pub Measures-line_end : (text : List ℕ) (i : ℕ) → i < length text → Measures text i → get_or text i 0 ≡ 10 → None ≡ string_len text
Measures-line_end text i inside so_far is = none_left text i so_far (ap string_len (at_cell text i 10 inside is) ∙ line_end_first (drop (i + 1) text))

pub Measures-lone : (text : List ℕ) (i : ℕ) → i < length text → Measures text i → get_or text i 0 ≡ 92 → i + 1 ≡ length text → None ≡ string_len text
Measures-lone text i inside so_far is last =
    none_left text i so_far (ap string_len (at_cell text i 92 inside is ∙ ap (λ more. 92 ∷ more) (drop_all (i + 1) text (omega arith))) ∙ lone_backslash)

pub Measures-backslash_end : (text : List ℕ) (i : ℕ) → i + 1 < length text → Measures text i → get_or text i 0 ≡ 92 → get_or text (i + 1) 0 ≡ 10 → None ≡ string_len text
Measures-backslash_end text i inside so_far is next = none_left text i so_far (ap string_len (at_cells text i 92 10 inside is next) ∙ backslash_line_end (drop (i + 2) text))

pub Measures-end : (text : List ℕ) (i : ℕ) → length text ≤ i → Measures text i → None ≡ string_len text
unfolding string_len
Measures-end text i past so_far = none_left text i so_far (ap string_len (drop_all i text past))

map_map : (found : Option ℕ) (i k : ℕ) → option_map (λ more. more + i) (option_map (λ len. len + k) found) ≡ option_map (λ more. more + (i + k)) found
map_map None i k = refl
map_map (Some len) i k = ap (λ (n : ℕ). Some n) (omega arith)

pub Measures-taken : (text : List ℕ) (i : ℕ) → i + 1 < length text → Measures text i → get_or text i 0 ≡ 92 → (get_or text (i + 1) 0 ≡ 10 → ⊥) → Measures text (i + 2)
Measures-taken text i inside so_far is other =
    sym (map_map (string_len (drop (i + 2) text)) i 2)
    ∙ ap (option_map (λ more. more + i)) (sym (ap string_len (at_cells text i 92 (get_or text (i + 1) 0) inside is refl) ∙ backslash_first (get_or text (i + 1) 0) (drop (i + 2) text) other)) ∙ so_far

pub Measures-other : (text : List ℕ) (i : ℕ) → i < length text → Measures text i → (get_or text i 0 ≡ 34 → ⊥) → (get_or text i 0 ≡ 10 → ⊥) → (get_or text i 0 ≡ 92 → ⊥) → Measures text (i + 1)
Measures-other text i inside so_far a b c =
    sym (map_map (string_len (drop (i + 1) text)) i 1)
    ∙ ap (option_map (λ more. more + i)) (sym (ap string_len (at_cell text i (get_or text i 0) inside refl) ∙ other_first (get_or text i 0) (drop (i + 1) text) a b c)) ∙ so_far

-- ---- the characters of a string

kept_first : (byte : ℕ) (rest : List ℕ) → (byte ≡ 92 → ⊥) → unescaped (byte ∷ rest) ≡ byte ∷ unescaped rest
unfolding unescaped
kept_first byte [] other = refl
kept_first byte (next ∷ rest) other = rw (ne_eqb byte 92 other) refl

last_kept : (byte : ℕ) → unescaped (byte ∷ []) ≡ byte ∷ unescaped []
unfolding unescaped
last_kept byte = refl

taken_first : (next : ℕ) (rest : List ℕ) → unescaped (92 ∷ next ∷ rest) ≡ next ∷ unescaped rest
unfolding unescaped
taken_first next rest = refl

-- one character is written, and what is left gives the others
written : (value more text : List ℕ) (byte i k : ℕ) → more ≡ value ++ byte ∷ [] → unescaped (drop i text) ≡ byte ∷ unescaped (drop k text) → value ++ unescaped (drop i text) ≡ unescaped text → more ++ unescaped (drop k text) ≡ unescaped text
written value more text byte i k more-is here so_far =
    ap (λ v. v ++ unescaped (drop k text)) more-is ∙ append_assoc value (byte ∷ []) (unescaped (drop k text)) ∙ ap (λ v. value ++ v) (sym here) ∙ so_far

pub written-taken : (value more text : List ℕ) (i place : ℕ) → place ≡ i + 1 → more ≡ value ++ get_or text place 0 ∷ [] → i + 1 < length text → get_or text i 0 ≡ 92 → value ++ unescaped (drop i text) ≡ unescaped text → more ++ unescaped (drop (place + 1) text) ≡ unescaped text
written-taken value more text i place at more-is inside is so_far =
    let byte = get_or text place 0 in
    let rest : drop (i + 2) text ≡ drop (place + 1) text = ap (λ k. drop k text) (omega arith) in
    written value more text byte i (place + 1) more-is (ap unescaped (at_cells text i 92 byte inside is (ap (λ k. get_or text k 0) (sym at)) ∙ ap (λ left. 92 ∷ byte ∷ left) rest) ∙ taken_first byte (drop (place + 1) text)) so_far

pub written-kept : (value more text : List ℕ) (i place : ℕ) → place ≡ i → more ≡ value ++ get_or text place 0 ∷ [] → i < length text → (get_or text i 0 ≡ 92 → ⊥) → value ++ unescaped (drop i text) ≡ unescaped text → more ++ unescaped (drop (place + 1) text) ≡ unescaped text
written-kept value more text i place at more-is inside other so_far =
    let byte = get_or text i 0 in
    let now : more ≡ value ++ byte ∷ [] = more-is ∙ ap (λ k. value ++ get_or text k 0 ∷ []) at in
    ap (λ k. more ++ unescaped (drop (k + 1) text)) at ∙ written value more text byte i (i + 1) now (ap unescaped (at_cell text i byte inside refl) ∙ kept_first byte (drop (i + 1) text) other) so_far

pub written-last : (value more text : List ℕ) (i place : ℕ) → place ≡ i → more ≡ value ++ get_or text place 0 ∷ [] → i < length text → length text ≤ i + 1 → value ++ unescaped (drop i text) ≡ unescaped text → more ++ unescaped (drop (place + 1) text) ≡ unescaped text
written-last value more text i place at more-is inside last so_far =
    let byte = get_or text i 0 in
    let none : drop (i + 1) text ≡ [] = drop_all (i + 1) text last in
    let now : more ≡ value ++ byte ∷ [] = more-is ∙ ap (λ k. value ++ get_or text k 0 ∷ []) at in
    ap (λ k. more ++ unescaped (drop (k + 1) text)) at
    ∙ written value more text byte i (i + 1) now (ap unescaped (at_cell text i byte inside refl ∙ ap (λ rest. byte ∷ rest) none) ∙ last_kept byte ∙ ap (λ rest. byte ∷ unescaped rest) (sym none)) so_far

pub written-all : (value text : List ℕ) (i : ℕ) → length text ≤ i → value ++ unescaped (drop i text) ≡ unescaped text → value ≡ unescaped text
unfolding unescaped
written-all value text i past so_far = sym (append-nil value) ∙ ap (λ v. value ++ v) (sym (ap unescaped (drop_all i text past))) ∙ so_far
