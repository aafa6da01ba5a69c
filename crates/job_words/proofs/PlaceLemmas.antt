-- Words up to a place, and with the word there.
use Rattle.std.proofs.Common.{◌≡◌, ◌<◌, ◌≤◌, ◌+◌, ◌∙◌, ℕ, zero, suc, Bool, true, false, cond, List, [], ◌∷◌, ◌++◌, length, take, drop, refl, sym, ap, arith}
use Rattle.std.proofs.Common.{String, string_bytes}
use Rattle.std.specs.declared.alloc.Global.{Global}
use Rattle.std.proofs.lemmas.List.{length-map, length-take-le, map-append}
use Rattle.clap.specs.Walk.{Text}
use Rattle.job_words.specs.Asks.{texts_of}
use Rattle.job_words.specs.Words.{are_begun, bad_place, bad_place_after}

-- a list about one of its places
record Parts {A : Type 0} (xs : List A) (place : ℕ) : Type 0 where
  here : A
  later : drop place xs ≡ here ∷ drop (suc place) xs
  before : take (suc place) xs ≡ take place xs ++ here ∷ []

parts : {A : Type 0} (xs : List A) (place : ℕ) → place < length xs → Parts xs place
parts [] place inside = absurd (omega (arith, inside))
parts (x ∷ xs) zero inside = record { here = x; later = refl; before = refl }
parts (x ∷ xs) (suc place) inside =
    let p = parts xs place (omega (arith, inside)) in
    record { here = p.here; later = p.later; before = ap (λ ys. x ∷ ys) p.before }

abbrev before : List (String Global) → ℕ → List Text
before words place = texts_of (take place words)

abbrev later : List (String Global) → ℕ → List Text
later words place = texts_of (drop place words)

-- the search at a word is that at the next, or ends there
pub one_on : (words : List (String Global)) (place : ℕ) → place < length words
    → bad_place_after (before words place) (later words place)
    ≡ cond (are_begun (before words (suc place))) (bad_place_after (before words (suc place)) (later words (suc place))) (length (before words place))
one_on words place inside =
    let p = parts words place inside in
    let now : before words (suc place) ≡ before words place ++ string_bytes p.here ∷ [] = ap texts_of p.before ∙ map-append (λ word. string_bytes word) (take place words) (p.here ∷ []) in
    ap (λ (ws : List (String Global)). bad_place_after (before words place) (texts_of ws)) p.later
    ∙ ap (λ (ws : List Text). cond (are_begun ws) (bad_place_after ws (later words (suc place))) (length (before words place))) (sym now)

module _ (words : List (String Global)) (place : ℕ) (inside : place < length words) (begun : Bool)
    (told : begun ≡ are_begun (before words (place + 1))) (so_far : bad_place_after (before words place) (later words place) ≡ bad_place (texts_of words)) where
  next : place + 1 ≡ suc place
  next = omega arith

  there : bad_place (texts_of words) ≡ cond begun (bad_place_after (before words (place + 1)) (later words (place + 1))) (length (before words place))
  there =
      sym so_far ∙ one_on words place inside
      ∙ ap (λ n. cond (are_begun (before words n)) (bad_place_after (before words n) (later words n)) (length (before words place))) (sym next)
      ∙ ap (λ b. cond b (bad_place_after (before words (place + 1)) (later words (place + 1))) (length (before words place))) (sym told)

  pub ends_here : begun ≡ false → place ≡ bad_place (texts_of words)
  ends_here none =
      let whole : place ≤ length words = omega (arith, inside) in
      let count : length (before words place) ≡ place = length-map (take place words) (λ word. string_bytes word) ∙ length-take-le place words whole in
      sym (there ∙ ap (λ b. cond b (bad_place_after (before words (place + 1)) (later words (place + 1))) (length (before words place))) none ∙ count)

  pub goes_on : begun ≡ true → bad_place_after (before words (place + 1)) (later words (place + 1)) ≡ bad_place (texts_of words)
  goes_on some = sym (there ∙ ap (λ b. cond b (bad_place_after (before words (place + 1)) (later words (place + 1))) (length (before words place))) some)
