-- The lines that are played out, with one more.
use Rattle.std.proofs.Common.{◌≡◌, ◌∙◌, ◌+◌, ◌<◌, ◌≤◌, ℕ, suc, List, [], ◌∷◌, ◌++◌, length, take, map, get_or, slice_get, Some, sym, ap, subst, arith}
use Rattle.std.specs.List.{AllZip, range_with_len}
use Rattle.std.proofs.lemmas.List.{take_more, take_all, take_min, length-map, length_push, map-append}
use Rattle.std.proofs.lemmas.Option.{slice_get-get_or}
use Rattle.std.proofs.lemmas.Slice.Zip.{all_zipped_more}
use Rattle.trick_rules.specs.Positions.{State}
use Rattle.trick_rules.specs.Nodes.{NodeValue, states}
use Rattle.page_text.specs.declared.plays.PlayedLine.{PlayedLine}
use Rattle.page_text.proofs.Grown.{range_more}

-- one more on each of two lists
pub zip_next : {A B : Type 0} (R : A → B → Type 0) (xs : List A) (ys now : List B) (place : ℕ) (x : A) (y : B) → place < length xs → ((z : A) → slice_get xs place ≡ Some z → R z y)
    → AllZip R (take place xs) ys → now ≡ ys ++ y ∷ [] → AllZip R (take (place + 1) xs) now
zip_next R xs ys now place x y inside is so_far pushed =
    let next : take (place + 1) xs ≡ take place xs ++ get_or xs place x ∷ [] = take_more xs place x inside in
    subst (λ zs. AllZip R (take (place + 1) xs) zs) (sym pushed)
    (subst (λ ws. AllZip R ws (ys ++ y ∷ [])) (sym next)
    (all_zipped_more R (take place xs) ys (get_or xs place x) y so_far (is (get_or xs place x) (slice_get-get_or xs place x inside))))

-- a layout more
pub layout_next : {B : Type 0} (R : State → B → Type 0) (n : NodeValue) (ys now : List B) (place : ℕ) (y : B) → place < length n.lefts → ((s : State) → slice_get (states n) place ≡ Some s → R s y)
    → AllZip R (take place (states n)) ys → now ≡ ys ++ y ∷ [] → AllZip R (take (place + 1) (states n)) now
layout_next R n ys now place y inside is so_far pushed =
    let wide : length (states n) ≡ length n.lefts = length-map n.lefts (λ left. record { position = n.position; left = left }) in
    zip_next R (states n) ys now place (record { position = n.position; left = [] }) y (omega (arith, inside, wide)) is so_far pushed

-- all layouts
pub all_layouts : {B : Type 0} (R : State → B → Type 0) (n : NodeValue) (ys : List B) (place : ℕ) → length n.lefts ≤ place → AllZip R (take place (states n)) ys → AllZip R (states n) ys
all_layouts R n ys place over so_far =
    let wide : length (states n) ≡ length n.lefts = length-map n.lefts (λ left. record { position = n.position; left = left }) in
    subst (λ xs. AllZip R xs ys) (take_all place (states n) (omega (arith, over, wide))) so_far

-- the numbers with one more
pub numbers_next : (lines now : List PlayedLine) (line : PlayedLine) (place : ℕ) → map (λ it. it.number) lines ≡ range_with_len 1 place → line.number ≡ place + 1 → now ≡ lines ++ line ∷ []
    → map (λ it. it.number) now ≡ range_with_len 1 (place + 1)
numbers_next lines now line place so_far is pushed =
    let last : place + 1 ≡ 1 + place = omega arith in
    let one : suc place ≡ place + 1 = omega arith in
    ap (map (λ it. it.number)) pushed ∙ map-append (λ it. it.number) lines (line ∷ [])
    ∙ ap (λ (ns : List ℕ). ns ++ line.number ∷ []) so_far ∙ ap (λ (n : ℕ). range_with_len 1 place ++ n ∷ []) (is ∙ last)
    ∙ sym (range_more 1 place) ∙ ap (range_with_len 1) one
