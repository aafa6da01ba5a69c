-- Lists that begin one list.
use Rattle.std.proofs.Common.{◌≡◌, ◌≤◌, ltb, cond, Bool, true, false, List, [], ◌∷◌, ◌++◌, length, refl, sym, ap, ◌∙◌, arith}
use mathlib.Core.List.{IsPrefix, append_assoc, cons≢nil, head-eq_of_cons-eq, tail-eq_of_cons-eq}
use Rattle.front_table.specs.Entries.{StoredFrontValue}
use Rattle.shared_table.specs.Shards.{longer}

abbrev pub E : Type 0
E = List StoredFrontValue

pub prefix_none : (xs : E) → IsPrefix [] xs
prefix_none xs = (xs, refl)

pub prefix_self : (xs : E) → IsPrefix xs xs
prefix_self [] = ([], refl)
prefix_self (x ∷ xs) = let e = prefix_self xs in (e.0, ap (λ l. x ∷ l) e.1)

pub prefix_more : (xs ys zs : E) → IsPrefix xs ys → IsPrefix ys zs → IsPrefix xs zs
prefix_more xs ys zs a b = (a.0 ++ b.0, sym (append_assoc xs a.0 b.0) ∙ ap (λ l. l ++ b.0) a.1 ∙ b.1)

-- of two beginnings of one list the shorter begins the longer
pub prefix_nested : (xs ys zs : E) → IsPrefix xs zs → IsPrefix ys zs → length xs ≤ length ys → IsPrefix xs ys
prefix_nested [] ys zs a b h = (ys, refl)
prefix_nested (x ∷ xs) [] zs a b h = absurd (omega arith)
prefix_nested (x ∷ xs) (y ∷ ys) [] a b h = absurd (cons≢nil a.1)
prefix_nested (x ∷ xs) (y ∷ ys) (z ∷ zs) a b h =
    let t = prefix_nested xs ys zs (a.0, tail-eq_of_cons-eq a.1) (b.0, tail-eq_of_cons-eq b.1) (omega arith) in
    let same : x ≡ y = head-eq_of_cons-eq a.1 ∙ sym (head-eq_of_cons-eq b.1) in
    (t.0, ap (λ l. x ∷ l) t.1 ∙ ap (λ w. w ∷ ys) same)

longer_of : (xs ys zs : E) (b : Bool) → ltb (length xs) (length ys) ≡ b → IsPrefix xs zs → IsPrefix ys zs → IsPrefix xs (cond b ys xs) × IsPrefix ys (cond b ys xs) × IsPrefix (cond b ys xs) zs
longer_of xs ys zs true e a b = (prefix_nested xs ys zs a b (grind arith), prefix_self ys, b)
longer_of xs ys zs false e a b = (prefix_self xs, prefix_nested ys xs zs b a (grind arith), a)

-- of two beginnings of one list, both begin the longer one, which begins that list
pub prefix_longer : (xs ys zs : E) → IsPrefix xs zs → IsPrefix ys zs → IsPrefix xs (longer xs ys) × IsPrefix ys (longer xs ys) × IsPrefix (longer xs ys) zs
prefix_longer xs ys zs a b = longer_of xs ys zs (ltb (length xs) (length ys)) refl a b
