-- Which of the first rows has the greatest least.
use Rattle.std.proofs.Common.{◌≡◌, ◌∙◌, ◌≤◌, ◌<◌, ◌+◌, ℕ, List, [], ◌∷◌, ◌++◌, Contains, take, length, get_or, append_assoc, refl, sym, ap, subst, ⊎_elim, arith}
use Rattle.std.proofs.lemmas.List.{take_more, take_all}
use Rattle.strategy_games.specs.Choosing.{IsFirstOf}
use Rattle.strategy_games.proofs.Lists.{Contains-here, Contains-nil, Contains-single, Contains-append, Contains-append_first, Contains-append_second}
use Rattle.card_brackets.specs.declared.rows.CardRow.{CardRow}
use Rattle.exact_cards.specs.ExactRows.{IsSafest}

-- the first row with the greatest least
abbrev pub IsFirstSafest : List CardRow → CardRow → Type 0
IsFirstSafest rows row = IsFirstOf (IsSafest rows) rows row

pub safest_one : (row : CardRow) → IsFirstSafest (row ∷ []) row
safest_one row = (
  [],
  [],
  refl,
  λ other among safe. Contains-nil other among,
  λ other among. let same = ap (λ (r : CardRow). r.least) (Contains-single row other among) in omega (arith, same),
)

module _ (rows : List CardRow) (best row : CardRow) (so : IsFirstSafest rows best) where
  -- a row with a greater least
  pub safest_new : best.least < row.least → IsFirstSafest (rows ++ row ∷ []) row
  safest_new more = (
    rows,
    [],
    refl,
    λ other among safe.
        let most = so.4 other among in
        let least = safe row (Contains-append_second rows (row ∷ []) row (Contains-here row [])) in
        omega arith,
    λ other among. ⊎_elim
        (λ (old : Contains rows other). let most = so.4 other old in omega arith)
        (λ (new : Contains (row ∷ []) other). let same = ap (λ (r : CardRow). r.least) (Contains-single row other new) in omega (arith, same))
        (Contains-append rows (row ∷ []) other among),
  )

  -- a row whose least isn't greater
  pub safest_old : row.least ≤ best.least → IsFirstSafest (rows ++ row ∷ []) best
  safest_old less = (
    so.0,
    so.1 ++ row ∷ [],
    ap (λ (rs : List CardRow). rs ++ row ∷ []) so.2 ∙ append_assoc so.0 (best ∷ so.1) (row ∷ []),
    λ other among safe. so.3 other among (λ r mem. safe r (Contains-append_first rows (row ∷ []) r mem)),
    λ other among. ⊎_elim
        (λ (old : Contains rows other). so.4 other old)
        (λ (new : Contains (row ∷ []) other). let same = ap (λ (r : CardRow). r.least) (Contains-single row other new) in omega (arith, same, less))
        (Contains-append rows (row ∷ []) other among),
  )

-- ---- of the first rows

module _ (rows : List CardRow) (row : CardRow) where
  pub safest_first : 0 < length rows → row ≡ get_or rows 0 row → IsFirstSafest (take 1 rows) row
  safest_first some is = subst (λ (rs : List CardRow). IsFirstSafest rs row) (sym (go rows some is)) (safest_one row)
    where
      go : (rs : List CardRow) → 0 < length rs → row ≡ get_or rs 0 row → take 1 rs ≡ row ∷ []
      go [] some is = absurd (omega (arith, some))
      go (r ∷ rs) some is = ap (λ (x : CardRow). x ∷ []) (sym is)

  module _ (place : ℕ) (best : CardRow) (inside : place < length rows) (is : row ≡ get_or rows place row) (so : IsFirstSafest (take place rows) best) where
    one_more : take (place + 1) rows ≡ take place rows ++ row ∷ []
    one_more = take_more rows place row inside ∙ ap (λ (r : CardRow). take place rows ++ r ∷ []) (sym is)

    pub safest_taken : best.least < row.least → IsFirstSafest (take (place + 1) rows) row
    safest_taken more = subst (λ (rs : List CardRow). IsFirstSafest rs row) (sym one_more) (safest_new (take place rows) best row so more)

    pub safest_kept : row.least ≤ best.least → IsFirstSafest (take (place + 1) rows) best
    safest_kept less = subst (λ (rs : List CardRow). IsFirstSafest rs best) (sym one_more) (safest_old (take place rows) best row so less)

pub safest_all : (rows : List CardRow) (place : ℕ) (best : CardRow) → length rows ≤ place → IsFirstSafest (take place rows) best → IsFirstSafest rows best
safest_all rows place best past so = subst (λ (rs : List CardRow). IsFirstSafest rs best) (take_all place rows past) so
