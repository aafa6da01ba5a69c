-- Characters with the signs of markup written by their names, and read back.
use Rattle.std.proofs.Common.{◌≡◌, ◌⊎◌, ◌∙◌, ◌==◌, ◌++◌, ℕ, Bool, false, cond, List, [], ◌∷◌, flat_map, refl, sym, ap, ap₂, inl, inr}
use Rattle.std.specs.Prelude.{codes}
use Rattle.std.proofs.lemmas.Bool.{cases_eq, ne_eqb}
use Rattle.html_text.specs.Escapes.{escape_sign}

-- characters as they are written
abbrev pub signed : List ℕ → List ℕ
signed cs = flat_map escape_sign cs

-- ---- a character is a sign, with its name, or stays as it is

-- a sign, and how it is written
abbrev pub IsSign : ℕ → ℕ → List ℕ → Type 0
IsSign c sign name = (c ≡ sign) × (escape_sign c ≡ name)

pub record IsPlain (c : ℕ) : Type 0 where
  pub not_amp : c ≡ 38 → ⊥
  pub not_lt : c ≡ 60 → ⊥
  pub not_gt : c ≡ 62 → ⊥
  pub not_quot : c ≡ 34 → ⊥
  pub not_apos : c ≡ 39 → ⊥
  pub stays : escape_sign c ≡ c ∷ []

abbrev pub Kinds : ℕ → Type 0
Kinds c = IsSign c 38 (codes "&amp;") ⊎ (IsSign c 60 (codes "&lt;") ⊎ (IsSign c 62 (codes "&gt;") ⊎ (IsSign c 34 (codes "&quot;") ⊎ (IsSign c 39 (codes "&#39;") ⊎ IsPlain c))))

-- the choice that each test makes
chosen : (is_amp is_lt is_gt is_quot is_apos : Bool) (plain : List ℕ) → List ℕ
chosen is_amp is_lt is_gt is_quot is_apos plain =
    cond is_amp (codes "&amp;") (cond is_lt (codes "&lt;") (cond is_gt (codes "&gt;") (cond is_quot (codes "&quot;") (cond is_apos (codes "&#39;") plain))))

pub kinds : (c : ℕ) → Kinds c
unfolding chosen
kinds c =
    elim (cases_eq c 38) [
      | inl is ↦ inl (is, ap (λ x. escape_sign x) is)
      | inr not_amp ↦ elim (cases_eq c 60) [
        | inl is ↦ inr (inl (is, ap (λ x. escape_sign x) is))
        | inr not_lt ↦ elim (cases_eq c 62) [
          | inl is ↦ inr (inr (inl (is, ap (λ x. escape_sign x) is)))
          | inr not_gt ↦ elim (cases_eq c 34) [
            | inl is ↦ inr (inr (inr (inl (is, ap (λ x. escape_sign x) is))))
            | inr not_quot ↦ elim (cases_eq c 39) [
              | inl is ↦ inr (inr (inr (inr (inl (is, ap (λ x. escape_sign x) is)))))
              | inr not_apos ↦ inr (inr (inr (inr (inr (record {
                not_amp = not_amp;
                not_lt = not_lt;
                not_gt = not_gt;
                not_quot = not_quot;
                not_apos = not_apos;
                stays =
                    ap (λ (found : Bool). chosen found (c == 60) (c == 62) (c == 34) (c == 39) (c ∷ [])) (ne_eqb c 38 not_amp)
                    ∙ ap (λ (found : Bool). chosen false found (c == 62) (c == 34) (c == 39) (c ∷ [])) (ne_eqb c 60 not_lt)
                    ∙ ap (λ (found : Bool). chosen false false found (c == 34) (c == 39) (c ∷ [])) (ne_eqb c 62 not_gt)
                    ∙ ap (λ (found : Bool). chosen false false false found (c == 39) (c ∷ [])) (ne_eqb c 34 not_quot)
                    ∙ ap (λ (found : Bool). chosen false false false false found (c ∷ [])) (ne_eqb c 39 not_apos);
              })))))
            ]
          ]
        ]
      ]
    ]

-- ---- read back

-- the sign of a name, by the first c of the name
abbrev named : ℕ → ℕ
named c = cond (c == 97) 38 (cond (c == 108) 60 (cond (c == 103) 62 (cond (c == 113) 34 39)))

abbrev first_read : List ℕ → ℕ
first_read [] = 0
first_read (x ∷ []) = x
first_read (x ∷ y ∷ rest) = cond (x == 38) (named y) x

plain_read : (c : ℕ) (more : List ℕ) → (c ≡ 38 → ⊥) → first_read (c ∷ more) ≡ c
plain_read c [] other = refl
plain_read c (y ∷ more) other = ap (λ (b : Bool). cond b (named y) c) (ne_eqb c 38 other)

first_back : (c : ℕ) (more : List ℕ) → first_read (escape_sign c ++ more) ≡ c
first_back c more =
    elim (kinds c) [
      | inl k ↦ ap (λ piece. first_read (piece ++ more)) k.1 ∙ sym k.0
      | inr (inl k) ↦ ap (λ piece. first_read (piece ++ more)) k.1 ∙ sym k.0
      | inr (inr (inl k)) ↦ ap (λ piece. first_read (piece ++ more)) k.1 ∙ sym k.0
      | inr (inr (inr (inl k))) ↦ ap (λ piece. first_read (piece ++ more)) k.1 ∙ sym k.0
      | inr (inr (inr (inr (inl k)))) ↦ ap (λ piece. first_read (piece ++ more)) k.1 ∙ sym k.0
      | inr (inr (inr (inr (inr k)))) ↦ ap (λ piece. first_read (piece ++ more)) k.stays ∙ plain_read c more k.not_amp
    ]

filled : (c : ℕ) (more : List ℕ) → escape_sign c ++ more ≡ [] → ⊥
filled c more h =
    elim (kinds c) [
      | inl k ↦ (let none : codes "&amp;" ++ more ≡ [] = sym (ap (λ piece. piece ++ more) k.1) ∙ h in absurd cc)
      | inr (inl k) ↦ (let none : codes "&lt;" ++ more ≡ [] = sym (ap (λ piece. piece ++ more) k.1) ∙ h in absurd cc)
      | inr (inr (inl k)) ↦ (let none : codes "&gt;" ++ more ≡ [] = sym (ap (λ piece. piece ++ more) k.1) ∙ h in absurd cc)
      | inr (inr (inr (inl k))) ↦ (let none : codes "&quot;" ++ more ≡ [] = sym (ap (λ piece. piece ++ more) k.1) ∙ h in absurd cc)
      | inr (inr (inr (inr (inl k)))) ↦ (let none : codes "&#39;" ++ more ≡ [] = sym (ap (λ piece. piece ++ more) k.1) ∙ h in absurd cc)
      | inr (inr (inr (inr (inr k)))) ↦ (let none : c ∷ more ≡ [] = sym (ap (λ piece. piece ++ more) k.stays) ∙ h in absurd cc)
    ]

same_rest : (piece a b : List ℕ) → piece ++ a ≡ piece ++ b → a ≡ b
same_rest [] a b h = h
same_rest (x ∷ piece) a b h = let tails : piece ++ a ≡ piece ++ b = cc in same_rest piece a b tails

pub read_in : (text other : List ℕ) → signed text ≡ signed other → text ≡ other
read_in [] [] h = refl
read_in [] (y ∷ other) h = absurd (filled y (signed other) (sym h))
read_in (x ∷ text) [] h = absurd (filled x (signed text) h)
read_in (x ∷ text) (y ∷ other) h =
    let same : x ≡ y = sym (first_back x (signed text)) ∙ ap first_read h ∙ first_back y (signed other) in
    ap₂ (λ (b : ℕ) (rest : List ℕ). b ∷ rest) same
    (read_in text other (same_rest (escape_sign x) (signed text) (signed other) (h ∙ ap (λ b. escape_sign b ++ signed other) (sym same))))
