-- An entry that is put at the end.
use Rattle.std.proofs.Common.{◌≡◌, ℕ, List, [], ◌∷◌, ◌++◌, length, map, sym, arith, get_or, inl, inr}
use Rattle.std.proofs.lemmas.List.{map-append, get_or_push, get_or_append_left, get_or_default, length_push}
use Rattle.std.proofs.lemmas.Bool.{cases_order}
use Rattle.front_table.specs.Entries.{StoredFrontValue, HasKey, HasKeysOnce, IsOfKey}
use Rattle.front_table.proofs.Looking.{key_digest}

pub digests-push : (digests later : List ℕ) (list : List StoredFrontValue) (e : StoredFrontValue) (digest : ℕ) → digests ≡ map key_digest list → digest ≡ key_digest e → later ≡ digests ++ digest ∷ []
    → later ≡ map key_digest (list ++ e ∷ [])
digests-push digests later list e digest kept is more = rw (more, kept, is, map-append) (λ i. map key_digest list ++ key_digest e ∷ [])

pub once-push : (list : List StoredFrontValue) (e : StoredFrontValue) → HasKeysOnce list → (¬ HasKey list e.node e.moves) → HasKeysOnce (list ++ e ∷ [])
once-push list e once new i j d before within same =
    let long = length_push list e in
    let first : get_or (list ++ e ∷ []) i d ≡ get_or list i d = get_or_append_left list (e ∷ []) d i (omega arith) in
    elim (cases_order j (length list)) [
      | inl last ↦
          let there : get_or (list ++ e ∷ []) j d ≡ e = get_or_push list e d j (sym last) in
          let f = get_or list i d in
          let key : IsOfKey f.node f.moves e = rw (← there) (rw (← first) same) in
          new (f, (i, omega arith, get_or_default list i f d (omega arith)), record { node = sym key.node; moves = sym key.moves })
      | inr (inl below) ↦ once i j d before below (rw (← get_or_append_left list (e ∷ []) d j below) (rw (← first) same))
      | inr (inr above) ↦ absurd (omega arith)
    ]
