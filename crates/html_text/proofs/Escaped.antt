-- An escaped text has no sign of markup except in names, is text that XML takes, and is read back.
use Rattle.std.proofs.Common.{◌≡◌, ◌⊎◌, ◌∙◌, ◌==◌, ◌++◌, ℕ, ◌<◌, Bool, true, false, cond, List, [], ◌∷◌, get_or, Contains, map, chars, encode_utf8_all, refl, sym, ap, ap₂, inl, inr, true≢false, append-nil, arith}
use Rattle.std.specs.Prelude.{codes}
use lib.Utf8.{scalar, scalars}
use Rattle.std.proofs.lemmas.Grind.{flat_map-append}
use Rattle.std.proofs.lemmas.List.{get_or_default, map-append}
use Rattle.std.specs.Char.{encode_utf8}
use Rattle.std.specs.List.{list_any, list_all}
use Rattle.std.specs.Str.Lossy.{utf8_lossy}
use Rattle.std.proofs.lemmas.Bool.{eq-eqb, eqb-true, or_parts, or_from, and_parts, and_from}
use Rattle.std.proofs.lemmas.Bool.Decides.{Decides-eqb}
use Rattle.std.proofs.lemmas.List.Folds.{list_any_at, list_any-append, list_all-append, Any-from_list_any}
use Rattle.std.proofs.lemmas.Str.{encodes-append, encodes_same, inside_one, chars-encodes, utf8_lossy-IsUtf8}
use Rattle.html_text.specs.Escapes.{is_xml_char, shown_char, shown, escape_sign, escape}
use Rattle.html_text.specs.EscapeLaws.{HasNoMarkup, IsXmlText, ShowsXmlText, ReadsBack, BeginsWith, IsNamed, NamesEachSign}
use Rattle.html_text.proofs.Signs.{signed, IsPlain, kinds, read_in}

-- characters as they are written, in UTF-8
abbrev written : List ℕ → List ℕ
written cs = encode_utf8_all (signed cs)

written-cons : (c : ℕ) (cs : List ℕ) → written (c ∷ cs) ≡ encode_utf8_all (escape_sign c) ++ written cs
written-cons c cs = encodes-append (escape_sign c) (signed cs)

-- one character more
pub written_more : (cs : List ℕ) (c : ℕ) → written (map shown_char (cs ++ c ∷ [])) ≡ written (map shown_char cs) ++ encode_utf8_all (escape_sign (shown_char c))
written_more cs c =
    ap written (map-append shown_char cs (c ∷ []))
    ∙ ap encode_utf8_all (flat_map-append escape_sign (map shown_char cs) (shown_char c ∷ []))
    ∙ encodes-append (signed (map shown_char cs)) (escape_sign (shown_char c) ++ [])
    ∙ ap (λ piece. written (map shown_char cs) ++ encode_utf8_all piece) (append-nil (escape_sign (shown_char c)))

-- ---- no sign of markup

abbrev has : ℕ → List ℕ → Bool
has sign text = list_any (λ b. b == sign) text

held : (sign : ℕ) (text : List ℕ) → Contains text sign → has sign text ≡ true
held sign text h = list_any_at (λ b. b == sign) text h.0 sign h.1 ((Decides-eqb _ sign).1 h.2)

absent : (sign : ℕ) (text : List ℕ) → has sign text ≡ false → Contains text sign → ⊥
absent sign text none h = true≢false (sym (held sign text h) ∙ none)

-- a character has no byte of ASCII but itself
lone : (sign c : ℕ) (found : Bool) → has sign (encode_utf8 c) ≡ found → sign < 128 → (c ≡ sign → ⊥) → found ≡ false
lone sign c false is low other = refl
lone sign c true is low other =
    let at = Any-from_list_any (λ b. b == sign) (encode_utf8 c) is in
    let found : get_or (encode_utf8 c) at.0 0 ≡ sign = get_or_default (encode_utf8 c) at.0 0 at.1 at.2 ∙ at.3 ∙ eqb-true at.1 sign at.4 in
    absurd (other (inside_one c [] (encode_utf8 c) at.0 (sym (append-nil (encode_utf8 c))) at.2 (omega (arith, found)) ∙ found))

-- a name is ASCII
amp : encode_utf8_all (codes "&amp;") ≡ codes "&amp;"
unfolding encode_utf8
amp = refl

lt : encode_utf8_all (codes "&lt;") ≡ codes "&lt;"
unfolding encode_utf8
lt = refl

gt : encode_utf8_all (codes "&gt;") ≡ codes "&gt;"
unfolding encode_utf8
gt = refl

quot : encode_utf8_all (codes "&quot;") ≡ codes "&quot;"
unfolding encode_utf8
quot = refl

apos : encode_utf8_all (codes "&#39;") ≡ codes "&#39;"
unfolding encode_utf8
apos = refl

with_name : (c : ℕ) (cs name : List ℕ) → escape_sign c ≡ name → encode_utf8_all name ≡ name → written (c ∷ cs) ≡ name ++ written cs
with_name c cs name is ascii =
    written-cons c cs ∙ ap (λ piece. encode_utf8_all piece ++ written cs) is ∙ ap (λ piece. piece ++ written cs) ascii

with_plain : (c : ℕ) (cs : List ℕ) → escape_sign c ≡ c ∷ [] → written (c ∷ cs) ≡ encode_utf8 c ++ written cs
with_plain c cs is =
    written-cons c cs ∙ ap (λ piece. encode_utf8_all piece ++ written cs) is ∙ ap (λ piece. piece ++ written cs) (append-nil (encode_utf8 c))

module _ (sign : ℕ) (low : sign < 128) (no_amp : has sign (codes "&amp;") ≡ false) (no_lt : has sign (codes "&lt;") ≡ false) (no_gt : has sign (codes "&gt;") ≡ false)
    (no_quot : has sign (codes "&quot;") ≡ false) (no_apos : has sign (codes "&#39;") ≡ false) (other : (c : ℕ) → IsPlain c → c ≡ sign → ⊥) where
  both : (piece rest text : List ℕ) → text ≡ piece ++ rest → has sign piece ≡ false → has sign rest ≡ false → has sign text ≡ false
  both piece rest text is first later = ap (has sign) is ∙ list_any-append (λ b. b == sign) piece rest ∙ or_from (has sign piece) (has sign rest) first later

  free : (cs : List ℕ) → has sign (written cs) ≡ false
  free [] = refl
  free (c ∷ cs) =
      elim (kinds c) [
        | inl k ↦ both (codes "&amp;") (written cs) (written (c ∷ cs)) (with_name c cs (codes "&amp;") k.1 amp) no_amp (free cs)
        | inr (inl k) ↦ both (codes "&lt;") (written cs) (written (c ∷ cs)) (with_name c cs (codes "&lt;") k.1 lt) no_lt (free cs)
        | inr (inr (inl k)) ↦ both (codes "&gt;") (written cs) (written (c ∷ cs)) (with_name c cs (codes "&gt;") k.1 gt) no_gt (free cs)
        | inr (inr (inr (inl k))) ↦ both (codes "&quot;") (written cs) (written (c ∷ cs)) (with_name c cs (codes "&quot;") k.1 quot) no_quot (free cs)
        | inr (inr (inr (inr (inl k)))) ↦ both (codes "&#39;") (written cs) (written (c ∷ cs)) (with_name c cs (codes "&#39;") k.1 apos) no_apos (free cs)
        | inr (inr (inr (inr (inr k)))) ↦
            both (encode_utf8 c) (written cs) (written (c ∷ cs)) (with_plain c cs k.stays) (lone sign c (has sign (encode_utf8 c)) refl low (other c k)) (free cs)
      ]

-- an escaped text has none of < > " and '
pub opens_none : (text : List ℕ) → list_any (λ b. b == 60) (escape text) ≡ false
opens_none text = free 60 (omega arith) refl refl refl refl refl (λ c k. k.not_lt) (shown text)

pub closes_none : (text : List ℕ) → list_any (λ b. b == 62) (escape text) ≡ false
closes_none text = free 62 (omega arith) refl refl refl refl refl (λ c k. k.not_gt) (shown text)

pub quotes_none : (text : List ℕ) → list_any (λ b. b == 34) (escape text) ≡ false
quotes_none text = free 34 (omega arith) refl refl refl refl refl (λ c k. k.not_quot) (shown text)

pub apostrophes_none : (text : List ℕ) → list_any (λ b. b == 39) (escape text) ≡ false
apostrophes_none text = free 39 (omega arith) refl refl refl refl refl (λ c k. k.not_apos) (shown text)

pub no_markup : (text : List ℕ) → HasNoMarkup (escape text)
no_markup text = record {
  opens_none = absent 60 (escape text) (opens_none text);
  closes_none = absent 62 (escape text) (closes_none text);
  ends_none = absent 34 (escape text) (quotes_none text);
  ends_no_other = absent 39 (escape text) (apostrophes_none text);
}

-- ---- each & begins a name

-- a & that isn't in the first piece is in the rest
past : (piece more before after : List ℕ) → has 38 piece ≡ false → piece ++ more ≡ before ++ 38 ∷ after → (rest : List ℕ) × (more ≡ rest ++ 38 ∷ after)
past [] more before after none h = (before, h)
past (x ∷ piece) more [] after none h =
    let same : x ≡ 38 = cc in
    absurd (true≢false (sym (eq-eqb x 38 same) ∙ (or_parts (x == 38) (has 38 piece) none).0))
past (x ∷ piece) more (y ∷ before) after none h =
    let tails : piece ++ more ≡ before ++ 38 ∷ after = cc in
    past piece more before after (or_parts (x == 38) (has 38 piece) none).1 tails

-- the & of a name, or a later one
name_or_later : (name more before after : List ℕ) → has 38 name ≡ false → 38 ∷ (name ++ more) ≡ before ++ 38 ∷ after → BeginsWith after name ⊎ ((rest : List ℕ) × (more ≡ rest ++ 38 ∷ after))
name_or_later name more [] after none h = let same : after ≡ name ++ more = cc in inl (more, same)
name_or_later name more (y ∷ before) after none h =
    let tails : name ++ more ≡ before ++ 38 ∷ after = cc in
    inr (past name more before after none tails)

names_in : (cs before after : List ℕ) → written cs ≡ before ++ 38 ∷ after → IsNamed after
names_in [] [] after h = absurd cc
names_in [] (x ∷ before) after h = absurd cc
names_in (c ∷ cs) before after h =
    elim (kinds c) [
      | inl k ↦ elim (name_or_later (codes "amp;") (written cs) before after refl (sym (with_name c cs (codes "&amp;") k.1 amp) ∙ h)) [
        | inl named ↦ inl named
        | inr later ↦ names_in cs later.0 after later.1
      ]
      | inr (inl k) ↦ elim (name_or_later (codes "lt;") (written cs) before after refl (sym (with_name c cs (codes "&lt;") k.1 lt) ∙ h)) [
        | inl named ↦ inr (inl named)
        | inr later ↦ names_in cs later.0 after later.1
      ]
      | inr (inr (inl k)) ↦ elim (name_or_later (codes "gt;") (written cs) before after refl (sym (with_name c cs (codes "&gt;") k.1 gt) ∙ h)) [
        | inl named ↦ inr (inr (inl named))
        | inr later ↦ names_in cs later.0 after later.1
      ]
      | inr (inr (inr (inl k))) ↦ elim (name_or_later (codes "quot;") (written cs) before after refl (sym (with_name c cs (codes "&quot;") k.1 quot) ∙ h)) [
        | inl named ↦ inr (inr (inr (inl named)))
        | inr later ↦ names_in cs later.0 after later.1
      ]
      | inr (inr (inr (inr (inl k)))) ↦ elim (name_or_later (codes "#39;") (written cs) before after refl (sym (with_name c cs (codes "&#39;") k.1 apos) ∙ h)) [
        | inl named ↦ inr (inr (inr (inr named)))
        | inr later ↦ names_in cs later.0 after later.1
      ]
      | inr (inr (inr (inr (inr k)))) ↦
          (let later = past (encode_utf8 c) (written cs) before after (lone 38 c (has 38 (encode_utf8 c)) refl (omega arith) k.not_amp) (sym (with_plain c cs k.stays) ∙ h) in
          names_in cs later.0 after later.1)
    ]

pub names_each_sign : NamesEachSign
names_each_sign text before after h = names_in (shown text) before after h

-- ---- text that XML takes

xml_sign : (c : ℕ) → is_xml_char c ≡ true → list_all is_xml_char (escape_sign c) ≡ true
xml_sign c is =
    elim (kinds c) [
      | inl k ↦ ap (list_all is_xml_char) k.1
      | inr (inl k) ↦ ap (list_all is_xml_char) k.1
      | inr (inr (inl k)) ↦ ap (list_all is_xml_char) k.1
      | inr (inr (inr (inl k))) ↦ ap (list_all is_xml_char) k.1
      | inr (inr (inr (inr (inl k)))) ↦ ap (list_all is_xml_char) k.1
      | inr (inr (inr (inr (inr k)))) ↦ ap (list_all is_xml_char) k.stays ∙ and_from (is_xml_char c) true is refl
    ]

xml_shown : (c : ℕ) (xml : Bool) → is_xml_char c ≡ xml → is_xml_char (cond xml c 0xFFFD) ≡ true
xml_shown c true is = is
xml_shown c false is = refl

all_xml : (cs : List ℕ) → list_all is_xml_char (signed (map shown_char cs)) ≡ true
all_xml [] = refl
all_xml (c ∷ cs) =
    list_all-append is_xml_char (escape_sign (shown_char c)) (signed (map shown_char cs))
    ∙ and_from (list_all is_xml_char (escape_sign (shown_char c))) (list_all is_xml_char (signed (map shown_char cs)))
    (xml_sign (shown_char c) (xml_shown c (is_xml_char c) refl)) (all_xml cs)

pub is_xml : (text : List ℕ) → IsXmlText (escape text)
is_xml text = (signed (shown text), all_xml (chars (utf8_lossy text)), refl)

-- ---- read back

pub reads_back : ReadsBack
reads_back text other h = read_in (shown text) (shown other) (encodes_same (signed (shown text)) (signed (shown other)) h)

kept : (cs : List ℕ) → list_all is_xml_char cs ≡ true → map shown_char cs ≡ cs
kept [] all = refl
kept (c ∷ cs) all =
    let parts = and_parts (is_xml_char c) (list_all is_xml_char cs) all in
    ap₂ (λ (a : ℕ) (rest : List ℕ). a ∷ rest) (ap (λ b. cond b c 0xFFFD) parts.0) (kept cs parts.1)

scalar_of : (c : ℕ) → is_xml_char c ≡ true → scalar c ≡ true
scalar_of c is = grind (arith, is)

scalars_of : (cs : List ℕ) → list_all is_xml_char cs ≡ true → scalars cs ≡ true
scalars_of [] all = refl
scalars_of (c ∷ cs) all =
    let parts = and_parts (is_xml_char c) (list_all is_xml_char cs) all in
    and_from (scalar c) (scalars cs) (scalar_of c parts.0) (scalars_of cs parts.1)

pub shows_xml_text : ShowsXmlText
shows_xml_text cs all =
    let scalar = scalars_of cs all in
    ap (λ text. map shown_char (chars text)) (utf8_lossy-IsUtf8 (encode_utf8_all cs) (cs, (scalar, refl)))
    ∙ ap (map shown_char) (chars-encodes cs scalar)
    ∙ kept cs all
