-- What an escaped text has, and that it is read back.
use Rattle.std.specs.Prelude.{◌≡◌, ◌⊎◌, ℕ, true, List, ◌∷◌, ◌++◌, codes, Contains, encode_utf8_all}
use Rattle.std.specs.List.{list_all}
use Rattle.html_text.specs.Escapes.{is_xml_char, shown, escape}

-- an escaped text opens no tag, closes none, and ends no value of an attribute
pub record HasNoMarkup (escaped : List ℕ) : Type 0 where
  pub opens_none : ¬ Contains escaped 60
  pub closes_none : ¬ Contains escaped 62
  pub ends_none : ¬ Contains escaped 34
  pub ends_no_other : ¬ Contains escaped 39

-- the bytes are UTF-8, and of characters of XML alone
abbrev pub IsXmlText : List ℕ → Type 0
IsXmlText bytes = (cs : List ℕ) × (list_all is_xml_char cs ≡ true) × (encode_utf8_all cs ≡ bytes)

-- such a text is shown whole
abbrev pub ShowsXmlText : Type 0
ShowsXmlText = (cs : List ℕ) → list_all is_xml_char cs ≡ true → shown (encode_utf8_all cs) ≡ cs

-- two texts are written alike only if they show the same
abbrev pub ReadsBack : Type 0
ReadsBack = (text other : List ℕ) → escape text ≡ escape other → shown text ≡ shown other

-- the text begins with these bytes
abbrev pub BeginsWith : List ℕ → List ℕ → Type 0
BeginsWith text piece = (rest : List ℕ) × (text ≡ piece ++ rest)

-- what follows a & of an escaped text is one of the five names
abbrev pub IsNamed : List ℕ → Type 0
IsNamed after = BeginsWith after (codes "amp;") ⊎ (BeginsWith after (codes "lt;") ⊎ (BeginsWith after (codes "gt;") ⊎ (BeginsWith after (codes "quot;") ⊎ BeginsWith after (codes "#39;"))))

abbrev pub NamesEachSign : Type 0
NamesEachSign = (text before after : List ℕ) → escape text ≡ before ++ 38 ∷ after → IsNamed after
