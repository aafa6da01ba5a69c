-- The Play section: which tokens count, and the entries that they make.
use Rattle.std.specs.Prelude.{ℕ, Bool, true, false, not, ◌&&◌, ◌⊎◌, ◌≡◌, Option, None, Some, is_some, Result, Ok, Err, List, [], ◌∷◌, ◌++◌, map, filter, find, if◌then◌else◌}
use Rattle.std.specs.List.{list_any}
use Rattle.pbn_text.specs.Games.{TokenValue}
use Rattle.pbn_deal.specs.declared.fault.BoardFault.TheVariants.{PlayCard}
use Rattle.pbn_deal.specs.declared.fault.BoardRefusal.{BoardRefusal}
use Rattle.pbn_deal.specs.declared.fault.BoardRefusal.TheVariants.{Fault, Memory}
use Rattle.pbn_deal.specs.declared.mark.Mark.{Mark}
use Rattle.pbn_deal.specs.declared.mark.Mark.TheVariants.{End, Plus, Note, Card, Other}
use Rattle.pbn_deal.specs.declared.section.Entry.{Entry}
use Rattle.pbn_deal.specs.Marks.{mark_of}

-- a star, which ends the section
abbrev pub is_end : Mark → Bool
is_end End = true
is_end _ = false

-- a plus sign
abbrev pub is_plus : Mark → Bool
is_plus Plus = true
is_plus _ = false

-- a note, which is skipped
abbrev pub is_skipped_mark : Mark → Bool
is_skipped_mark Note = true
is_skipped_mark _ = false

-- neither a card nor anything else that the section may have
abbrev pub is_other : Mark → Bool
is_other Other = true
is_other _ = false

-- the card that a token says
abbrev pub card_marked : Mark → Option ℕ
card_marked (Card card) = Some card
card_marked _ = None

-- whether a token is a card
abbrev pub is_card : TokenValue → Bool
is_card token = is_some (card_marked (mark_of token.text))

-- the tokens before the first `*`
abbrev pub before_end : List TokenValue → List TokenValue
before_end [] = []
before_end (token ∷ rest) = if is_end (mark_of token.text) then [] else token ∷ before_end rest

-- the tokens before the first `+` that has no card after it
abbrev pub before_last_plus : List TokenValue → List TokenValue
before_last_plus [] = []
before_last_plus (token ∷ rest) = if is_plus (mark_of token.text) && not (list_any is_card rest) then [] else token ∷ before_last_plus rest

-- the tokens of a Play section that count
abbrev pub section_of : List TokenValue → List TokenValue
section_of tokens = before_last_plus (filter (λ token. not (is_skipped_mark (mark_of token.text))) (before_end tokens))

-- a token as an entry of a row: a card, or none yet
abbrev pub entry_of : TokenValue → Entry
entry_of token = record { card = card_marked (mark_of token.text); line = token.line }

-- a token that is no card if there is one, and otherwise the entries
abbrev pub unless_other : Option TokenValue → List Entry → Result (List Entry) BoardRefusal
unless_other None entries = Ok entries
unless_other (Some token) entries = Err (Fault token.line PlayCard)

-- the entries of a section, or the first token of it that is neither a card nor a dash
unfoldable pub section_read : List TokenValue → Result (List Entry) BoardRefusal
section_read tokens = unless_other (find (λ token. is_other (mark_of token.text)) (section_of tokens)) (map entry_of (section_of tokens))

-- a list read, with more at its front
abbrev pub prepend : {A E : Type 0} → List A → Result (List A) E → Result (List A) E
prepend front (Ok rest) = Ok (front ++ rest)
prepend front (Err refusal) = Err refusal

-- a refusal that may come in place of this reading: a failed allocation, or the refusal of what is read
abbrev pub IsRefusalOf : {A : Type 0} → Result A BoardRefusal → BoardRefusal → Type 0
IsRefusalOf expected refusal = (refusal ≡ Memory) ⊎ (expected ≡ Err refusal)
