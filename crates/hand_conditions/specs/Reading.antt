-- What the text of a condition means.
use Rattle.std.specs.Prelude.{◌≡◌, ℕ, ◌+◌, Bool, ◌||◌, ◌==◌, nat_le, Option, None, Some, Result, Ok, Err, List, [], ◌∷◌, ◌++◌, take, drop, position, ok_or, option_map, option_and_then, bytes_eq, codes, ◌⊎◌, if◌then◌else◌}
use Rattle.std.specs.List.{slice_split}
use Rattle.card_sets.specs.declared.card.Suit.TheVariants.{Spades, Hearts, Diamonds, Clubs}
use Rattle.card_sets.specs.SetWords.{has_card, cards_where}
use Rattle.card_letters.specs.Letters.{card_read}
use Rattle.byte_text.specs.Blanks.{words}
use Rattle.byte_text.specs.Numerals.{number_within}
use Rattle.byte_text.specs.Steps.{◌>>=◌}
use Rattle.hand_conditions.specs.declared.fault.TermFault.{TermFault}
use Rattle.hand_conditions.specs.declared.fault.TermFault.TheVariants.{NotUnderstood, UpsideDown}
use Rattle.hand_conditions.specs.declared.fault.ConditionFault.{ConditionFault}
use Rattle.hand_conditions.specs.declared.fault.ConditionFault.TheVariants.{Memory}
use Rattle.hand_conditions.specs.declared.fault.ConditionFault.TheVariants as fault
use Rattle.hand_conditions.specs.declared.span.Span.{Span}
use Rattle.hand_conditions.specs.declared.term.Measure.{Measure}
use Rattle.hand_conditions.specs.declared.term.Measure.TheVariants.{Points, Length}
use Rattle.hand_conditions.specs.declared.term.Term.{Term}
use Rattle.hand_conditions.specs.declared.term.Term.TheVariants.{Count, Balanced, Holds, Lacks}

-- ---- "15-17", "5+" and "4"

-- what stands before the first such byte of a text, and what follows it
abbrev pub cut_at : ℕ → List ℕ → Option (List ℕ × List ℕ)
cut_at mark text = option_map (λ place. (take place text, drop (place + 1) text)) (position (λ byte. byte == mark) text)

-- a number from 0 to 99, without leading zeros
abbrev pub count_read : List ℕ → Option ℕ
count_read digits = number_within 0 99 digits

-- from one number to another
abbrev pub span_between : Option ℕ → Option ℕ → Result Span TermFault
span_between (Some least) (Some most) = if nat_le least most then Ok (record { least = least; most = most }) else Err UpsideDown
span_between _ _ = Err NotUnderstood

-- at least a number, or exactly that number
abbrev pub span_from : Option (List ℕ × List ℕ) → List ℕ → Result Span TermFault
span_from None word = span_between (count_read word) (count_read word)
span_from (Some cut) word = if bytes_eq cut.1 [] then span_between (count_read cut.0) (Some 99) else Err NotUnderstood

-- from a number to another if there is a dash
abbrev pub span_of : Option (List ℕ × List ℕ) → List ℕ → Result Span TermFault
span_of (Some cut) word = span_between (count_read cut.0) (count_read cut.1)
span_of None word = span_from (cut_at 43 word) word

-- the span that a word tells: "15-17", "5+" or "4"
unfoldable pub span_read : List ℕ → Result Span TermFault
span_read word = span_of (cut_at 45 word) word

-- ---- terms

-- what a word names of what is counted
unfoldable pub measure_named : List ℕ → Option Measure
measure_named word =
    if bytes_eq word (codes "hcp") then Some Points
    else if bytes_eq word (codes "spades") then Some (Length Spades)
    else if bytes_eq word (codes "hearts") then Some (Length Hearts)
    else if bytes_eq word (codes "diamonds") then Some (Length Diamonds)
    else if bytes_eq word (codes "clubs") then Some (Length Clubs)
    else None

-- a number and what is counted
abbrev pub count_term : List ℕ → List (List ℕ) → Result Term TermFault
count_term number (word ∷ []) = do
  measure ← ok_or (measure_named word) NotUnderstood
  span ← span_read number
  Ok (Count measure span)
count_term number _ = Err NotUnderstood

-- no word follows
abbrev pub balanced_term : List (List ℕ) → Result Term TermFault
balanced_term [] = Ok Balanced
balanced_term (word ∷ more) = Err NotUnderstood

-- the card that a word of two letters names
abbrev pub card_named : List ℕ → Option ℕ
card_named (suit ∷ rank ∷ []) = card_read suit rank
card_named _ = None

-- these cards and those that the words name, if each word names one
abbrev pub cards_named : List ℕ → List (List ℕ) → Option (List ℕ)
cards_named cards [] = Some cards
cards_named cards (word ∷ more) = option_and_then (λ card. cards_named (cards_where (λ c. has_card cards c || (c == card))) more) (card_named word)

-- at least one card
abbrev pub some_cards : Option (List ℕ) → Result (List ℕ) TermFault
some_cards (Some (card ∷ cards)) = Ok (card ∷ cards)
some_cards _ = Err NotUnderstood

-- the term that a first word and those that follow it tell
unfoldable pub term_of : List ℕ → List (List ℕ) → Result Term TermFault
term_of first more =
    if bytes_eq first (codes "balanced") then balanced_term more
    else if bytes_eq first (codes "holds") then some_cards (cards_named [] more) >>= (λ cards. Ok (Holds cards))
    else if bytes_eq first (codes "lacks") then some_cards (cards_named [] more) >>= (λ cards. Ok (Lacks cards))
    else count_term first more

-- the term that words tell
abbrev pub term_read : List (List ℕ) → Result Term TermFault
term_read [] = Err NotUnderstood
term_read (first ∷ more) = term_of first more

-- ---- conditions

-- a comma
abbrev pub is_comma : ℕ → Bool
is_comma byte = byte == 44

-- terms in front of others
abbrev pub before_terms : List Term → Result (List Term) ConditionFault → Result (List Term) ConditionFault
before_terms terms (Ok others) = Ok (terms ++ others)
before_terms terms (Err fault) = Err fault

-- the refusal of a term, as it stands between the commas
abbrev pub term_refused : List ℕ → TermFault → Result (List Term) ConditionFault
term_refused piece why = Err (fault.Term piece why)

-- a term that was read from this piece, and then the others
abbrev pub term_and : List ℕ → Result Term TermFault → Result (List Term) ConditionFault → Result (List Term) ConditionFault
term_and piece (Ok term) others = before_terms (term ∷ []) others
term_and piece (Err why) others = term_refused piece why

-- the terms that pieces of text tell, or the first piece that tells none
abbrev pub terms_read : List (List ℕ) → Result (List Term) ConditionFault
terms_read [] = Ok []
terms_read (piece ∷ pieces) = term_and piece (term_read (words piece)) (terms_read pieces)

-- the terms of a condition's text, with commas between them, or the first piece that is no term
unfoldable pub condition_read : List ℕ → Result (List Term) ConditionFault
condition_read text = terms_read (slice_split is_comma text)

-- a fault that may come in place of this condition: a failed allocation, or the term that isn't understood
abbrev pub IsConditionFaultOf : Result (List Term) ConditionFault → ConditionFault → Type 0
IsConditionFaultOf expected fault = (fault ≡ Memory) ⊎ (expected ≡ Err fault)
