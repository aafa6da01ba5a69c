-- What is written plainly is read back.
use Rattle.std.proofs.Common.{◌≡◌, ℕ, true, false, List, [], ◌∷◌, ◌++◌, filter, flat_map, Option, None, Ok, refl, ap, ap₂, sym, ◌∙◌, inl, inr}
use Rattle.std.specs.List.{list_all}
use Rattle.std.proofs.lemmas.Bool.{and_parts}
use Rattle.std.proofs.lemmas.List.Folds.{list_all-append}
use Rattle.byte_text.specs.Lines.{line_of}
use Rattle.pbn_text.specs.declared.fault.Syntax.{Syntax}
use Rattle.pbn_text.specs.Games.{GameValue}
use Rattle.pbn_text.specs.Pieces.{Piece}
use Rattle.pbn_text.specs.Grammar.{has_tag, first_fault, games_in, or_fault, unless_fault, without_mark, text_read, games_read}
use Rattle.pbn_text.specs.Reading.{games_with}
use Rattle.pbn_text.proofs.Collected.{text_read-collected}
use Rattle.pbn_plain.specs.PlainText.{PlainGroup, group_text, plain_text, IsTextOf, byte_order_mark}
use Rattle.pbn_plain.specs.WellWritten.{is_text_byte, is_plain_group, are_parted, is_well_written}
use Rattle.pbn_plain.specs.Numbered.{groups_from, numbered}
use Rattle.pbn_plain.proofs.Groups.{text_pieces, groups_read, games_same, no_faults}
use Rattle.pbn_plain.proofs.OpenLines.{groups_open}
use Rattle.pbn_plain.proofs.Texts.{is_text, no_mark, groups_are_text, no_text_fault-none, without_mark-none, groups_no_mark}

text_back : (groups : List PlainGroup) → list_all is_plain_group groups ≡ true → are_parted groups ≡ true → text_read (flat_map group_text groups) ≡ Ok (filter has_tag (groups_from 1 groups))
unfolding text_read
text_back groups plain parted =
    let all = text_pieces 1 groups in
    ap (λ (found : List Piece). or_fault (first_fault false found) (games_in found)) (groups_read 1 groups plain)
    ∙ ap₂ (λ (found : Option (ℕ × Syntax)) (games : List GameValue). or_fault found games) (no_faults 1 groups plain parted) (games_same 1 groups parted)

-- the same where the last line has no end
open_text-back : (groups : List PlainGroup) (text : List ℕ) → list_all is_plain_group groups ≡ true → are_parted groups ≡ true → line_of text ≡ flat_map group_text groups → text_read text ≡ Ok (filter has_tag (groups_from 1 groups))
open_text-back groups text plain parted is =
    sym (text_read-collected text) ∙ groups_open 1 groups text plain is [] [] None ∙ ap (games_with [] [] None) (sym (groups_read 1 groups plain)) ∙ text_read-collected (flat_map group_text groups) ∙ text_back groups plain parted

-- what is read of a text, whose bytes all may stand in one
record IsRead (text : List ℕ) (groups : List PlainGroup) : Type 0 where
  pub bytes : is_text text ≡ true
  pub first : no_mark text ≡ true
  pub read : text_read text ≡ Ok (numbered groups)

either_text : (groups : List PlainGroup) (text : List ℕ) → is_well_written groups ≡ true → IsTextOf text groups → IsRead text groups
unfolding plain_text is_well_written numbered
either_text groups text written (inl is) =
    let parts = and_parts (list_all is_plain_group groups) (are_parted groups) written in
    record { bytes = ap is_text is ∙ groups_are_text groups parts.0; first = ap no_mark is ∙ groups_no_mark groups parts.0; read = ap text_read is ∙ text_back groups parts.0 parts.1 }
either_text groups text written (inr is) =
    let parts = and_parts (list_all is_plain_group groups) (are_parted groups) written in
    record {
      bytes = front_text text (ap is_text is ∙ groups_are_text groups parts.0);
      first = front_no_mark text (ap no_mark is ∙ groups_no_mark groups parts.0);
      read = open_text-back groups text parts.0 parts.1 is;
    } where
      front_text : (text : List ℕ) → is_text (line_of text) ≡ true → is_text text ≡ true
      front_text text whole = (and_parts (is_text text) (is_text (10 ∷ [])) (sym (list_all-append is_text_byte text (10 ∷ [])) ∙ whole)).0

      front_no_mark : (text : List ℕ) → no_mark (line_of text) ≡ true → no_mark text ≡ true
      front_no_mark [] whole = refl
      front_no_mark (byte ∷ text) whole = whole

pub plain_text-read : (groups : List PlainGroup) (text : List ℕ) → is_well_written groups ≡ true → IsTextOf text groups → games_read text ≡ Ok (numbered groups)
unfolding games_read
plain_text-read groups text written is =
    let found = either_text groups text written is in
    ap (λ (fault : Option (ℕ × Syntax)). unless_fault fault (text_read (without_mark text))) (no_text_fault-none text found.bytes) ∙ ap text_read (without_mark-none text found.first) ∙ found.read

pub marked_text-read : (groups : List PlainGroup) (text : List ℕ) → is_well_written groups ≡ true → IsTextOf text groups → games_read (byte_order_mark ++ text) ≡ Ok (numbered groups)
unfolding games_read
marked_text-read groups text written is =
    let found = either_text groups text written is in
    ap (λ (fault : Option (ℕ × Syntax)). unless_fault fault (text_read text)) (no_text_fault-none (byte_order_mark ++ text) found.bytes) ∙ found.read
