-- What the kinds of bytes have to do with each other.
use Rattle.std.proofs.Common.{◌≡◌, ℕ, Bool, true, false, not, ◌||◌, List, [], ◌∷◌, refl, ap, arith, inl, inr, ◌∙◌}
use Rattle.std.specs.Prelude.{◌==◌, codes}
use Rattle.std.specs.List.{list_all}
use Rattle.std.proofs.lemmas.Bool.{and_parts, not-true, not_from_false, or_parts, eqb-true, or_cases}
use Rattle.std.proofs.lemmas.Bool.Decides.{nat_tests}
use Rattle.byte_text.specs.Blanks.{is_blank}
use Rattle.byte_text.specs.Lines.{is_line_end}
use Rattle.pbn_text.specs.Pieces.{ends_name, ends_token}
use Rattle.pbn_text.specs.Grammar.{is_no_text}
use Rattle.pbn_plain.specs.PlainText.{is_one_of, needs_backslash}
use Rattle.pbn_plain.specs.WellWritten.{is_text_byte, is_line_byte, is_word_byte, is_comment_byte, is_name_letter}

-- a byte among others passes what they all pass
among : (p : ℕ → Bool) (bytes : List ℕ) (byte : ℕ) → list_all p bytes ≡ true → is_one_of bytes byte ≡ true → p byte ≡ true
among p [] byte each is = absurd cc
among p (b ∷ bytes) byte each is =
    let parts = and_parts (p b) (list_all p bytes) each in
    elim (or_cases (byte == b) (is_one_of bytes byte) is) [
      | inl here ↦ ap p (eqb-true byte b here) ∙ parts.0
      | inr there ↦ among p bytes byte parts.1 there
    ]

pub text-allowed : (byte : ℕ) → is_text_byte byte ≡ true → not (is_no_text byte) ≡ true
text-allowed byte is = grind (arith, nat_tests)

pub blank-inside : (byte : ℕ) → is_blank byte ≡ true → is_line_end byte ≡ false
blank-inside byte is = grind (arith, nat_tests)

pub blank-text : (byte : ℕ) → is_blank byte ≡ true → is_text_byte byte ≡ true
blank-text byte is = grind (arith, nat_tests)

pub blank-kept : (byte : ℕ) → is_blank byte ≡ true → (byte == 37) ≡ false
blank-kept byte is = grind (arith, nat_tests)

pub blank-ends_token : (byte : ℕ) → is_blank byte ≡ true → ends_token byte ≡ true
blank-ends_token byte is = grind (arith, nat_tests)

pub blank-ends_name : (byte : ℕ) → is_blank byte ≡ true → ends_name byte ≡ true
blank-ends_name byte is = grind (arith, nat_tests)

letters : List ℕ
letters = codes "ABCDEFGHIJKLMNOPQRSTUVWXYZabcdefghijklmnopqrstuvwxyz0123456789_"

pub name-no_blank : (byte : ℕ) → is_name_letter byte ≡ true → is_blank byte ≡ false
unfolding letters
name-no_blank byte is = not-true (is_blank byte) (among (λ b. not (is_blank b)) letters byte refl is)

pub name-text : (byte : ℕ) → is_name_letter byte ≡ true → is_text_byte byte ≡ true
unfolding letters
name-text byte is = among is_text_byte letters byte refl is

pub name-stays : (byte : ℕ) → is_name_letter byte ≡ true → not (ends_name byte) ≡ true
unfolding letters
name-stays byte is = among (λ b. not (ends_name b)) letters byte refl is

pub line-text : (byte : ℕ) → is_line_byte byte ≡ true → is_text_byte byte ≡ true
line-text byte is = (and_parts (is_text_byte byte) (not (is_line_end byte)) is).0

pub line-inside : (byte : ℕ) → is_line_byte byte ≡ true → not (is_line_end byte) ≡ true
line-inside byte is = (and_parts (is_text_byte byte) (not (is_line_end byte)) is).1

-- what doesn't end a token, test by test
pub record InToken (byte : ℕ) : Type 0 where
  pub blank : is_blank byte ≡ false
  pub line_end : is_line_end byte ≡ false
  pub bracket : (byte == 91) ≡ false
  pub brace : (byte == 123) ≡ false
  pub semicolon : (byte == 59) ≡ false
  pub quote : (byte == 34) ≡ false

pub in_token : (byte : ℕ) → ends_token byte ≡ false → InToken byte
in_token byte is =
    let last = or_parts (is_blank byte || is_line_end byte || byte == 91 || byte == 123 || byte == 59) (byte == 34) is in
    let next = or_parts (is_blank byte || is_line_end byte || byte == 91 || byte == 123) (byte == 59) last.0 in
    let third = or_parts (is_blank byte || is_line_end byte || byte == 91) (byte == 123) next.0 in
    let second = or_parts (is_blank byte || is_line_end byte) (byte == 91) third.0 in
    let first = or_parts (is_blank byte) (is_line_end byte) second.0 in
    record { blank = first.0; line_end = first.1; bracket = second.1; brace = third.1; semicolon = next.1; quote = last.1 }

breaks : List ℕ
breaks = codes " \t\r\n[{;\""

no_break : (byte : ℕ) → is_one_of breaks byte ≡ false → not (ends_token byte) ≡ true
unfolding breaks
no_break byte none = grind (arith, nat_tests)

pub word-text : (byte : ℕ) → is_word_byte byte ≡ true → is_text_byte byte ≡ true
unfolding breaks
word-text byte is = (and_parts (is_text_byte byte) (not (is_one_of breaks byte)) is).0

pub word-stays : (byte : ℕ) → is_word_byte byte ≡ true → not (ends_token byte) ≡ true
unfolding breaks
word-stays byte is = no_break byte (not-true (is_one_of breaks byte) (and_parts (is_text_byte byte) (not (is_one_of breaks byte)) is).1)

pub word-inside : (byte : ℕ) → is_word_byte byte ≡ true → not (is_line_end byte) ≡ true
word-inside byte is = not_from_false (is_line_end byte) (in_token byte (not-true (ends_token byte) (word-stays byte is))).line_end

pub comment-text : (byte : ℕ) → is_comment_byte byte ≡ true → is_text_byte byte ≡ true
comment-text byte is = (and_parts (is_text_byte byte) (not (is_one_of (codes "}") byte)) is).0

pub comment-stays : (byte : ℕ) → is_comment_byte byte ≡ true → not (byte == 125) ≡ true
comment-stays byte is =
    let other = not-true (is_one_of (codes "}") byte) (and_parts (is_text_byte byte) (not (is_one_of (codes "}") byte)) is).1 in
    not_from_false (byte == 125) (or_parts (byte == 125) false other).0

-- neither a quote nor a backslash
pub record IsItself (byte : ℕ) : Type 0 where
  pub quote : (byte == 34) ≡ false
  pub backslash : (byte == 92) ≡ false

pub is_itself : (byte : ℕ) → needs_backslash byte ≡ false → IsItself byte
is_itself byte other =
    let one = or_parts (byte == 34) (is_one_of (codes "\\") byte) other in
    record { quote = one.0; backslash = (or_parts (byte == 92) false one.1).0 }
