-- What the lines of a log say, one after another.
use Rattle.std.proofs.Common.{◌≡◌, ℕ, ◌+◌, ◌≤◌, true, false, Some, None, Result, Ok, Err, List, [], ◌∷◌, ◌++◌, length, refl, sym, ap, ◌∙◌, arith, append_assoc, append-nil}
use Rattle.byte_text.specs.Steps.{◌>>=◌}
use Rattle.log_check.specs.declared.lines.LogLine.{LogLine}
use Rattle.log_texts.specs.Reading.{pieces_at, words_said, line_said, is_end, lines_read}
use Rattle.log_texts.proofs.Cut.{pieces_of}

-- what is read after these lines
abbrev pub lines_after : List LogLine → Result (List LogLine) ℕ → Result (List LogLine) ℕ
lines_after earlier (Ok later) = Ok (earlier ++ later)
lines_after earlier (Err number) = Err number

pub lines_start : (read : Result (List LogLine) ℕ) → read ≡ lines_after [] read
lines_start (Ok lines) = refl
lines_start (Err number) = refl

both_after : (earlier : List LogLine) (line : LogLine) (read : Result (List LogLine) ℕ)
    → lines_after earlier (read >>= λ lines. Ok (line ∷ lines)) ≡ lines_after (earlier ++ line ∷ []) read
both_after earlier line (Ok lines) = ap (λ (all : List LogLine). Ok all) (sym (append_assoc earlier (line ∷ []) lines))
both_after earlier line (Err number) = refl

-- a line and those behind it
pub line_and_more : (number : ℕ) (text rest : List ℕ) (line : LogLine) → is_end number text ≡ false → line_said text ≡ Some line
    → lines_read number (text ∷ pieces_at 10 rest) ≡ (lines_read (number + 1) (pieces_at 10 rest) >>= λ lines. Ok (line ∷ lines))
line_and_more number text rest line goes_on said = let all = pieces_of 10 rest in rw (all.are, goes_on, said) refl

module _ (number : ℕ) (whole : Result (List LogLine) ℕ) (earlier : List LogLine) (rest text : List ℕ) (so_far : whole ≡ lines_after earlier (lines_read number (pieces_at 10 rest))) where
  -- no line end is left
  pub lines_cut : pieces_at 10 rest ≡ text ∷ [] → whole ≡ Err number
  lines_cut cut = so_far ∙ ap (λ pieces. lines_after earlier (lines_read number pieces)) cut

  module _ (next : List ℕ) (cut : pieces_at 10 rest ≡ text ∷ pieces_at 10 next) where
    here : whole ≡ lines_after earlier (lines_read number (text ∷ pieces_at 10 next))
    here = so_far ∙ ap (λ pieces. lines_after earlier (lines_read number pieces)) cut

    pub lines_more : (line : LogLine) → is_end number text ≡ false → line_said text ≡ Some line → whole ≡ lines_after (earlier ++ line ∷ []) (lines_read (number + 1) (pieces_at 10 next))
    lines_more line goes_on said =
        here ∙ ap (lines_after earlier) (line_and_more number text next line goes_on said) ∙ both_after earlier line (lines_read (number + 1) (pieces_at 10 next))

    pub lines_fault : is_end number text ≡ false → line_said text ≡ None → whole ≡ Err number
    lines_fault goes_on said = let all = pieces_of 10 next in here ∙ rw (all.are, goes_on, said) refl

    pub lines_end : is_end number text ≡ true → next ≡ [] → whole ≡ Ok earlier
    lines_end ends none = here ∙ rw (none, ends) (ap (λ (lines : List LogLine). Ok lines) (append-nil earlier))

    pub lines_beyond : is_end number text ≡ true → 1 ≤ length next → whole ≡ Err (number + 1)
    lines_beyond ends some = go (pieces_of 10 next).first (pieces_of 10 next).others (pieces_of 10 next).are (pieces_of 10 next).none
      where
        go : (first : List ℕ) (others : List (List ℕ)) → pieces_at 10 next ≡ first ∷ others → (first ≡ [] → others ≡ [] → next ≡ []) → whole ≡ Err (number + 1)
        go [] [] are none = absurd (omega (arith, ap (λ (t : List ℕ). length t) (none refl refl)))
        go [] (o ∷ os) are none = here ∙ rw (are, ends) refl
        go (b ∷ bs) others are none = here ∙ rw (are, ends) refl

-- ---- the words of a line

-- a sixth word
pub words_said-beyond : (line a b c d e r s t u v : List ℕ) → pieces_at 32 line ≡ a ∷ pieces_at 32 r → pieces_at 32 r ≡ b ∷ pieces_at 32 s → pieces_at 32 s ≡ c ∷ pieces_at 32 t
    → pieces_at 32 t ≡ d ∷ pieces_at 32 u → pieces_at 32 u ≡ e ∷ pieces_at 32 v → words_said (pieces_at 32 line) ≡ None
words_said-beyond line a b c d e r s t u v first second third fourth fifth =
    let more = pieces_of 32 v in
    let all : pieces_at 32 line ≡ a ∷ b ∷ c ∷ d ∷ e ∷ more.first ∷ more.others = rw (first, second, third, fourth, fifth, more.are) refl in
    ap words_said all
