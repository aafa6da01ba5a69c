-- Texts one after another, one place more.
use Rattle.std.proofs.Common.{◌≡◌, ◌+◌, ℕ, suc, List, ◌++◌, sym, subst, arith}
use Rattle.job_lines.specs.LinesJob.{AreTexts}

pub one_text_more : (IsText : ℕ → List ℕ → Type 0) (place : ℕ) (before last text : List ℕ) → AreTexts IsText place before → IsText place last → text ≡ before ++ last
    → AreTexts IsText (place + 1) text
one_text_more IsText place before last text earlier is joined = subst (λ (n : ℕ). AreTexts IsText n text) further (before, last, earlier, is, joined)
  where
    further : suc place ≡ place + 1
    further = omega arith
