-- The lines of a page with one line more.
use Rattle.std.proofs.Common.{◌≡◌, ◌∙◌, ◌++◌, ◌<◌, ◌+◌, ℕ, suc, List, [], ◌∷◌, take, length, get_or, refl, sym, ap, subst, arith}
use Rattle.std.proofs.lemmas.List.{take_more, length-take-le}
use Rattle.card_sets.specs.declared.seat.Compass.{Compass}
use Rattle.trick_rules.specs.Nodes.{NodeValue}
use Rattle.am_report.specs.Answers.{ReadEntryValue}
use Rattle.told_plans.specs.Told.{Told}
use Rattle.told_report.specs.ToldReport.{IsToldOf, AreToldOf}
use Rattle.page_text.specs.declared.lines.Line.{Line}
use Rattle.page_report.specs.ReportPages.{line_of, lines_from, AreLines}

module _ (declarer : Compass) (node : NodeValue) where
  lines-push : (number : ℕ) (entries : List ReadEntryValue) (tolds : List Told) (read : ReadEntryValue) (told : Told) → AreToldOf node entries tolds
      → lines_from declarer node number (entries ++ read ∷ []) (tolds ++ told ∷ []) ≡ lines_from declarer node number entries tolds ++ line_of declarer node (number + length entries) read told ∷ []
  lines-push number (e ∷ entries) (t ∷ tolds) read told are =
      let place : number + 1 + length entries ≡ number + length (e ∷ entries) = omega arith in
      ap (λ lines. line_of declarer node number e t ∷ lines) (lines-push (number + 1) entries tolds read told are.1)
      ∙ ap (λ n. lines_from declarer node number (e ∷ entries) (t ∷ tolds) ++ line_of declarer node n read told ∷ []) place
  lines-push number (e ∷ entries) [] read told are = absurd are
  lines-push number [] (t ∷ tolds) read told are = absurd are
  lines-push number [] [] read told are =
      let first : number ≡ number + 0 = omega arith in
      ap (λ n. line_of declarer node n read told ∷ []) first

  told-push : (entries : List ReadEntryValue) (tolds : List Told) (read : ReadEntryValue) (told : Told) → AreToldOf node entries tolds → IsToldOf node read told → AreToldOf node (entries ++ read ∷ []) (tolds ++ told ∷ [])
  told-push (e ∷ entries) (t ∷ tolds) read told are is = (are.0, told-push entries tolds read told are.1 is)
  told-push (e ∷ entries) [] read told are is = absurd are
  told-push [] (t ∷ tolds) read told are is = absurd are
  told-push [] [] read told are is = (is, tt)

  as_long : (number : ℕ) (entries : List ReadEntryValue) (tolds : List Told) → AreToldOf node entries tolds → length (lines_from declarer node number entries tolds) ≡ length entries
  as_long number (e ∷ entries) (t ∷ tolds) are = ap suc (as_long (number + 1) entries tolds are.1)
  as_long number (e ∷ entries) [] are = absurd are
  as_long number [] (t ∷ tolds) are = absurd are
  as_long number [] [] are = refl

  -- there is a line for each strategy
  pub one_each : (entries : List ReadEntryValue) (lines : List Line) → AreLines declarer node entries lines → length lines ≡ length entries
  one_each entries lines are = ap length are.are_lines ∙ as_long 1 entries are.tolds are.are_told

  -- one line more
  pub line_more : (entries : List ReadEntryValue) (i : ℕ) (read : ReadEntryValue) (told : Told) (line : Line) (lines now : List Line) → i < length entries → read ≡ get_or entries i read → IsToldOf node read told
      → line ≡ line_of declarer node (i + 1) read told → now ≡ lines ++ line ∷ [] → AreLines declarer node (take i entries) lines → AreLines declarer node (take (i + 1) entries) now
  line_more entries i read told line lines now low is is_told is_line pushed are =
      let next : take (i + 1) entries ≡ take i entries ++ read ∷ [] = take_more entries i read low ∙ ap (λ x. take i entries ++ x ∷ []) (sym is) in
      let counted : length (take i entries) ≡ i = length-take-le i entries (omega arith) in
      let number : i + 1 ≡ 1 + length (take i entries) = omega arith in
      let whole : AreLines declarer node (take i entries ++ read ∷ []) now = record {
        tolds = are.tolds ++ told ∷ [];
        are_told = told-push (take i entries) are.tolds read told are.are_told is_told;
        are_lines = pushed ∙ ap (λ (x : Line). lines ++ x ∷ []) (is_line ∙ ap (λ n. line_of declarer node n read told) number)
            ∙ ap (λ (ls : List Line). ls ++ line_of declarer node (1 + length (take i entries)) read told ∷ []) are.are_lines
            ∙ sym (lines-push 1 (take i entries) are.tolds read told are.are_told);
      } in
      subst (λ es. AreLines declarer node es now) (sym next) whole
