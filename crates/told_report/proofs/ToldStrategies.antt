-- The words of strategies, one after another.
use Rattle.std.proofs.Common.{◌≡◌, ◌∙◌, ◌++◌, ◌<◌, ◌+◌, ℕ, List, [], ◌∷◌, take, length, get_or, refl, sym, ap, subst, append_assoc}
use Rattle.std.proofs.lemmas.List.{take_more}
use Rattle.card_sets.specs.declared.seat.Compass.{Compass}
use Rattle.trick_rules.specs.Nodes.{NodeValue}
use Rattle.am_report.specs.Answers.{ReadEntryValue}
use Rattle.told_plans.specs.Told.{Told}
use Rattle.told_report.specs.ToldReport.{strategy_text, strategies_text, IsToldOf, AreToldOf, AreWords}

module _ (declarer : Compass) (weights : List ℕ) (node : NodeValue) where
  told_more : (entries : List ReadEntryValue) (tolds : List Told) (read : ReadEntryValue) (told : Told) → AreToldOf node entries tolds → IsToldOf node read told → AreToldOf node (entries ++ read ∷ []) (tolds ++ told ∷ [])
  told_more (e ∷ entries) (t ∷ tolds) read told are is = (are.0, told_more entries tolds read told are.1 is)
  told_more (e ∷ entries) [] read told are is = absurd are
  told_more [] (t ∷ tolds) read told are is = absurd are
  told_more [] [] read told are is = (is, tt)

  text_more : (entries : List ReadEntryValue) (tolds : List Told) (read : ReadEntryValue) (told : Told) → AreToldOf node entries tolds
      → strategies_text declarer weights node (entries ++ read ∷ []) (tolds ++ told ∷ []) ≡ strategies_text declarer weights node entries tolds ++ strategy_text declarer weights node read told
  text_more (e ∷ entries) (t ∷ tolds) read told are =
      ap (λ text. strategy_text declarer weights node e t ++ text) (text_more entries tolds read told are.1) ∙ sym (append_assoc (strategy_text declarer weights node e t) (strategies_text declarer weights node entries tolds) (strategy_text declarer weights node read told))
  text_more (e ∷ entries) [] read told are = absurd are
  text_more [] (t ∷ tolds) read told are = absurd are
  text_more [] [] read told are = append_nil (strategy_text declarer weights node read told)
    where
      append_nil : (xs : List ℕ) → xs ++ [] ≡ xs
      append_nil [] = refl
      append_nil (x ∷ xs) = ap (λ ys. x ∷ ys) (append_nil xs)

  -- one strategy more
  pub words_more : (entries : List ReadEntryValue) (i : ℕ) (read : ReadEntryValue) (told : Told) (text now : List ℕ) → i < length entries → read ≡ get_or entries i read → IsToldOf node read told
      → now ≡ text ++ strategy_text declarer weights node read told → AreWords declarer weights node (take i entries) text → AreWords declarer weights node (take (i + 1) entries) now
  words_more entries i read told text now low is is_told written words =
      let next : take (i + 1) entries ≡ take i entries ++ read ∷ [] = take_more entries i read low ∙ ap (λ x. take i entries ++ x ∷ []) (sym is) in
      let whole : AreWords declarer weights node (take i entries ++ read ∷ []) now = record {
        tolds = words.tolds ++ told ∷ [];
        are_told = told_more (take i entries) words.tolds read told words.are_told is_told;
        is_text = written ∙ ap (λ t. t ++ strategy_text declarer weights node read told) words.is_text ∙ sym (text_more (take i entries) words.tolds read told words.are_told);
      } in
      subst (λ es. AreWords declarer weights node es now) (sym next) whole
