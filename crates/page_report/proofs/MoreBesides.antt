-- The lines beside the first, with one line more.
use Rattle.std.proofs.Common.{◌≡◌, ◌∙◌, ◌++◌, ◌<◌, ◌+◌, ℕ, suc, min, Result, Ok, Err, List, [], ◌∷◌, All, IfOk, Vec, Global, take, length, get_or, sym, ap, subst, arith}
use Rattle.std.proofs.lemmas.List.{take_more, take_min, length-take-le}
use Rattle.std.proofs.lemmas.List.Elements.{All-take}
use Rattle.strategy_games.specs.Plans.{Plan, Fits}
use Rattle.strategy_tree.specs.Bridge.{bridge}
use Rattle.am_report.specs.Answers.{ReadEntryValue}
use Rattle.line_partings.specs.Partings.{FitOneNode, IsWhereTheyPart}
use Rattle.page_text.specs.declared.partings.Beside.{Beside}
use Rattle.page_report.specs.BesideLines.{FitTogether, BesideFrom, AreBeside}

module _ (plan : Plan ℕ) where
  beside-push : (number : ℕ) (entries : List ReadEntryValue) (besides : List Beside) (read : ReadEntryValue) (beside : Beside) → BesideFrom plan number entries besides
      → beside.number ≡ number + length entries → IsWhereTheyPart plan read.entry.plan beside.parting → BesideFrom plan number (entries ++ read ∷ []) (besides ++ beside ∷ [])
  beside-push number [] [] read beside are is_number apart = (is_number ∙ first, apart, tt)
    where
      first : number + 0 ≡ number
      first = omega arith
  beside-push number [] (b ∷ besides) read beside are is_number apart = absurd are
  beside-push number (e ∷ entries) [] read beside are is_number apart = absurd are
  beside-push number (e ∷ entries) (b ∷ besides) read beside are is_number apart =
      (are.0, are.1, beside-push (number + 1) entries besides read beside are.2 (is_number ∙ later) apart)
    where
      later : number + length (e ∷ entries) ≡ number + 1 + length entries
      later = omega arith

  -- one line more
  pub beside_more : (entries : List ReadEntryValue) (i : ℕ) (read : ReadEntryValue) (beside : Beside) (besides now : List Beside) → i < length entries → read ≡ get_or entries i read
      → beside.number ≡ i + 2 → IsWhereTheyPart plan read.entry.plan beside.parting → now ≡ besides ++ beside ∷ []
      → BesideFrom plan 2 (take i entries) besides → BesideFrom plan 2 (take (i + 1) entries) now
  beside_more entries i read beside besides now low is is_number apart pushed are =
      let next : take (i + 1) entries ≡ take i entries ++ read ∷ [] = take_more entries i read low ∙ ap (λ x. take i entries ++ x ∷ []) (sym is) in
      let counted : length (take i entries) ≡ i = length-take-le i entries (omega arith) in
      let number : beside.number ≡ 2 + length (take i entries) = omega (arith, is_number, counted) in
      let whole : BesideFrom plan 2 (take i entries ++ read ∷ []) (besides ++ beside ∷ []) = beside-push 2 (take i entries) besides read beside are number apart in
      subst (λ es. BesideFrom plan 2 es now) (sym next) (subst (λ bs. BesideFrom plan 2 (take i entries ++ read ∷ []) bs) (sym pushed) whole)

-- the first of some strategies that fit together fits one node with each of those after it
pub each_fits : (entries : List ReadEntryValue) (first : ReadEntryValue) (later : List ReadEntryValue) (n : ℕ) → entries ≡ first ∷ later → FitTogether entries
    → All (λ (read : ReadEntryValue). FitOneNode first.entry.plan read.entry.plan) (take n later)
each_fits entries first later n is together = All-take (λ (read : ReadEntryValue). FitOneNode first.entry.plan read.entry.plan) n later each
  where
    fit : All (λ (read : ReadEntryValue). Fits bridge read.entry.plan together.node together.moves) (first ∷ later)
    fit = subst (λ (es : List ReadEntryValue). All (λ (read : ReadEntryValue). Fits bridge read.entry.plan together.node together.moves) es) is together.fit

    each : All (λ (read : ReadEntryValue). FitOneNode first.entry.plan read.entry.plan) later
    each k d low = record {
      node = together.node;
      moves = together.moves;
      fits = fit 0 first (omega arith);
      other_fits = fit (suc k) d (omega (arith, low));
    }

-- no more than five of them are compared
pub first_five : {E : Type 0} (entries : List ReadEntryValue) (first : ReadEntryValue) (later : List ReadEntryValue) (n : ℕ) (r : Result (Vec Beside Global) E) → entries ≡ first ∷ later → n ≡ min 5 (length later)
    → IfOk r (λ besides. BesideFrom first.entry.plan 2 (take n later) besides.items) → IfOk r (λ besides. AreBeside entries besides.items)
first_five entries first later n (Ok besides) is few are =
    subst (λ (es : List ReadEntryValue). AreBeside es besides.items) (sym is)
    (subst (λ (es : List ReadEntryValue). BesideFrom first.entry.plan 2 es besides.items) (ap (λ k. take k later) few ∙ take_min 5 later) are)
first_five entries first later n (Err e) is few are = tt
