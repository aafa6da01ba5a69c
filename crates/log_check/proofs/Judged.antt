-- What the rules ask, against what is tested.
use Rattle.std.proofs.Common.{◌==◌, ◌≡◌, ◌≢◌, ◌+◌, ◌<◌, ◌≤◌, ◌∙◌, ℕ, zero, suc, true, false, Some, List, [], ◌∷◌, ◌++◌, length, take, get_or, refl, sym, ap, subst, ⊎_elim, arith}
use Rattle.std.specs.Prelude.{slice_get}
use Rattle.std.proofs.Math.Nat.{eq-or-lt_of_le}
use Rattle.std.proofs.lemmas.List.{take_all, length-append, take-append-le, get_or-append-add}
use Rattle.std.proofs.lemmas.Bool.{eqb-false, eqb-true}
use Rattle.std.proofs.lemmas.Option.{slice_get-get_or}
use Rattle.win_vectors.specs.Fronts.{Vector, HaveWidth, CoversAll}
use Rattle.trick_rules.specs.Positions.{to_play}
use Rattle.trick_rules.specs.Play.{is_declarers}
use Rattle.trick_rules.specs.Nodes.{NodeValue, stops, choices, child}
use Rattle.strategy_games.proofs.Lists.{All-from}
use Rattle.log_check.specs.declared.lines.LogLine.{LogLine}
use Rattle.log_check.specs.Logs.{node_after, cited_lines, StandBehind, IsJoin, IsSoundLine, AreSound}
use Rattle.log_check.specs.Steps.{StandBehindSome, HaveChildWidths, CoverAlike}
use Rattle.log_check.specs.LogVerdicts.{IsFirstUnsound}
use Rattle.log_check.proofs.PathNodes.{node_after-more, slice_get-take, cited_place}
use Rattle.log_check.proofs.Joined.{left_by, covered_alike}

-- ---- joins

pub join_some : (node : NodeValue) (line : LogLine) (cited : List LogLine) → IsJoin node line cited
    → StandBehindSome line.path (choices node) 0 cited
join_some node line cited join = record {
  cards = join.cards;
  in_order = join.in_order;
  are_choices = join.are_choices;
  above = All-from (λ card. 0 ≤ card) join.cards (λ card mem. omega arith);
  behind = join.behind;
}

pub join_from : (node : NodeValue) (line : LogLine) (cited : List LogLine) (front : List Vector)
    → stops node line.moves ≡ false → is_declarers (to_play node.position) ≡ false → line.from ≢ []
    → StandBehindSome line.path (choices node) 0 cited
    → ((cards : List ℕ) → StandBehind line.path cards cited → CoverAlike (left_by node cards cited) front)
    → CoversAll line.vectors front → IsJoin node line cited
join_from node line cited front on theirs some behind alike covers = record {
  goes_on = on;
  theirs = theirs;
  some = some;
  cards = behind.cards;
  in_order = behind.in_order;
  are_choices = behind.are_choices;
  behind = behind.behind;
  covered = covered_alike line.vectors (left_by node behind.cards cited) front (alike behind.cards behind.behind) covers;
}

pub join_covers : (node : NodeValue) (line : LogLine) (cited : List LogLine) (front : List Vector) → IsJoin node line cited
    → ((cards : List ℕ) → StandBehind line.path cards cited → CoverAlike (left_by node cards cited) front)
    → CoversAll line.vectors front
join_covers node line cited front join alike =
    let both = alike join.cards join.behind in
    covered_alike line.vectors front (left_by node join.cards cited) (both.1, both.0) join.covered

-- ---- widths

pub child_widths : (n node : NodeValue) (moves : ℕ) (path : List ℕ) (lines : List LogLine) (numbers : List ℕ) → node ≡ node_after n path
    → AreSound n moves lines → HaveChildWidths node path (cited_lines lines numbers)
child_widths n node moves path lines numbers is are l card mem behind =
    let at = cited_place lines numbers l mem in
    subst (λ (q : NodeValue). HaveWidth (length q.lefts) l.vectors)
    (ap (λ p. node_after n p) behind ∙ node_after-more n path card ∙ ap (λ (q : NodeValue). child q card) (sym is))
    (are at.0 l at.1).width

-- ---- lines in order

pub take-less : {X : Type 0} (xs : List X) (i j : ℕ) → i ≤ j → take i (take j xs) ≡ take i xs
take-less xs zero j low = refl
take-less [] (suc i) zero low = refl
take-less [] (suc i) (suc j) low = refl
take-less (x ∷ xs) (suc i) zero low = absurd (omega arith)
take-less {X} (x ∷ xs) (suc i) (suc j) low = ap (λ (ys : List X). x ∷ ys) (take-less xs i j (omega arith))

pub slice_get-of_take : {X : Type 0} (xs : List X) (i j : ℕ) (x : X) → j < i → slice_get xs j ≡ Some x → slice_get (take i xs) j ≡ Some x
slice_get-of_take [] zero j x low is = absurd (omega arith)
slice_get-of_take [] (suc i) j x low is = is
slice_get-of_take (y ∷ xs) zero j x low is = absurd (omega arith)
slice_get-of_take (y ∷ xs) (suc i) zero x low is = is
slice_get-of_take (y ∷ xs) (suc i) (suc j) x low is = slice_get-of_take xs i j x (omega arith) is

pub sound-none : (n : NodeValue) (moves : ℕ) (lines : List LogLine) → AreSound n moves (take 0 lines)
sound-none n moves lines place line is = absurd cc

pub sound-more : (n : NodeValue) (moves : ℕ) (lines : List LogLine) (p : ℕ) (l : LogLine) → p < length lines → l ≡ get_or lines p l
    → AreSound n moves (take p lines) → IsSoundLine n moves (take p lines) l → AreSound n moves (take (p + 1) lines)
sound-more n moves lines p l low is are sound place line at =
    let there = slice_get-take lines (p + 1) place line at in
    let bound = there.0 in
    let near : place ≤ p = omega arith in
    subst (λ (earlier : List LogLine). IsSoundLine n moves earlier line) (sym (take-less lines place (p + 1) (omega arith)))
    (⊎_elim
    (λ (same : place ≡ p).
    let found : slice_get lines p ≡ Some line = subst (λ k. slice_get lines k ≡ Some line) same there.1 in
    let here : slice_get lines p ≡ Some l = slice_get-get_or lines p l low ∙ ap (λ (x : LogLine). Some x) (sym is) in
    let line_is : l ≡ line = cc in
    subst (λ k. IsSoundLine n moves (take k lines) line) (sym same) (subst (λ (x : LogLine). IsSoundLine n moves (take p lines) x) line_is sound))
    (λ (before : place < p).
    subst (λ (earlier : List LogLine). IsSoundLine n moves earlier line) (take-less lines place p (omega arith))
    (are place line (slice_get-of_take lines p place line before there.1)))
    (eq-or-lt_of_le near))

pub sound-push : (n : NodeValue) (moves : ℕ) (lines : List LogLine) (l : LogLine) → AreSound n moves lines → IsSoundLine n moves lines l
    → AreSound n moves (lines ++ l ∷ [])
sound-push n moves lines l are sound =
    let all = lines ++ l ∷ [] in
    let long : length all ≡ length lines + 1 = length-append lines (l ∷ []) in
    let firsts : take (length lines) all ≡ lines = take-append-le (length lines) lines (l ∷ []) (omega arith) ∙ take_all (length lines) lines (omega arith) in
    let end : length lines + 0 ≡ length lines = omega arith in
    let last : get_or all (length lines) l ≡ l = subst (λ k. get_or all k l ≡ l) end (get_or-append-add lines (l ∷ []) 0 l) in
    subst (λ (ls : List LogLine). AreSound n moves ls) (take_all (length lines + 1) all (omega arith))
    (sound-more n moves all (length lines) l (omega arith) (sym last)
    (subst (λ (ls : List LogLine). AreSound n moves ls) (sym firsts) are)
    (subst (λ (ls : List LogLine). IsSoundLine n moves ls l) (sym firsts) sound))

-- ---- verdicts

pub first_unsound : (n : NodeValue) (moves : ℕ) (lines log : List LogLine) (p : ℕ) (l : LogLine) → lines ≡ log → p < length lines → l ≡ get_or lines p l
    → AreSound n moves (take p lines) → (IsSoundLine n moves (take p lines) l → ⊥) → IsFirstUnsound n moves log (p + 1)
first_unsound n moves lines log p l same low is are unsound =
    subst (λ (ls : List LogLine). IsFirstUnsound n moves ls (p + 1)) same
    (record {
      place = p;
      counted = refl;
      line = l;
      is = slice_get-get_or lines p l low ∙ ap (λ (x : LogLine). Some x) (sym is);
      before = are;
      unsound = unsound;
    })

pub all_sound : (n : NodeValue) (moves : ℕ) (lines log : List LogLine) (p : ℕ) → lines ≡ log → length lines ≤ p → AreSound n moves (take p lines)
    → AreSound n moves log
all_sound n moves lines log p same past are =
    subst (λ (ls : List LogLine). AreSound n moves ls) (take_all p lines past ∙ same) are

-- ---- lists with nothing in them

pub none_in : {X : Type 0} (xs ys : List X) → xs ≡ ys → (length xs == 0) ≡ true → ys ≡ []
none_in {X} xs ys same none = sym same ∙ go xs none
  where
    go : (zs : List X) → (length zs == 0) ≡ true → zs ≡ []
    go [] h = refl
    go (z ∷ zs) h = absurd (omega (arith, eqb-true (length (z ∷ zs)) 0 h))

pub some_in : {X : Type 0} (xs ys : List X) → xs ≡ ys → (length xs == 0) ≡ false → ys ≡ [] → ⊥
some_in {X} xs ys same some none = eqb-false (length xs) 0 some (ap (λ (zs : List X). length zs) (same ∙ none))
