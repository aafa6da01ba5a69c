-- Layouts sorted one by one.
use Rattle.std.proofs.Common.{◌≡◌, ℕ, ◌+◌, ◌<◌, cond, List, [], ◌∷◌, ◌++◌, Option, None, Some, map, length, drop, get_or, suc, sym, ap, ◌∙◌, subst, arith}
use Rattle.std.specs.Prelude.{is_none, option_map, All, MatchOption}
use Rattle.std.specs.List.{enumerate_from, cons_option}
use Rattle.std.proofs.Math.Seq.{drop-cons}
use Rattle.std.proofs.lemmas.List.{append_assoc, length-append}
use Rattle.std.proofs.lemmas.List.Elements.{All-nil, All-cons, All-same, All-push}
use Rattle.trick_rules.specs.Positions.{PositionValue, IsState, FitsLeft}
use Rattle.pbn_deal.specs.declared.board.Played.{Played}
use Rattle.layout_list.specs.declared.line.Weighed.{Weighed}
use Rattle.layout_list.specs.declared.verdict.Contradiction.{Contradiction}
use Rattle.layout_list.specs.Verdicts.{hand_after, position_after}
use Rattle.layout_list.specs.Layouts.{verdict, allowed, dropped, numbers_kept, weights_kept, lefts_kept, IsAfter}

-- what moves from the layouts left to those so far
pub moved : {A : Type 0} (whole front longer left rest : List A) (x : A) → whole ≡ front ++ left → left ≡ x ∷ rest → longer ≡ front ++ x ∷ [] → whole ≡ longer ++ rest
moved whole front longer left rest x is split added = is ∙ ap (λ l. front ++ l) split ∙ sym (ap (λ l. l ++ rest) added ∙ append_assoc front (x ∷ []) rest)

pub unmoved : {A : Type 0} (whole front same left rest : List A) → whole ≡ front ++ left → left ≡ rest → same ≡ front → whole ≡ same ++ rest
unmoved whole front same left rest is split kept = is ∙ ap (λ l. front ++ l) split ∙ sym (ap (λ l. l ++ rest) kept)

-- the layouts left begin with the one at hand
pub split_at : (layouts : List Weighed) (i : ℕ) (weighed : Weighed) → i < length layouts → weighed ≡ get_or layouts i weighed
    → enumerate_from (i + 1) (drop i layouts) ≡ (i + 1, weighed) ∷ enumerate_from (i + 1 + 1) (drop (i + 1) layouts)
split_at layouts i weighed lt is =
    let next : suc i ≡ i + 1 = omega arith in
    let split = drop-cons layouts i weighed lt ∙ ap (λ x. x ∷ drop (suc i) layouts) (sym is) ∙ ap (λ k. weighed ∷ drop k layouts) next in
    ap (enumerate_from (i + 1)) split

allowed_yes : (plays : List Played) (t : PositionValue) (number : ℕ) (weighed : Weighed) (rest : List (ℕ × Weighed)) → verdict plays t weighed.layout ≡ None
    → allowed plays t ((number, weighed) ∷ rest) ≡ (number, weighed) ∷ allowed plays t rest
allowed_yes plays t number weighed rest none = ap (λ v. cond (is_none v) ((number, weighed) ∷ allowed plays t rest) (allowed plays t rest)) none

allowed_no : (plays : List Played) (t : PositionValue) (number : ℕ) (weighed : Weighed) (rest : List (ℕ × Weighed)) (found : Contradiction) → verdict plays t weighed.layout ≡ Some found
    → allowed plays t ((number, weighed) ∷ rest) ≡ allowed plays t rest
allowed_no plays t number weighed rest found some = ap (λ v. cond (is_none v) ((number, weighed) ∷ allowed plays t rest) (allowed plays t rest)) some

pub numbers_yes : (plays : List Played) (t : PositionValue) (number : ℕ) (weighed : Weighed) (rest : List (ℕ × Weighed)) → verdict plays t weighed.layout ≡ None
    → numbers_kept plays t ((number, weighed) ∷ rest) ≡ number ∷ numbers_kept plays t rest
numbers_yes plays t number weighed rest none = ap (map (λ l. l.0)) (allowed_yes plays t number weighed rest none)

pub numbers_no : (plays : List Played) (t : PositionValue) (number : ℕ) (weighed : Weighed) (rest : List (ℕ × Weighed)) (found : Contradiction) → verdict plays t weighed.layout ≡ Some found
    → numbers_kept plays t ((number, weighed) ∷ rest) ≡ numbers_kept plays t rest
numbers_no plays t number weighed rest found some = ap (map (λ l. l.0)) (allowed_no plays t number weighed rest found some)

pub weights_yes : (plays : List Played) (t : PositionValue) (number : ℕ) (weighed : Weighed) (rest : List (ℕ × Weighed)) → verdict plays t weighed.layout ≡ None
    → weights_kept plays t ((number, weighed) ∷ rest) ≡ weighed.weight ∷ weights_kept plays t rest
weights_yes plays t number weighed rest none = ap (map (λ l. l.1.weight)) (allowed_yes plays t number weighed rest none)

pub weights_no : (plays : List Played) (t : PositionValue) (number : ℕ) (weighed : Weighed) (rest : List (ℕ × Weighed)) (found : Contradiction) → verdict plays t weighed.layout ≡ Some found
    → weights_kept plays t ((number, weighed) ∷ rest) ≡ weights_kept plays t rest
weights_no plays t number weighed rest found some = ap (map (λ l. l.1.weight)) (allowed_no plays t number weighed rest found some)

pub lefts_yes : (plays : List Played) (t : PositionValue) (number : ℕ) (weighed : Weighed) (rest : List (ℕ × Weighed)) → verdict plays t weighed.layout ≡ None
    → lefts_kept plays t ((number, weighed) ∷ rest) ≡ hand_after weighed.layout.left plays ∷ lefts_kept plays t rest
lefts_yes plays t number weighed rest none = ap (map (λ l. hand_after l.1.layout.left plays)) (allowed_yes plays t number weighed rest none)

pub lefts_no : (plays : List Played) (t : PositionValue) (number : ℕ) (weighed : Weighed) (rest : List (ℕ × Weighed)) (found : Contradiction) → verdict plays t weighed.layout ≡ Some found
    → lefts_kept plays t ((number, weighed) ∷ rest) ≡ lefts_kept plays t rest
lefts_no plays t number weighed rest found some = ap (map (λ l. hand_after l.1.layout.left plays)) (allowed_no plays t number weighed rest found some)

pub dropped_yes : (plays : List Played) (t : PositionValue) (number : ℕ) (weighed : Weighed) (rest : List (ℕ × Weighed)) → verdict plays t weighed.layout ≡ None
    → dropped plays t ((number, weighed) ∷ rest) ≡ dropped plays t rest
dropped_yes plays t number weighed rest none = ap (λ v. cons_option (option_map (λ c. record { number = number; cause = c.cause; play = c.play }) v) (dropped plays t rest)) none

pub dropped_no : (plays : List Played) (t : PositionValue) (number : ℕ) (weighed : Weighed) (rest : List (ℕ × Weighed)) (found : Contradiction) → verdict plays t weighed.layout ≡ Some found
    → dropped plays t ((number, weighed) ∷ rest) ≡ record { number = number; cause = found.cause; play = found.play } ∷ dropped plays t rest
dropped_no plays t number weighed rest found some = ap (λ v. cons_option (option_map (λ c. record { number = number; cause = c.cause; play = c.play }) v) (dropped plays t rest)) some

-- a left hand more for the position after the play
pub node_more : (plays : List Played) (t : PositionValue) (lefts longer : List (List ℕ)) (before : Option PositionValue) (position : PositionValue) (left : List ℕ)
    → MatchOption before (lefts ≡ []) (IsAfter plays t lefts) → position ≡ position_after t plays → IsState (record { position = position; left = left })
    → longer ≡ lefts ++ left ∷ [] → length lefts < 256 → IsAfter plays t longer position
node_more plays t lefts longer None position left none same state added few =
    let one : longer ≡ left ∷ [] = added ∙ ap (λ l. l ++ left ∷ []) none in
    record {
      same = same;
      node = record {
        sound = state.sound;
        fits = All-same (FitsLeft position) longer (left ∷ []) one (All-cons (FitsLeft position) left [] state.fits (All-nil (FitsLeft position)));
        some = omega (arith, ap length one);
        few = omega (arith, ap length one);
      };
    }
node_more plays t lefts longer (Some before) position left after same state added few =
    let both : before ≡ position = after.same ∙ sym same in
    let old = subst (λ (p : PositionValue). All (FitsLeft p) lefts) both after.node.fits in
    record {
      same = same;
      node = record {
        sound = state.sound;
        fits = All-same (FitsLeft position) longer (lefts ++ left ∷ []) added (All-push (FitsLeft position) lefts left old state.fits);
        some = omega (arith, ap length added, length-append lefts (left ∷ []));
        few = omega (arith, ap length added, length-append lefts (left ∷ []));
      };
    }

pub same_position : (plays : List Played) (t : PositionValue) (lefts same_lefts : List (List ℕ)) (position same : Option PositionValue)
    → MatchOption position (lefts ≡ []) (IsAfter plays t lefts) → same_lefts ≡ lefts → same ≡ position → MatchOption same (same_lefts ≡ []) (IsAfter plays t same_lefts)
same_position plays t lefts same_lefts position same after lefts_same position_same =
    subst (λ (o : Option PositionValue). MatchOption o (same_lefts ≡ []) (IsAfter plays t same_lefts)) (sym position_same)
    (subst (λ (l : List (List ℕ)). MatchOption position (l ≡ []) (IsAfter plays t l)) (sym lefts_same) after)
