-- The last lines of a node's children, which the node's own line cites.
use Rattle.std.proofs.Common.{◌≡◌, ◌+◌, ◌-◌, ◌≤◌, ◌∙◌, ℕ, Option, Some, List, [], ◌∷◌, ◌++◌, map, length, Contains, refl, sym, ap, ap₂, subst, append_assoc, ⊎_elim, arith}
use Rattle.std.specs.Prelude.{slice_get}
use Rattle.std.specs.List.{cons_option}
use Rattle.std.proofs.lemmas.List.{length-append, length_push}
use Rattle.trick_rules.specs.Nodes.{NodeValue, child}
use Rattle.strategy_games.specs.Plans.{IsFront}
use Rattle.strategy_games.specs.Joins.{AreFronts}
use Rattle.strategy_games.proofs.Lists.{Contains-nil, Contains-cons}
use Rattle.strategy_tree.specs.Bridge.{bridge}
use Rattle.log_check.specs.declared.lines.Rule.TheVariants.{Leaf, Union, Join}
use Rattle.log_check.specs.declared.lines.LogLine.{LogLine}
use Rattle.log_check.specs.Logs.{cited_lines, StandBehind}
use Rattle.log_check.specs.LogsFor.{line_of, IsLogFrom, AreLogsFrom}
use Rattle.log_check.specs.LogsFor.IsLogFrom.{at_stop, at_declarer, at_defender}
use Rattle.log_check.specs.LogsFor.AreLogsFrom.{no_child, child_first}

-- ---- the last line

-- the last of these lines is the node's own, with its front
pub record EndsAt (n : NodeValue) (moves : ℕ) (path : List ℕ) (lines : List LogLine) : Type 0 where
  pub before : List LogLine
  pub last : LogLine
  pub is : lines ≡ before ++ last ∷ []
  pub path_is : last.path ≡ path
  pub front : IsFront bridge n moves last.vectors

pub ends_at : (n : NodeValue) (moves : ℕ) (path : List ℕ) (earlier : ℕ) (lines : List LogLine) → IsLogFrom n moves path earlier lines → EndsAt n moves path lines
ends_at _ _ _ _ _ (at_stop n moves path earlier front stop is) =
    record { before = []; last = line_of Leaf path moves [] front; is = refl; path_is = refl; front = is }
ends_at _ _ _ _ _ (at_declarer n moves path earlier numbers lines front on ours is below) =
    record { before = lines; last = line_of Union path moves numbers front; is = refl; path_is = refl; front = is }
ends_at _ _ _ _ _ (at_defender n moves path earlier numbers lines front on theirs is below) =
    record { before = lines; last = line_of Join path moves numbers front; is = refl; path_is = refl; front = is }

place-after : {X : Type 0} (xs ys : List X) (x : X) → slice_get (xs ++ x ∷ ys) (length xs) ≡ Some x
place-after [] ys x = refl
place-after (y ∷ xs) ys x = place-after xs ys x

-- ---- the children's last lines

pub record AreCited (n : NodeValue) (moves : ℕ) (path cards numbers : List ℕ) (all : List LogLine) : Type 0 where
  pub within : (number : ℕ) → Contains numbers number → (1 ≤ number) × (number ≤ length all)
  pub behind : StandBehind path cards (cited_lines all numbers)
  pub fronts : AreFronts bridge n moves cards (map (λ (l : LogLine). l.vectors) (cited_lines all numbers))

cited-first : (n : NodeValue) (moves : ℕ) (path : List ℕ) (card number : ℕ) (cards numbers : List ℕ) (all : List LogLine) (last : LogLine)
    → slice_get all (number - 1) ≡ Some last → last.path ≡ path ++ card ∷ [] → IsFront bridge (child n card) moves last.vectors
    → (1 ≤ number) × (number ≤ length all) → AreCited n moves path cards numbers all
    → AreCited n moves path (card ∷ cards) (number ∷ numbers) all
cited-first n moves path card number cards numbers all last at path_is front fits rest =
    let are : cited_lines all (number ∷ numbers) ≡ last ∷ cited_lines all numbers = ap (λ (o : Option LogLine). cons_option o (cited_lines all numbers)) at in
    record {
      within = λ k mem. ⊎_elim
          (λ (same : number ≡ k). subst (λ k. (1 ≤ k) × (k ≤ length all)) same fits)
          (λ (later : Contains numbers k). rest.within k later)
          (Contains-cons number numbers k mem);
      behind = ap (λ (ls : List LogLine). map (λ (l : LogLine). l.path) ls) are ∙ ap₂ (λ (p : List ℕ) (ps : List (List ℕ)). p ∷ ps) path_is rest.behind;
      fronts = subst (λ (ls : List LogLine). AreFronts bridge n moves (card ∷ cards) (map (λ (l : LogLine). l.vectors) ls)) (sym are) (front, rest.fronts);
    }

pub cited_children : (n : NodeValue) (moves : ℕ) (path : List ℕ) (earlier : ℕ) (cards numbers : List ℕ) (lines before : List LogLine)
    → AreLogsFrom n moves path earlier cards numbers lines → length before ≡ earlier → AreCited n moves path cards numbers (before ++ lines)
cited_children _ _ _ _ _ _ _ before (no_child n moves path earlier) long = record {
  within = λ number mem. absurd (Contains-nil number mem);
  behind = refl;
  fronts = tt;
}
cited_children _ _ _ _ _ _ _ before (child_first n moves path earlier card cards numbers first others log rest) long =
    let end = ends_at (child n card) moves (path ++ card ∷ []) earlier first log in
    let all : before ++ (first ++ others) ≡ (before ++ end.before) ++ end.last ∷ others
    = ap (λ (ls : List LogLine). before ++ (ls ++ others)) end.is
    ∙ ap (λ (ls : List LogLine). before ++ ls) (append_assoc end.before (end.last ∷ []) others)
    ∙ sym (append_assoc before end.before (end.last ∷ others)) in
    let counted : length first ≡ length end.before + 1 = ap (λ (ls : List LogLine). length ls) end.is ∙ length_push end.before end.last in
    let place : earlier + length first - 1 ≡ length (before ++ end.before) = omega (arith, length-append before end.before) in
    let at : slice_get (before ++ (first ++ others)) (earlier + length first - 1) ≡ Some end.last
    = ap₂ (λ (ls : List LogLine) (k : ℕ). slice_get ls k) all place ∙ place-after (before ++ end.before) others end.last in
    let whole : length (before ++ (first ++ others)) ≡ length before + (length first + length others)
    = length-append before (first ++ others) ∙ ap (λ k. length before + k) (length-append first others) in
    let later : AreCited n moves path cards numbers ((before ++ first) ++ others)
    = cited_children n moves path (earlier + length first) cards numbers others (before ++ first) rest (omega (arith, length-append before first)) in
    cited-first n moves path card (earlier + length first) cards numbers (before ++ (first ++ others)) end.last at end.path_is end.front
    (omega arith, omega arith)
    (subst (λ (ls : List LogLine). AreCited n moves path cards numbers ls) (append_assoc before first others) later)
