-- A line like a sound line is sound, so vectors that others of their line dominate change nothing.
use Rattle.std.proofs.Common.{◌≡◌, ◌↔◌, ◌+◌, ◌-◌, ◌≤◌, ◌∙◌, ℕ, zero, suc, true, false, Some, List, [], ◌∷◌, ◌++◌, length, map, take, replicate, All, refl, sym, ap, ap₂, subst}
use Rattle.std.specs.Prelude.{slice_get}
use Rattle.std.specs.List.{cons_option}
use Rattle.std.proofs.lemmas.List.Elements.{length_all_zip}
use Rattle.win_vectors.specs.Fronts.{Vector, IsAtLeast, HaveWidth, CoversAll}
use Rattle.trick_rules.specs.Play.{makes}
use Rattle.trick_rules.specs.Nodes.{NodeValue, states, stops, choices, child_mask}
use Rattle.strategy_games.specs.Joins.{joins}
use Rattle.strategy_games.proofs.Lists.{AllZip-of, All-from, All-at}
use Rattle.strategy_games.proofs.Vectors.{Dominates-trans}
use Rattle.log_check.specs.declared.lines.Rule.{Rule}
use Rattle.log_check.specs.declared.lines.Rule.TheVariants.{Leaf, Union, Join}
use Rattle.log_check.specs.declared.lines.LogLine.{LogLine}
use Rattle.log_check.specs.Logs.{IsPath, node_after, our_cards, cited_lines, StandBehind, KeepsRule, IsSoundLine, AreSound, EndsAtRoot, IsValidLog}
use Rattle.log_check.specs.Steps.{CoverAlike, SayAlike, SayAllAlike}
use Rattle.log_check.proofs.Joined.{alike-refl, covers-trans, covers-meets}

-- ---- lists of lines alike

pub alike-sym : (l k : LogLine) → SayAlike l k → SayAlike k l
alike-sym l k same = record {
  rule = sym same.rule;
  path = sym same.path;
  moves = sym same.moves;
  from = sym same.from;
  vectors = (same.vectors.1, same.vectors.0);
}

pub all-sym : (ls ks : List LogLine) → SayAllAlike ls ks → SayAllAlike ks ls
all-sym [] [] same = tt
all-sym [] (k ∷ ks) same = absurd same
all-sym (l ∷ ls) [] same = absurd same
all-sym (l ∷ ls) (k ∷ ks) same = (alike-sym l k same.0, all-sym ls ks same.1)

all-take : (p : ℕ) (ls ks : List LogLine) → SayAllAlike ls ks → SayAllAlike (take p ls) (take p ks)
all-take zero ls ks same = tt
all-take (suc p) [] [] same = tt
all-take (suc p) [] (k ∷ ks) same = absurd same
all-take (suc p) (l ∷ ls) [] same = absurd same
all-take (suc p) (l ∷ ls) (k ∷ ks) same = (same.0, all-take p ls ks same.1)

all-at : (ls ks : List LogLine) → SayAllAlike ls ks → (p : ℕ) (l : LogLine) → slice_get ls p ≡ Some l
    → (k : LogLine) × (slice_get ks p ≡ Some k) × SayAlike l k
all-at [] ks same p l at = absurd cc
all-at (x ∷ ls) [] same p l at = absurd same
all-at (x ∷ ls) (k ∷ ks) same zero l at = let is : x ≡ l = cc in (k, refl, subst (λ (y : LogLine). SayAlike y k) is same.0)
all-at (x ∷ ls) (k ∷ ks) same (suc p) l at = all-at ls ks same.1 p l at

cited-more : (p : ℕ) (ls ks : List LogLine) → SayAllAlike ls ks → (xs ys : List LogLine) → SayAllAlike xs ys
    → SayAllAlike (cons_option (slice_get ls p) xs) (cons_option (slice_get ks p) ys)
cited-more p [] [] same xs ys more = more
cited-more p [] (k ∷ ks) same xs ys more = absurd same
cited-more p (l ∷ ls) [] same xs ys more = absurd same
cited-more zero (l ∷ ls) (k ∷ ks) same xs ys more = (same.0, more)
cited-more (suc p) (l ∷ ls) (k ∷ ks) same xs ys more = cited-more p ls ks same.1 xs ys more

cited-alike : (ls ks : List LogLine) (numbers : List ℕ) → SayAllAlike ls ks → SayAllAlike (cited_lines ls numbers) (cited_lines ks numbers)
cited-alike ls ks [] same = tt
cited-alike ls ks (number ∷ numbers) same =
    cited-more (number - 1) ls ks same (cited_lines ls numbers) (cited_lines ks numbers) (cited-alike ls ks numbers same)

paths-alike : (ls ks : List LogLine) → SayAllAlike ls ks → map (λ (l : LogLine). l.path) ks ≡ map (λ (l : LogLine). l.path) ls
paths-alike [] [] same = refl
paths-alike [] (k ∷ ks) same = absurd same
paths-alike (l ∷ ls) [] same = absurd same
paths-alike (l ∷ ls) (k ∷ ks) same = ap₂ (λ (p : List ℕ) (ps : List (List ℕ)). p ∷ ps) (sym same.0.path) (paths-alike ls ks same.1)

joins-alike : (width : ℕ) (masks : List Vector) (ls ks : List LogLine) → SayAllAlike ls ks
    → CoverAlike (joins width masks (map (λ (l : LogLine). l.vectors) ls)) (joins width masks (map (λ (l : LogLine). l.vectors) ks))
joins-alike width [] ls ks same = alike-refl (replicate width true ∷ [])
joins-alike width (mask ∷ masks) [] [] same = alike-refl (replicate width true ∷ [])
joins-alike width (mask ∷ masks) [] (k ∷ ks) same = absurd same
joins-alike width (mask ∷ masks) (l ∷ ls) [] same = absurd same
joins-alike width (mask ∷ masks) (l ∷ ls) (k ∷ ks) same =
    let rest = joins-alike width masks ls ks same.1 in
    let one = joins width masks (map (λ (x : LogLine). x.vectors) ls) in
    let other = joins width masks (map (λ (x : LogLine). x.vectors) ks) in
    (covers-meets one other l.vectors k.vectors mask rest.0 same.0.vectors.0, covers-meets other one k.vectors l.vectors mask rest.1 same.0.vectors.1)

-- what is covered is as wide
covered-width : (width : ℕ) (us vs : List Vector) → CoversAll us vs → HaveWidth width us → HaveWidth width vs
covered-width width us vs covers wide = All-from (λ (v : Vector). length v ≡ width) vs
    (λ v mem.
    let u = covers v mem in
    sym (length_all_zip IsAtLeast u.0 v u.2) ∙ All-at (λ (v : Vector). length v ≡ width) us wide u.0 u.1)

-- ---- rules

module _ (node : NodeValue) (l k : LogLine) (same : SayAlike l k) where
  goes-alike : stops node l.moves ≡ false → stops node k.moves ≡ false
  goes-alike on = subst (λ m. stops node m ≡ false) same.moves on

  behind-alike : (cards : List ℕ) (ls ks : List LogLine) → SayAllAlike ls ks → StandBehind l.path cards ls → StandBehind k.path cards ks
  behind-alike cards ls ks cited behind =
      paths-alike ls ks cited ∙ behind ∙ ap (λ (p : List ℕ). map (λ card. p ++ card ∷ []) cards) same.path

  rule-alike : (rule : Rule) (ls ks : List LogLine) → SayAllAlike ls ks → KeepsRule rule node l ls → KeepsRule rule node k ks
  rule-alike Leaf ls ks cited leaf =
      let u = leaf.covered in
      let w = same.vectors.1 u.0 u.1 in
      record { cites_none = sym same.from ∙ leaf.cites_none; covered = (w.0, w.1, Dominates-trans w.0 u.0 (map (λ s. makes s) (states node)) w.2 u.2) }
  rule-alike Union ls ks cited union = record {
    goes_on = goes-alike union.goes_on;
    ours = union.ours;
    behind = behind-alike (choices node) ls ks cited union.behind;
    covered = λ m mem.
        let x = AllZip-of SayAlike ls ks cited m mem in
        covers-trans k.vectors l.vectors m.vectors same.vectors.1
        (covers-trans l.vectors x.0.vectors m.vectors (union.covered x.0 x.1) x.2.vectors.0);
  }
  rule-alike Join ls ks cited join = record {
    goes_on = goes-alike join.goes_on;
    theirs = join.theirs;
    some = λ none. join.some (same.from ∙ none);
    cards = join.cards;
    in_order = join.in_order;
    are_choices = join.are_choices;
    behind = behind-alike join.cards ls ks cited join.behind;
    covered =
        let masks = map (λ card. child_mask node card) join.cards in
        let one = joins (length node.lefts) masks (map (λ (x : LogLine). x.vectors) ls) in
        let other = joins (length node.lefts) masks (map (λ (x : LogLine). x.vectors) ks) in
        covers-trans k.vectors l.vectors other same.vectors.1
        (covers-trans l.vectors one other join.covered (joins-alike (length node.lefts) masks ls ks cited).0);
  }

-- ---- soundness

module _ (n : NodeValue) (moves : ℕ) where
  pub sound-alike : (ls ks : List LogLine) (l k : LogLine) → SayAllAlike ls ks → SayAlike l k → IsSoundLine n moves ls l → IsSoundLine n moves ks k
  sound-alike ls ks l k all same sound = record {
    path = subst (λ (p : List ℕ). IsPath n p) same.path sound.path;
    moves_left = sym (ap₂ (λ m (p : List ℕ). m + our_cards n p) same.moves same.path) ∙ sound.moves_left;
    width = subst (λ (p : List ℕ). HaveWidth (length (node_after n p).lefts) k.vectors) same.path
        (covered-width (length (node_after n l.path).lefts) l.vectors k.vectors same.vectors.0 sound.width);
    cites = subst (λ (ns : List ℕ). All (λ number. (1 ≤ number) × (number ≤ length ks)) ns) same.from
        (subst (λ m. All (λ number. (1 ≤ number) × (number ≤ m)) l.from) (length_all_zip SayAlike ls ks all) sound.cites);
    rule = subst (λ (r : Rule). KeepsRule r (node_after n k.path) k (cited_lines ks k.from)) same.rule
        (subst (λ (p : List ℕ). KeepsRule l.rule (node_after n p) k (cited_lines ks k.from)) same.path
        (subst (λ (ns : List ℕ). KeepsRule l.rule (node_after n l.path) k (cited_lines ks ns)) same.from
        (rule-alike (node_after n l.path) l k same l.rule (cited_lines ls l.from) (cited_lines ks l.from) (cited-alike ls ks l.from all) sound.rule)));
  }

  pub sound-alike_both : (ls ks : List LogLine) (l k : LogLine) → SayAllAlike ls ks → SayAlike l k
      → IsSoundLine n moves ls l ↔ IsSoundLine n moves ks k
  sound-alike_both ls ks l k all same = (sound-alike ls ks l k all same, sound-alike ks ls k l (all-sym ls ks all) (alike-sym l k same))

  pub are-alike : (ls ks : List LogLine) → SayAllAlike ls ks → AreSound n moves ls → AreSound n moves ks
  are-alike ls ks all are p k at =
      let x = all-at ks ls (all-sym ls ks all) p k at in
      sound-alike (take p ls) (take p ks) x.0 k (all-take p ls ks all) (alike-sym k x.0 x.2) (are p x.0 x.1)

  last-alike : (before : List LogLine) (last : LogLine) (ks : List LogLine) → SayAllAlike (before ++ last ∷ []) ks
      → (firsts : List LogLine) × (end : LogLine) × (ks ≡ firsts ++ end ∷ []) × SayAlike last end
  last-alike [] last [] same = absurd same
  last-alike [] last (k ∷ []) same = ([], k, refl, same.0)
  last-alike [] last (k ∷ j ∷ ks) same = absurd same.1
  last-alike (b ∷ before) last [] same = absurd same
  last-alike (b ∷ before) last (k ∷ ks) same =
      let x = last-alike before last ks same.1 in
      (k ∷ x.0, x.1, ap (λ (ys : List LogLine). k ∷ ys) x.2, x.3)

  pub ends-alike : (vs ws : List Vector) (ls ks : List LogLine) → CoverAlike vs ws → SayAllAlike ls ks → EndsAtRoot vs ls → EndsAtRoot ws ks
  ends-alike vs ws ls ks both all ends =
      let x = last-alike ends.before ends.last ks (subst (λ (ys : List LogLine). SayAllAlike ys ks) ends.is all) in
      record {
        before = x.0;
        last = x.1;
        is = x.2;
        at_root = sym x.3.path ∙ ends.at_root;
        covered = covers-trans ws vs x.1.vectors both.1 (covers-trans vs ends.last.vectors x.1.vectors ends.covered x.3.vectors.0);
      }

  valid-alike : (vs ws : List Vector) (ls ks : List LogLine) → CoverAlike vs ws → SayAllAlike ls ks → IsValidLog n moves vs ls → IsValidLog n moves ws ks
  valid-alike vs ws ls ks both all valid = record {
    sound = are-alike ls ks all valid.sound;
    ends = ends-alike vs ws ls ks both all valid.ends;
  }

  pub valid-alike_both : (vs ws : List Vector) (ls ks : List LogLine) → CoverAlike vs ws → SayAllAlike ls ks
      → IsValidLog n moves vs ls ↔ IsValidLog n moves ws ks
  valid-alike_both vs ws ls ks both all = (valid-alike vs ws ls ks both all, valid-alike ws vs ks ls (both.1, both.0) (all-sym ls ks all))
