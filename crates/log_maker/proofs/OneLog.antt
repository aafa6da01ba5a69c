-- A node has one log.
use Rattle.std.proofs.Common.{◌≡◌, ◌+◌, ◌-◌, ◌∙◌, ℕ, List, [], ◌∷◌, ◌++◌, length, refl, sym, ap, ap₂, subst}
use Rattle.std.proofs.lemmas.Bool.{true≢false}
use Rattle.win_vectors.specs.Fronts.{Vector}
use Rattle.trick_rules.specs.Nodes.{NodeValue, choices, child}
use Rattle.strategy_tree.proofs.BridgeLaws.{one_front}
use Rattle.log_check.specs.declared.lines.Rule.{Rule}
use Rattle.log_check.specs.declared.lines.Rule.TheVariants.{Leaf, Union, Join}
use Rattle.log_check.specs.declared.lines.LogLine.{LogLine}
use Rattle.log_check.specs.LogsFor.{line_of, IsLogFrom, AreLogsFrom, IsLogFor}
use Rattle.log_check.specs.LogsFor.IsLogFrom.{at_stop, at_declarer, at_defender}
use Rattle.log_check.specs.LogsFor.AreLogsFrom.{no_child, child_first}

same_end : (rule : Rule) (path : List ℕ) (moves : ℕ) (ns ms : List ℕ) (front other : List Vector) (xs ys : List LogLine)
    → (ns ≡ ms) × (xs ≡ ys) → front ≡ other → xs ++ line_of rule path moves ns front ∷ [] ≡ ys ++ line_of rule path moves ms other ∷ []
same_end rule path moves ns ms front other xs ys same fronts =
    ap₂ (λ (ls : List LogLine) (l : LogLine). ls ++ l ∷ []) same.1 (ap₂ (λ (k : List ℕ) (f : List Vector). line_of rule path moves k f) same.0 fronts)

mutual
  same_lines : (n : NodeValue) (moves : ℕ) (path : List ℕ) (earlier : ℕ) (xs : List LogLine) → IsLogFrom n moves path earlier xs
      → (ys : List LogLine) → IsLogFrom n moves path earlier ys → xs ≡ ys
  same_lines _ _ _ _ _ (at_stop n moves path earlier front stop is) _ (at_stop _ _ _ _ other stop' is') =
      ap (λ (f : List Vector). line_of Leaf path moves [] f ∷ []) (one_front.unique n moves front other is is')
  same_lines _ _ _ _ _ (at_stop n moves path earlier front stop is) _ (at_declarer _ _ _ _ ms ys other on ours is' below) = absurd (true≢false (sym stop ∙ on))
  same_lines _ _ _ _ _ (at_stop n moves path earlier front stop is) _ (at_defender _ _ _ _ ms ys other on theirs is' below) = absurd (true≢false (sym stop ∙ on))
  same_lines _ _ _ _ _ (at_declarer n moves path earlier ns xs front on ours is below) _ (at_stop _ _ _ _ other stop is') = absurd (true≢false (sym stop ∙ on))
  same_lines _ _ _ _ _ (at_declarer n moves path earlier ns xs front on ours is below) _ (at_declarer _ _ _ _ ms ys other on' ours' is' below') =
      same_end Union path moves ns ms front other xs ys
      (same_children n (moves - 1) path earlier (choices n) ns xs below ms ys below') (one_front.unique n moves front other is is')
  same_lines _ _ _ _ _ (at_declarer n moves path earlier ns xs front on ours is below) _ (at_defender _ _ _ _ ms ys other on' theirs is' below') =
      absurd (true≢false (sym ours ∙ theirs))
  same_lines _ _ _ _ _ (at_defender n moves path earlier ns xs front on theirs is below) _ (at_stop _ _ _ _ other stop is') = absurd (true≢false (sym stop ∙ on))
  same_lines _ _ _ _ _ (at_defender n moves path earlier ns xs front on theirs is below) _ (at_declarer _ _ _ _ ms ys other on' ours is' below') =
      absurd (true≢false (sym ours ∙ theirs))
  same_lines _ _ _ _ _ (at_defender n moves path earlier ns xs front on theirs is below) _ (at_defender _ _ _ _ ms ys other on' theirs' is' below') =
      same_end Join path moves ns ms front other xs ys
      (same_children n moves path earlier (choices n) ns xs below ms ys below') (one_front.unique n moves front other is is')

  same_children : (n : NodeValue) (moves : ℕ) (path : List ℕ) (earlier : ℕ) (cards ns : List ℕ) (xs : List LogLine)
      → AreLogsFrom n moves path earlier cards ns xs
      → (ms : List ℕ) (ys : List LogLine) → AreLogsFrom n moves path earlier cards ms ys → (ns ≡ ms) × (xs ≡ ys)
  same_children _ _ _ _ _ _ _ (no_child n moves path earlier) _ _ (no_child _ _ _ _) = (refl, refl)
  same_children _ _ _ _ _ _ _ (child_first n moves path earlier card cards ns xs xss log rest) _ _ (child_first _ _ _ _ _ _ ms ys yss log' rest') =
      let firsts = same_lines (child n card) moves (path ++ card ∷ []) earlier xs log ys log' in
      let at : AreLogsFrom n moves path (earlier + length xs) cards ms yss
      = subst (λ (zs : List LogLine). AreLogsFrom n moves path (earlier + length zs) cards ms yss) (sym firsts) rest' in
      let others = same_children n moves path (earlier + length xs) cards ns xss rest ms yss at in
      (ap₂ (λ (zs : List LogLine) (ks : List ℕ). (earlier + length zs) ∷ ks) firsts others.0, ap₂ (λ (zs zss : List LogLine). zs ++ zss) firsts others.1)

pub one_log : (n : NodeValue) (moves : ℕ) (lines others : List LogLine) → IsLogFor n moves lines → IsLogFor n moves others → lines ≡ others
one_log n moves lines others log other = same_lines n moves [] 0 lines log others other
