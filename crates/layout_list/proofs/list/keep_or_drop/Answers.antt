use Rattle.std.proofs.Common.{◌≡◌, ◌+◌, ◌++◌, ◌<◌, ◌≤◌, ◌∷◌, [], Option, None, Some, length, drop, sym, ap, ◌∙◌, subst, arith}
use Rattle.std.specs.Prelude.{All, MatchOption}
use Rattle.std.specs.List.{enumerate_from}
use Rattle.std.proofs.lemmas.List.{length-append}
use Rattle.std.proofs.lemmas.List.Elements.{All-same, All-push}
use Rattle.win_vectors.specs.Weights.{IsWeight}
use Rattle.trick_rules.specs.Positions.{PositionValue}
use Rattle.layout_list.specs.declared.line.Weighed.{Weighed}
use Rattle.layout_list.specs.declared.list.Sorting.{Sorting}
use Rattle.layout_list.specs.Verdicts.{position_after}
use Rattle.layout_list.specs.Layouts.{verdict, numbers_kept, weights_kept, lefts_kept, dropped, IsAfter}
use Rattle.layout_list.proofs.Sort.{moved, unmoved, split_at, numbers_yes, numbers_no, weights_yes, weights_no, lefts_yes, lefts_no, dropped_yes, dropped_no, node_more, same_position}
use Rattle.layout_list.proofs.list.keep_or_drop.Goals as goal
use Rattle.layout_list.proofs.list.keep_or_drop.Goals.{in-Ok+in_ok-allow-in-Ok, in-Err+in_ok-rule_out-in-Err}

pub loop-index-preserved : goal.loop-index-preserved
loop-index-preserved c =
    let t = c.args.start.now in
    let plays = c.args.plays.now in
    let layouts = c.args.layouts.now in
    let i = c.loop-index.index in
    let weighed = c.index-layouts-index.result in
    let lt : i < length layouts = omega arith in
    let split = split_at layouts i weighed lt c.index-layouts-index.is in
    let rest = enumerate_from (i + 1 + 1) (drop (i + 1) layouts) in
    let inv = c.loop-index.invariant in
    let is_weight : IsWeight weighed.weight = subst (λ (d : Weighed). IsWeight d.weight) (sym c.index-layouts-index.is) (c.requires.weights i weighed lt) in
    let kept = λ (s : Sorting). record {
      count : length s.lefts.items ≤ i + 1;
      numbers : numbers_kept plays t (enumerate_from 1 layouts) ≡ s.numbers.items ++ numbers_kept plays t rest;
      weights : weights_kept plays t (enumerate_from 1 layouts) ≡ s.weights.items ++ weights_kept plays t rest;
      weighed : All IsWeight s.weights.items;
      as_many : length s.weights.items ≡ length s.lefts.items;
      lefts : lefts_kept plays t (enumerate_from 1 layouts) ≡ s.lefts.items ++ lefts_kept plays t rest;
      ruled_out : dropped plays t (enumerate_from 1 layouts) ≡ s.dropped.items ++ dropped plays t rest;
      position : MatchOption s.position (s.lefts.items ≡ []) (IsAfter plays t s.lefts.items);
    } in
    elim c.match-follow.branch [
      | in-Ok+in_ok-allow-in-Ok w ↦
          let a = w.in_ok-allow-in-Ok.ensures in
          let b = w.in-Ok.ensures in
          let none : verdict plays t weighed.layout ≡ None = ap (λ t. verdict plays t weighed.layout) (sym c.copy.ensures) ∙ b.verdict in
          let position = b.position ∙ ap (λ t. position_after t plays) c.copy.ensures in
          let longer = a.lefts ∙ ap (λ h. c.loop-index.sorting.lefts.items ++ h ∷ []) b.left in
          let after : IsAfter plays t w.allow.new.self.lefts.items w.in-Ok.followed.position =
          node_more plays t c.loop-index.sorting.lefts.items w.allow.new.self.lefts.items c.loop-index.sorting.position w.in-Ok.followed.position w.in-Ok.followed.left inv.position position b.state a.lefts (omega (arith, inv.count, c.requires.few)) in
          subst kept (sym w.sorting-is) (record {
            count = omega (arith, inv.count, ap length a.lefts, length-append c.loop-index.sorting.lefts.items (w.in-Ok.followed.left ∷ []));
            numbers = moved _ _ _ _ _ _ inv.numbers (ap (numbers_kept plays t) split ∙ numbers_yes plays t (i + 1) weighed rest none) a.numbers;
            weights = moved _ _ _ _ _ _ inv.weights (ap (weights_kept plays t) split ∙ weights_yes plays t (i + 1) weighed rest none) a.weights;
            weighed = All-same IsWeight _ _ a.weights (All-push IsWeight c.loop-index.sorting.weights.items weighed.weight inv.weighed is_weight);
            as_many = omega (arith, inv.as_many, ap length a.weights, ap length a.lefts, length-append c.loop-index.sorting.weights.items (weighed.weight ∷ []), length-append c.loop-index.sorting.lefts.items (w.in-Ok.followed.left ∷ []));
            lefts = moved _ _ _ _ _ _ inv.lefts (ap (lefts_kept plays t) split ∙ lefts_yes plays t (i + 1) weighed rest none) longer;
            ruled_out = unmoved _ _ _ _ _ inv.ruled_out (ap (dropped plays t) split ∙ dropped_yes plays t (i + 1) weighed rest none) a.dropped;
            position = subst (λ (o : Option PositionValue). MatchOption o (w.allow.new.self.lefts.items ≡ []) (IsAfter plays t w.allow.new.self.lefts.items)) (sym a.position) after;
          })
      | in-Err+in_ok-rule_out-in-Err w ↦
          let a = w.in_ok-rule_out-in-Err.ensures in
          let b = w.in-Err.ensures in
          let found = w.in-Err.found in
          let some : verdict plays t weighed.layout ≡ Some found = ap (λ t. verdict plays t weighed.layout) (sym c.copy.ensures) ∙ b.verdict in
          let weights = ap (λ v. v.items) a.weights in
          let lefts = ap (λ v. v.items) a.lefts in
          subst kept (sym w.sorting-is) (record {
            count = omega (arith, inv.count, ap length lefts);
            numbers = unmoved _ _ _ _ _ inv.numbers (ap (numbers_kept plays t) split ∙ numbers_no plays t (i + 1) weighed rest found some) (ap (λ v. v.items) a.numbers);
            weights = unmoved _ _ _ _ _ inv.weights (ap (weights_kept plays t) split ∙ weights_no plays t (i + 1) weighed rest found some) weights;
            weighed = All-same IsWeight _ _ weights inv.weighed;
            as_many = omega (arith, inv.as_many, ap length weights, ap length lefts);
            lefts = unmoved _ _ _ _ _ inv.lefts (ap (lefts_kept plays t) split ∙ lefts_no plays t (i + 1) weighed rest found some) lefts;
            ruled_out = moved _ _ _ _ _ _ inv.ruled_out (ap (dropped plays t) split ∙ dropped_no plays t (i + 1) weighed rest found some) a.dropped;
            position = same_position plays t c.loop-index.sorting.lefts.items w.rule_out.new.self.lefts.items c.loop-index.sorting.position w.rule_out.new.self.position inv.position lefts a.position;
          })
    ]
