use Rattle.std.proofs.Common.{◌≡◌, ◌+◌, ◌-◌, ◌<◌, ◌≤◌, ◌∙◌, ◌∷◌, [], ℕ, suc, true, List, length, drop, replicate, Contains, sym, ap, ap₂, subst, arith}
use Rattle.std.proofs.lemmas.List.{length-append}
use Rattle.card_sets.specs.SetWords.{has_card}
use Rattle.win_vectors.specs.Vectors.{ones_of}
use Rattle.win_vectors.specs.Fronts.{Vector, HaveWidth, IsReduced}
use Rattle.trick_rules.specs.Nodes.{NodeValue, choices, child, child_mask}
use Rattle.strategy_games.proofs.Lists.{All-at}
use Rattle.strategy_tree.proofs.BridgeNodes.{length-child_lefts, length-child_mask}
use Rattle.strategy_tree.proofs.CardLists.{has_card-from_Contains}
use Rattle.log_check.specs.Logs.{cited_lines}
use Rattle.log_check.specs.Steps.{CoverAlike}
use Rattle.log_check.proofs.Joined.{placed_by, number_at, left_by, joined-next, joined-start, last_card}
use Rattle.log_check.proofs.joining.joined_lines.Goals as goal

lower : (place n : ℕ) → 0 < place → place ≤ n → place - 1 < n
lower place n some within = omega arith

pub numbers-init : goal.numbers-init
numbers-init c =
    let same = ap (λ (ns : List ℕ). length ns) c.as_slice-numbers.ensures in
    record {
      width = c.in_ok-insert.ensures.width ∙ c.new-front.ensures.width ∙ c.width.ensures.value;
      within = omega arith;
      so_far = λ cards behind. joined-start c.args.node.now c.args.line.now.path cards c.args.lines.now c.args.line.now.from _ c.insert.new.self.vectors
          (omega arith) behind (subst (λ (vs : List Vector). IsReduced vs c.insert.new.self.vectors)
          (ap₂ (λ (v : Vector) (vs : List Vector). v ∷ vs) (c.all.ensures ∙ ap (λ k. replicate k true) c.width-2.ensures.value) c.new-front.ensures.empty)
          c.in_ok-insert.ensures.ok);
    }

pub overflow_sub-cited : goal.overflow_sub-cited
overflow_sub-cited c =
    (number_at c.args.lines.now c.args.line.now.from c.as_slice-numbers.result.now (c.numbers.place - 1) c.as_slice-numbers.ensures c.requires.cites.numbers (lower _ _ c.numbers-test.true c.numbers.invariant.within)).0

pub bounds-lines-numbers : goal.bounds-lines-numbers
bounds-lines-numbers c =
    let n = number_at c.args.lines.now c.args.line.now.from c.as_slice-numbers.result.now (c.numbers.place - 1) c.as_slice-numbers.ensures c.requires.cites.numbers (lower _ _ c.numbers-test.true c.numbers.invariant.within) in
    let first = n.0 in
    let last = n.1 in
    omega arith

pub get-requires : goal.get-requires
get-requires c =
    let at = placed_by c.args.line.now.path c.requires.behind.cards c.args.lines.now c.args.line.now.from c.as_slice-numbers.result.now (c.numbers.place - 1)
    c.index-lines-numbers.result c.as_slice-numbers.ensures c.requires.cites.numbers (lower _ _ c.numbers-test.true c.numbers.invariant.within) c.index-lines-numbers.is c.requires.behind.behind in
    let long : length c.index-lines-numbers.result.path ≡ length c.args.line.now.path + 1
    = ap (λ (xs : List ℕ). length xs) at.path_is ∙ length-append c.args.line.now.path (at.card ∷ []) in
    let is = c.len.ensures.value in
    omega arith

pub child-requires : goal.child-requires
child-requires c =
    let at = placed_by c.args.line.now.path c.requires.behind.cards c.args.lines.now c.args.line.now.from c.as_slice-numbers.result.now (c.numbers.place - 1)
    c.index-lines-numbers.result c.as_slice-numbers.ensures c.requires.cites.numbers (lower _ _ c.numbers-test.true c.numbers.invariant.within) c.index-lines-numbers.is c.requires.behind.behind in
    let card = last_card c.args.line.now.path c.index-lines-numbers.result.path at.card c.get.result c.len.result at.path_is c.len.ensures.value c.get.ensures in
    subst (λ x. has_card (choices c.args.node.now) x ≡ true) (sym card)
    (has_card-from_Contains (choices c.args.node.now) at.card
    (All-at (Contains (choices c.args.node.now)) c.requires.behind.cards c.requires.behind.are_choices at.card at.of_cards))

pub front_of-requires-clause-widths : goal.front_of-requires-clause-widths
front_of-requires-clause-widths c =
    let at = placed_by c.args.line.now.path c.requires.behind.cards c.args.lines.now c.args.line.now.from c.as_slice-numbers.result.now (c.numbers.place - 1)
    c.index-lines-numbers.result c.as_slice-numbers.ensures c.requires.cites.numbers (lower _ _ c.numbers-test.true c.numbers.invariant.within) c.index-lines-numbers.is c.requires.behind.behind in
    let card = last_card c.args.line.now.path c.index-lines-numbers.result.path at.card c.get.result c.len.result at.path_is c.len.ensures.value c.get.ensures in
    let child_is : length (child c.args.node.now at.card).lefts ≡ c.width-in-numbers.result
    = sym (c.width-in-numbers.ensures.value ∙ ap (λ (n : NodeValue). length n.lefts) c.in_ok-child.ensures.node
    ∙ ap (λ x. length (child c.args.node.now x).lefts) card) in
    subst (λ (vs : List Vector). HaveWidth c.width-in-numbers.result vs) (sym c.as_slice.ensures)
    (subst (λ w. HaveWidth w c.index-lines-numbers.result.vectors) child_is
    (c.requires.cites.widths c.index-lines-numbers.result at.card at.cited at.path_is))

pub joined_front-requires-clause-mask_width : goal.joined_front-requires-clause-mask_width
joined_front-requires-clause-mask_width c =
    ap (λ (m : Vector). length m) c.in_ok-child.ensures.mask ∙ length-child_mask c.args.node.now c.get.result ∙ sym c.numbers.invariant.width

pub joined_front-requires-clause-child_width : goal.joined_front-requires-clause-child_width
joined_front-requires-clause-child_width c =
    c.in_ok-won.ensures.width ∙ c.width-in-numbers.ensures.value ∙ ap (λ (n : NodeValue). length n.lefts) c.in_ok-child.ensures.node
    ∙ length-child_lefts c.args.node.now c.get.result ∙ ap ones_of (sym c.in_ok-child.ensures.mask)

pub numbers-preserved : goal.numbers-preserved
numbers-preserved c =
    let more = c.numbers-test.true in
    let within = c.numbers.invariant.within in
    let low : c.numbers.place - 1 < length c.as_slice-numbers.result.now = omega arith in
    let next : c.numbers.place ≡ suc (c.numbers.place - 1) = omega arith in
    record {
      width = c.in_ok-front.ensures.width ∙ c.numbers.invariant.width;
      within = omega arith;
      so_far = λ cards behind.
          let at = placed_by c.args.line.now.path cards c.args.lines.now c.args.line.now.from c.as_slice-numbers.result.now (c.numbers.place - 1)
          c.index-lines-numbers.result c.as_slice-numbers.ensures c.requires.cites.numbers low c.index-lines-numbers.is behind in
          let card = last_card c.args.line.now.path c.index-lines-numbers.result.path at.card c.get.result c.len.result at.path_is c.len.ensures.value c.get.ensures in
          joined-next c.args.node.now c.args.line.now.path cards c.args.lines.now c.args.line.now.from (c.numbers.place - 1) c.index-lines-numbers.result
          c.in_ok-child.mask c.numbers.front.vectors c.in_ok-won.won.vectors c.in_ok-front.front.vectors at
          (c.in_ok-child.ensures.mask ∙ ap (λ x. child_mask c.args.node.now x) card)
          (subst (λ k. CoverAlike (left_by c.args.node.now (drop k cards) (cited_lines c.args.lines.now (drop k c.args.line.now.from))) c.numbers.front.vectors)
          next (c.numbers.invariant.so_far cards behind))
          (subst (λ (vs : List Vector). CoverAlike vs c.in_ok-won.won.vectors) c.as_slice.ensures c.in_ok-won.ensures.alike)
          c.in_ok-front.ensures.reduced;
    }

pub returns : goal.returns
returns c cards behind =
    let end : c.numbers.place ≡ 0 = omega arith in
    subst (λ k. CoverAlike (left_by c.args.node.now (drop k cards) (cited_lines c.args.lines.now (drop k c.args.line.now.from))) c.numbers.front.vectors)
    end (c.numbers.invariant.so_far cards behind)
