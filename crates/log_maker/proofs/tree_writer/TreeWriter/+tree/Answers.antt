use Rattle.std.proofs.Common.{[], List, ℕ, Err, sym, ap, subst, arith}
use Rattle.alphamu_core.specs.declared.answers.SearchFault.TheVariants.{Spent}
use Rattle.plain_fronts.proofs.CardByCard.{falls, child_fits, over_no_card, over_one_more, over_all}
use Rattle.log_check.specs.LogsFor.{line_of}
use Rattle.log_maker.proofs.Faults.{passed_on}
use Rattle.log_maker.proofs.Depths.{path_room, path_deeper}
use Rattle.log_maker.proofs.Growing.{AreWritten, written_none}
use Rattle.log_maker.proofs.CardsSoFar.{with_next, one_more, spent_at, spent_last, grown_by}
use Rattle.log_maker.proofs.InnerNodes.{size_inner, lines_inner}
use Rattle.log_maker.proofs.SameWriter.{same_none, same_more}
use Rattle.log_maker.proofs.tree_writer.TreeWriter.+tree.Goals as goal

pub write_inner-cards-init : goal.write_inner-cards-init
write_inner-cards-init t c = record {
  so = record {
    earlier = [];
    are = sym c.choices-cards.ensures;
    width = c.in_ok-front.ensures.width;
    best = over_no_card c.args.node.now c.moves_after-left.result c.in_ok-front.front.vectors c.in_ok-front.ensures.ours c.in_ok-front.ensures.theirs;
    written = subst (λ (ns : List ℕ). AreWritten c.args.node.now c.moves_after-left.result c.args.path c.args.self.now.log.now [] ns c.args.self.now.log.now) (sym c.new-from.ensures)
        (written_none c.args.node.now c.moves_after-left.result c.args.path c.args.self.now.log.now);
  };
  same = same_none c.args.self.now;
}

pub write_inner-path_after-behind-requires : goal.write_inner-path_after-behind-requires
write_inner-path_after-behind-requires t c =
    let so = c.cards.invariant.so in
    path_room c.args.node.now c.in_ok-child.child c.args.path so.earlier c.pop_first.new.self c.in-Some.card c.front_of_no_card.ensures.a_node (with_next so c.in-Some.ensures.value) c.in_ok-child.ensures.node c.requires.path

pub write_inner-write_node-requires : goal.write_inner-write_node-requires
write_inner-write_node-requires t c =
    let so = c.cards.invariant.so in
    let are = with_next so c.in-Some.ensures.value in
    let a_node = c.front_of_no_card.ensures.a_node in
    let deeper = path_deeper c.args.node.now c.in_ok-child.child c.args.path c.path_after-behind.result so.earlier c.pop_first.new.self c.in-Some.card a_node are c.in_ok-child.ensures.node c.path_after-behind.ensures c.requires.path in
    let limit = c.cards.invariant.same.limit in
    (omega (arith, falls c.args.node.now c.in_ok-child.child so.earlier c.pop_first.new.self c.in-Some.card a_node are c.in_ok-child.ensures.node), (deeper, omega (arith, c.requires.limit, limit)))

pub write_inner-returns-in_err-won-clause-spent : goal.write_inner-returns-in_err-won-clause-spent
write_inner-returns-in_err-won-clause-spent t c = λ e.
    let fault = passed_on c.from_residual-in_err-won.result c.in_err-won.field-0.0 Spent c.from_residual-in_err-won.ensures.1 e in
    let size = size_inner c.args.node.now c.args.moves c.moves_after-left.result c.requires.goes_on c.moves_after-left.ensures.ours c.moves_after-left.ensures.theirs c.front_of_no_card.ensures.a_node in
    spent_at c.cards.invariant.so c.args.moves c.args.self.now.limit c.cards.self.limit c.in_ok-child.child c.in-Some.ensures.value size c.front_of_no_card.ensures.a_node
    c.in_ok-child.ensures.node c.cards.invariant.same.limit (c.in_err-won.ensures.spent (ap Err fault))

pub write_inner-with_child-requires : goal.write_inner-with_child-requires
write_inner-with_child-requires t c =
    let so = c.cards.invariant.so in
    let fits = child_fits c.args.node.now c.in_ok-child.child so.earlier c.pop_first.new.self c.in-Some.card c.in_ok-child.mask c.cards.front.width c.in_ok-won.won.width
    (with_next so c.in-Some.ensures.value) c.in_ok-child.ensures.node c.in_ok-child.ensures.mask so.width c.in_ok-won.ensures.written.front.width in
    record { mask_width = fits.mask_width; child_width = fits.child_width; ours = fits.ours }

pub write_inner-cards-preserved : goal.write_inner-cards-preserved
write_inner-cards-preserved t c =
    let so = c.cards.invariant.so in
    let best = over_one_more c.args.node.now c.in_ok-child.child c.moves_after-left.result so.earlier c.pop_first.new.self c.in-Some.card c.in_ok-child.mask c.cards.front.vectors c.in_ok-won.won.vectors c.in_ok-front-2.front.vectors
    c.front_of_no_card.ensures.a_node (with_next so c.in-Some.ensures.value) so.best c.in_ok-child.ensures.node c.in_ok-child.ensures.mask c.in_ok-won.ensures.written.front.front c.in_ok-front-2.ensures.ours c.in_ok-front-2.ensures.theirs in
    record {
      so = one_more so c.in-Some.ensures.value c.in_ok-front-2.ensures.width best c.in_ok-won.ensures.written.grown c.in_ok-child.ensures.node c.path_after-behind.ensures c.len.ensures c.in_ok-push.ensures.ok;
      same = same_more c.cards.invariant.same c.in_ok-won.ensures.same;
    }

pub write_inner-returns-in_err-push-2-clause-spent : goal.write_inner-returns-in_err-push-2-clause-spent
write_inner-returns-in_err-push-2-clause-spent t c = λ e.
    let fault = passed_on c.from_residual-in_err-push-2.result c.in_err-push-2.field-0.0 Spent c.from_residual-in_err-push-2.ensures.1 e in
    let full = c.in_err-push-2.ensures.spent (ap Err fault) in
    let size = size_inner c.args.node.now c.args.moves c.moves_after-left.result c.requires.goes_on c.moves_after-left.ensures.ours c.moves_after-left.ensures.theirs c.front_of_no_card.ensures.a_node in
    spent_last c.cards.invariant.so c.in_default.ensures.value.0 c.args.moves c.args.self.now.limit c.cards.self.limit size c.front_of_no_card.ensures.a_node c.cards.invariant.same.limit (omega arith)

pub write_inner-returns-clause-written : goal.write_inner-returns-clause-written
write_inner-returns-clause-written t c =
    let so = c.cards.invariant.so in
    let none = c.in_default.ensures.value.0 in
    let limit = c.cards.invariant.same.limit in
    let after = c.moves_after-left.ensures in
    let best = over_all c.args.node.now c.args.moves c.moves_after-left.result so.earlier c.cards.cards c.cards.front.vectors c.front_of_no_card.ensures.a_node c.requires.goes_on after.ours after.theirs so.are none so.best in
    record {
      front = record { width = so.width; front = best };
      grown = grown_by so none c.args.moves c.in_ok-line.line (line_of c.inner_rule.result c.args.path c.args.moves c.cards.from c.cards.front.vectors) c.push-2.new.self.log.now
          (λ lines are. lines_inner c.args.node.now c.args.moves c.moves_after-left.result c.requires.goes_on after.ours after.theirs c.args.path c.args.self.now.log.now.count c.cards.from c.inner_rule.result lines c.cards.front.vectors
          c.inner_rule.ensures.ours c.inner_rule.ensures.theirs best are)
          c.in_ok-line.ensures c.in_ok-push-2.ensures.pushed;
      fits = omega (arith, c.in_ok-push-2.ensures.fits, limit);
    }

pub write_inner-returns-clause-same : goal.write_inner-returns-clause-same
write_inner-returns-clause-same t c = same_more c.cards.invariant.same c.in_ok-push-2.ensures.same
