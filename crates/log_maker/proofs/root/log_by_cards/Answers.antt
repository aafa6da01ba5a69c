use Rattle.std.proofs.Common.{◌≡◌, ◌-◌, ◌<◌, [], ◌∷◌, List, ℕ, Err, refl, sym, ap, subst, ◌∙◌, arith}
use Rattle.win_vectors.specs.Fronts.{Vector, IsFrontOf}
use Rattle.trick_rules.specs.Nodes.{choices, child}
use Rattle.strategy_games.specs.Plans.{tree_size}
use Rattle.strategy_games.specs.Joins.{WinsByCard}
use Rattle.strategy_games.proofs.Lists.{Contains-nil}
use Rattle.strategy_tree.specs.Bridge.{bridge}
use Rattle.strategy_tree.proofs.BridgeLaws.{steps}
use Rattle.strategy_tree.specs.declared.root_fault.RootFault.TheVariants.{Spent}
use Rattle.log_check.specs.declared.lines.Rule.TheVariants.{Union}
use Rattle.log_check.specs.LogsFor.{line_of}
use Rattle.log_check.specs.LogsFor.IsLogFrom.{at_declarer}
use Rattle.log_texts.specs.Written.{WrittenLog, begun}
use Rattle.plain_fronts.proofs.CardByCard.{member, our_width, declarer_end}
use Rattle.log_maker.proofs.Faults.{passed_on}
use Rattle.log_maker.proofs.CardsSoFar.{with_next, grown_by}
use Rattle.log_maker.proofs.RootLogs.{RootSoFar, text_from_grown, written_at_start, root_room, root_end, root_more, root_spent}
use Rattle.log_maker.proofs.root.log_by_cards.Goals as goal

pub cards-init : goal.cards-init
cards-init c =
    let empty : c.in_ok-log.log.count ≡ 0 = ap (λ (w : WrittenLog). w.count) c.in_ok-log.ensures in
    record {
      so = record {
        earlier = [];
        are = sym c.choices-cards.ensures;
        width = c.new-front.ensures.width ∙ c.width.ensures.value;
        best = subst (λ (vs : List Vector). IsFrontOf (WinsByCard bridge c.args.node.now (c.args.moves - 1) []) vs) (sym c.new-front.ensures.empty) (steps.no_card c.args.node.now (c.args.moves - 1));
        written = written_at_start c.args.node.now (c.args.moves - 1) c.new-from.result c.in_ok-log.log c.new-from.ensures c.in_ok-log.ensures;
      };
      short = omega arith;
      fit = λ card mem. absurd (Contains-nil card mem);
    }

pub overflow_add-limit : goal.overflow_add-limit
overflow_add-limit c =
    let so = c.cards.invariant.so in
    let room = root_room c.args.node.now so.earlier c.pop_first.new.self c.in-Some.card c.args.nodes c.cards.log c.width.ensures.a_node c.requires.ours (with_next so c.in-Some.ensures.value) c.cards.invariant.short c.requires.few_nodes in
    omega arith

pub write_after-requires-clause-card : goal.write_after-requires-clause-card
write_after-requires-clause-card c =
    let so = c.cards.invariant.so in
    member (choices c.args.node.now) so.earlier c.pop_first.new.self c.in-Some.card (with_next so c.in-Some.ensures.value)

pub write_after-requires-clause-limit : goal.write_after-requires-clause-limit
write_after-requires-clause-limit c =
    let so = c.cards.invariant.so in
    let room = root_room c.args.node.now so.earlier c.pop_first.new.self c.in-Some.card c.args.nodes c.cards.log c.width.ensures.a_node c.requires.ours (with_next so c.in-Some.ensures.value) c.cards.invariant.short c.requires.few_nodes in
    omega arith

pub returns-in_err-won-clause-spent : goal.returns-in_err-won-clause-spent
returns-in_err-won-clause-spent c = λ card e.
    let so = c.cards.invariant.so in
    let fault = passed_on c.from_residual-in_err-won.result c.in_err-won.field-0.0 (Spent card) c.from_residual-in_err-won.ensures.1 e in
    let spent = c.in_err-won.ensures.spent card (ap Err fault) in
    let over : c.args.nodes < tree_size bridge (child c.args.node.now c.in-Some.card) (c.args.moves - 1) = (let large = spent.1 in omega arith) in
    root_spent c.args.node.now (c.args.moves - 1) c.args.nodes so.earlier c.pop_first.new.self c.in-Some.card card (with_next so c.in-Some.ensures.value) c.cards.invariant.fit (spent.0, over)

pub union-requires : goal.union-requires
union-requires c =
    let so = c.cards.invariant.so in
    c.in_ok-won.ensures.written.front.width
    ∙ our_width c.args.node.now (child c.args.node.now c.in-Some.card) so.earlier c.pop_first.new.self c.in-Some.card c.requires.ours (with_next so c.in-Some.ensures.value) refl
    ∙ sym so.width

pub cards-preserved-in_ok-push : goal.cards-preserved-in_ok-push
cards-preserved-in_ok-push c =
    let fits = c.in_ok-won.ensures.written.fits in
    let log_is = c.log-in-Some-3-1.given.1 (sym c.in_ok-won.ensures.same.log) in
    subst (λ (w : WrittenLog). RootSoFar c.args.node.now c.args.moves c.args.nodes c.pop_first.new.self c.union.new.self c.push.new.self w) (sym log_is)
    (root_more c.cards.invariant c.in-Some.ensures.value c.width.ensures.a_node c.requires.few_nodes c.in_ok-won.ensures.written.front c.in_ok-union.ensures.width c.in_ok-union.ensures.ok
    c.in_ok-won.ensures.written.grown (omega arith) (c.len-in-Some.ensures ∙ ap (λ (w : WrittenLog). w.count) log_is) c.in_ok-push.ensures.ok)

pub cards-preserved : goal.cards-preserved
cards-preserved c =
    let fits = c.in_ok-won.ensures.written.fits in
    let log_is = c.log-in-Some-3-1.given.1 (sym c.in_ok-won.ensures.same.log) in
    subst (λ (w : WrittenLog). RootSoFar c.args.node.now c.args.moves c.args.nodes c.pop_first.new.self c.union.new.self c.push.new.self w) (sym log_is)
    (root_more c.cards.invariant c.in-Some.ensures.value c.width.ensures.a_node c.requires.few_nodes c.in_ok-won.ensures.written.front c.in_ok-union.ensures.width c.in_ok-union.ensures.ok
    c.in_ok-won.ensures.written.grown (omega arith) (c.len-in-Some.ensures ∙ ap (λ (w : WrittenLog). w.count) log_is) c.in_ok-push.ensures.ok)

pub push-requires-2 : goal.push-requires-2
push-requires-2 c =
    let so = c.cards.invariant.so in
    root_end c.args.node.now so.earlier c.cards.cards c.cards.log c.width.ensures.a_node c.requires.ours so.are c.cards.invariant.short

pub returns-clause-text : goal.returns-clause-text
returns-clause-text c =
    let n = c.args.node.now in
    let so = c.cards.invariant.so in
    let none = c.in_default.ensures.value.0 in
    let best = declarer_end n c.args.moves so.earlier c.cards.cards c.cards.front.vectors c.width.ensures.a_node c.requires.goes_on c.requires.ours so.are none so.best in
    let line_is = c.in_ok-line.ensures ∙ ap (λ p. line_of Union p c.args.moves c.cards.from c.cards.front.vectors) c.new-2.ensures in
    let grown = grown_by so none c.args.moves c.in_ok-line.line (line_of Union [] c.args.moves c.cards.from c.cards.front.vectors) c.push-2.new.self
    (λ lines are. at_declarer n c.args.moves [] 0 c.cards.from lines c.cards.front.vectors c.requires.goes_on c.requires.ours best are) line_is c.in_ok-push-2.ensures in
    text_from_grown n c.args.moves begun c.push-2.new.self c.in_ok-text.text grown refl c.in_ok-text.ensures
