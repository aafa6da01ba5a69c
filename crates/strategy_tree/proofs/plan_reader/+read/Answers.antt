use Rattle.std.proofs.Common.{◌≡◌, ℕ, ◌+◌, ◌-◌, [], ◌∷◌, ◌++◌, inr, Some, None, Result, List, map, rules, arith, refl}
use Rattle.std.proofs.lemmas.List.{map-append}
use Rattle.std.proofs.lemmas.Result.{err_from_is_err_and}
use Rattle.strategy_tree.specs.declared.plan_reader.PlanLine.TheVariants.{Stop, Play, Hear}
use Rattle.strategy_games.specs.Plans.{Plan, Replies}
use Rattle.strategy_tree.specs.declared.plan_reader.PlanFault.{PlanFault}
use Rattle.strategy_tree.specs.declared.plan.Plan.TheViews.{roll-Reply}
use Rattle.strategy_tree.specs.PlanMeaning.{answer_of, plan_of}
use Rattle.byte_text.specs.Lines.{said_at}
use Rattle.strategy_tree.specs.PlanRead.{plan_line, reply_line, node_read, replies_read}
use Rattle.strategy_tree.proofs.Meanings.{plan_of-Stop, plan_of-Play, plan_of-Hear}
use Rattle.strategy_tree.proofs.ReadingNodes.{same_fault, node_read-zero, node_read-none, node_read-stop, node_read-play, node_read-play_fault, node_read-hear, node_read-hear_fault, replies_read-stray, replies_read-broken, replies_read-turn, replies_read-end}
use Rattle.strategy_tree.proofs.plan_reader.+read.Goals as goal

pub read_node-returns-then-levels-eq0-clause-fault :
    goal.read_node-returns-then-levels-eq0-clause-fault
read_node-returns-then-levels-eq0-clause-fault t c = inr (node_read-zero c.args.levels c.args.bytes.now c.args.at c.if-levels-eq0.true)

pub read_node-returns-in_default-clause-fault : goal.read_node-returns-in_default-clause-fault
read_node-returns-in_default-clause-fault t c =
    let none : None ≡ said_at plan_line c.args.bytes.now c.args.at = search rules in
    inr (node_read-none c.args.levels c.args.bytes.now c.args.at (omega arith) none)

pub read_node-returns-in_err-rest-in-Play-clause-fault :
    goal.read_node-returns-in_err-rest-in-Play-clause-fault
read_node-returns-in_err-rest-in-Play-clause-fault t c =
    let p = err_from_is_err_and c.from_residual.result c.from_residual.ensures.1 in
    let said : Some (Play c.in-Play.card, c.in-Some.next) ≡ said_at plan_line c.args.bytes.now c.args.at = search rules in
    rw (p.1, p.2) (same_fault {x = node_read (c.args.levels - 1) c.args.bytes.now c.in-Some.next} {y = node_read c.args.levels c.args.bytes.now c.args.at} c.in_err-rest-in-Play.ensures.fault (node_read-play_fault c.args.levels c.args.bytes.now c.args.at c.in-Play.card c.in-Some.next c.in_err-rest-in-Play.field-0.0 (omega arith) said))

pub read_node-returns-in_err-replies-in-Hear-clause-fault :
    goal.read_node-returns-in_err-replies-in-Hear-clause-fault
read_node-returns-in_err-replies-in-Hear-clause-fault t c =
    let p = err_from_is_err_and c.from_residual-in_err-replies-in-Hear.result c.from_residual-in_err-replies-in-Hear.ensures.1 in
    let said : Some (Hear c.in-Hear.count, c.in-Some.next) ≡ said_at plan_line c.args.bytes.now c.args.at = search rules in
    rw (p.1, p.2) (same_fault {x = replies_read (λ place. node_read (c.args.levels - 1) c.args.bytes.now place) c.in-Hear.count c.args.bytes.now c.in-Some.next} {y = node_read c.args.levels c.args.bytes.now c.args.at} c.in_err-replies-in-Hear.ensures.fault (node_read-hear_fault c.args.levels c.args.bytes.now c.args.at c.in-Hear.count c.in-Some.next c.in_err-replies-in-Hear.field-0.0 (omega arith) said))

pub read_node-returns-in-Stop-clause-read : goal.read_node-returns-in-Stop-clause-read
read_node-returns-in-Stop-clause-read t c =
    let said : Some (Stop, c.in-Some.next) ≡ said_at plan_line c.args.bytes.now c.args.at = search rules in
    rw plan_of-Stop (node_read-stop c.args.levels c.args.bytes.now c.args.at c.in-Some.next (omega arith) said)

pub read_node-returns-in_ok-rest-in-Play-2-clause-read :
    goal.read_node-returns-in_ok-rest-in-Play-2-clause-read
read_node-returns-in_ok-rest-in-Play-2-clause-read t c =
    let said : Some (Play c.in-Play.card, c.in-Some.next) ≡ said_at plan_line c.args.bytes.now c.args.at = search rules in
    let boxed : c.in_ok-rest-in-Play-2.rest.value ≡ c.in_ok-rest-in-Play.rest = search rules in
    rw (plan_of-Play, boxed) (node_read-play c.args.levels c.args.bytes.now c.args.at c.in-Play.card c.in-Some.next _ c.in_ok-rest-in-Play.end (omega arith) said c.in_ok-rest-in-Play.ensures.read)

pub read_node-returns-in_ok-replies-in-Hear-clause-read :
    goal.read_node-returns-in_ok-replies-in-Hear-clause-read
read_node-returns-in_ok-replies-in-Hear-clause-read t c =
    let said : Some (Hear c.in-Hear.count, c.in-Some.next) ≡ said_at plan_line c.args.bytes.now c.args.at = search rules in
    rw plan_of-Hear (node_read-hear c.args.levels c.args.bytes.now c.args.at c.in-Hear.count c.in-Some.next _ c.in_ok-replies-in-Hear.end (omega arith) said c.in_ok-replies-in-Hear.ensures.read)

-- the plans of the replies, and what is read of the replies in all
abbrev below : List ℕ → ℕ → ℕ → Result (Plan ℕ × ℕ) PlanFault
below bytes levels at = node_read levels bytes at

abbrev whole : List ℕ → ℕ → ℕ → ℕ → Result (Replies ℕ × ℕ) PlanFault
whole bytes levels count start = replies_read (below bytes levels) count bytes start

pub read_replies-returns-in_default-clause-fault :
    goal.read_replies-returns-in_default-clause-fault
read_replies-returns-in_default-clause-fault t c =
    let none : None ≡ said_at reply_line c.args.bytes.now c.loop.at = search rules in
    inr (replies_read-stray (below c.args.bytes.now c.args.levels) c.args.bytes.now (whole c.args.bytes.now c.args.levels c.args.count c.args.start) (map answer_of c.loop.replies.items) (c.args.count - c.loop.counter) c.loop.at (omega arith) none c.loop.invariant.so_far)

pub read_replies-returns-in_err-plan-clause-fault :
    goal.read_replies-returns-in_err-plan-clause-fault
read_replies-returns-in_err-plan-clause-fault t c =
    let p = err_from_is_err_and c.from_residual.result c.from_residual.ensures.1 in
    let said : Some (c.in-Some.said.0, c.in-Some.said.1) ≡ said_at reply_line c.args.bytes.now c.loop.at = search rules in
    rw (p.1, p.2) (same_fault {x = below c.args.bytes.now c.args.levels c.in-Some.said.1} {y = whole c.args.bytes.now c.args.levels c.args.count c.args.start} c.in_err-plan.ensures.fault
    (λ e. replies_read-broken (below c.args.bytes.now c.args.levels) c.args.bytes.now (whole c.args.bytes.now c.args.levels c.args.count c.args.start) (map answer_of c.loop.replies.items) (c.args.count - c.loop.counter) c.loop.at c.in-Some.said.0 c.in-Some.said.1 c.in_err-plan.field-0.0 (omega arith) said e c.loop.invariant.so_far))

pub read_replies-loop-preserved : goal.read_replies-loop-preserved
read_replies-loop-preserved t c =
    let said : Some (c.in-Some.said.0, c.in-Some.said.1) ≡ said_at reply_line c.args.bytes.now c.loop.at = search rules in
    let pushed : c.push.new.self.items ≡ c.loop.replies.items ++ roll-Reply record { card = c.in-Some.said.0; plan = c.in_ok-plan.plan } ∷ [] = search rules in
    let items : map answer_of c.push.new.self.items ≡ map answer_of c.loop.replies.items ++ record { card = c.in-Some.said.0; plan = plan_of c.in_ok-plan.plan } ∷ [] = rw (pushed, map-append) refl in
    let left : c.args.count - (c.loop.counter + 1) ≡ c.args.count - c.loop.counter - 1 = omega arith in
    record {
      within = c.in_ok-plan.ensures.within;
      so_far = rw (items, left) (replies_read-turn (below c.args.bytes.now c.args.levels) c.args.bytes.now (whole c.args.bytes.now c.args.levels c.args.count c.args.start) (map answer_of c.loop.replies.items) (c.args.count - c.loop.counter) c.loop.at c.in-Some.said.0 c.in-Some.said.1 (plan_of c.in_ok-plan.plan) c.in_ok-plan.end (omega arith) said c.in_ok-plan.ensures.read c.loop.invariant.so_far);
    }

pub read_replies-returns-clause-read : goal.read_replies-returns-clause-read
read_replies-returns-clause-read t c =
    replies_read-end (below c.args.bytes.now c.args.levels) c.args.bytes.now (whole c.args.bytes.now c.args.levels c.args.count c.args.start) (map answer_of c.loop.replies.items) (c.args.count - c.loop.counter) c.loop.at (omega arith) c.loop.invariant.so_far
