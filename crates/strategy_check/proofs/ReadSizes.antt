-- A plan that was read has at most as many nodes as its text has bytes.
use Rattle.std.proofs.Common.{◌≡◌, ◌≤◌, ◌+◌, ℕ, zero, suc, Option, None, Some, option_and_then, Result, Ok, Err, List, length, refl, subst, ap, arith}
use Rattle.std.specs.Option.{option_map}
use Rattle.strategy_games.specs.Plans as games
use Rattle.strategy_games.specs.Plans.{Plan, Replies}
use Rattle.strategy_games.specs.Misfits.{node_count, node_counts}
use Rattle.strategy_tree.specs.declared.plan_reader.PlanFault.{PlanFault}
use Rattle.strategy_tree.specs.declared.plan_reader.PlanLine.{PlanLine}
use Rattle.strategy_tree.specs.declared.plan_reader.PlanLine.TheVariants.{Stop, Play, Hear}
use Rattle.byte_text.specs.Steps.{◌>>=◌}
use Rattle.strategy_tree.specs.PlanRead.{plan_line, reply_line, line_or_fault, replies_read, below_line, node_read, plan_read}
use Rattle.byte_text.specs.Lines.{line_at, said_at}

bind_ok : {A B : Type 0} (r : Result A PlanFault) (f : A → Result B PlanFault) (y : B) → (r >>= f) ≡ Ok y → (x : A) × (r ≡ Ok x) × (f x ≡ Ok y)
bind_ok (Ok x) f y h = (x, refl, h)
bind_ok (Err e) f y h = absurd cc

ok_same : {A : Type 0} (x y : A) → ◌≡◌ {A = Result A PlanFault} (Ok x) (Ok y) → x ≡ y
ok_same x y h = cc

said_ok : {A : Type 0} (at : ℕ) (o : Option A) (x : A) → line_or_fault at o ≡ Ok x → o ≡ Some x
said_ok at None x h = absurd cc
said_ok at (Some y) x h = ap (λ z. Some z) (ok_same y x h)

some_same : {A : Type 0} (x y : A) → Some x ≡ Some y → x ≡ y
some_same x y h = cc

-- a line has at least its end
pub said_later : {A : Type 0} (says : List ℕ → Option A) (bytes : List ℕ) (at : ℕ) (x : A × ℕ) → said_at says bytes at ≡ Some x → at + 1 ≤ x.1
said_later {A} says bytes at x h = from_line (line_at bytes at) h
  where
    from_said : (line : List ℕ) (o : Option A) → option_map (λ said. (said, at + length line + 1)) o ≡ Some x → at + 1 ≤ x.1
    from_said line None h = absurd cc
    from_said line (Some said) h = let end : at + length line + 1 ≡ x.1 = ap (λ (p : A × ℕ). p.1) (some_same (said, at + length line + 1) x h) in omega arith

    from_line : (o : Option (List ℕ)) → option_and_then (λ line. option_map (λ said. (said, at + length line + 1)) (says line)) o ≡ Some x → at + 1 ≤ x.1
    from_line None h = absurd cc
    from_line (Some line) h = from_said line (says line) h

module _ (below : ℕ → Result (Plan ℕ × ℕ) PlanFault) (bytes : List ℕ) (each : (at : ℕ) (x : Plan ℕ × ℕ) → below at ≡ Ok x → at + node_count x.0 ≤ x.1) where
  replies_nodes : (count at : ℕ) (x : Replies ℕ × ℕ) → replies_read below count bytes at ≡ Ok x → at + node_counts x.0 ≤ x.1
  replies_nodes zero at x h = subst (λ (y : Replies ℕ × ℕ). at + node_counts y.0 ≤ y.1) (ok_same (games.NoReply, at) x h) (omega arith)
  replies_nodes (suc count) at x h =
      let said = bind_ok (line_or_fault at (said_at reply_line bytes at)) (λ s. below s.1 >>= (λ p. replies_read below count bytes p.1 >>= (λ l. Ok (games.Reply s.0 p.0 l.0, l.1)))) x h in
      let plan = bind_ok (below said.0.1) (λ p. replies_read below count bytes p.1 >>= (λ l. Ok (games.Reply said.0.0 p.0 l.0, l.1))) x said.2 in
      let later = bind_ok (replies_read below count bytes plan.0.1) (λ l. Ok (games.Reply said.0.0 plan.0.0 l.0, l.1)) x plan.2 in
      subst (λ (y : Replies ℕ × ℕ). at + node_counts y.0 ≤ y.1) (ok_same (games.Reply said.0.0 plan.0.0 later.0.0, later.0.1) x later.2)
      (omega (arith, said_later reply_line bytes at said.0 (said_ok at (said_at reply_line bytes at) said.0 said.1), each said.0.1 plan.0 plan.1, replies_nodes count plan.0.1 later.0 later.1))

  below_nodes : (line : PlanLine) (at : ℕ) (x : Plan ℕ × ℕ) → below_line below bytes line at ≡ Ok x → at + node_count x.0 ≤ x.1 + 1
  below_nodes Stop at x h = subst (λ (y : Plan ℕ × ℕ). at + node_count y.0 ≤ y.1 + 1) (ok_same (games.Stop, at) x h) (omega arith)
  below_nodes (Play card) at x h =
      let rest = bind_ok (below at) (λ p. Ok (games.Play card p.0, p.1)) x h in
      subst (λ (y : Plan ℕ × ℕ). at + node_count y.0 ≤ y.1 + 1) (ok_same (games.Play card rest.0.0, rest.0.1) x rest.2) (omega (arith, each at rest.0 rest.1))
  below_nodes (Hear count) at x h =
      let replies = bind_ok (replies_read below count bytes at) (λ rs. Ok (games.Hear rs.0, rs.1)) x h in
      subst (λ (y : Plan ℕ × ℕ). at + node_count y.0 ≤ y.1 + 1) (ok_same (games.Hear replies.0.0, replies.0.1) x replies.2) (omega (arith, replies_nodes count at replies.0 replies.1))

node_nodes : (levels : ℕ) (bytes : List ℕ) (at : ℕ) (x : Plan ℕ × ℕ) → node_read levels bytes at ≡ Ok x → at + node_count x.0 ≤ x.1
unfolding node_read
node_nodes zero bytes at x h = absurd cc
node_nodes (suc levels) bytes at x h =
    let said = bind_ok (line_or_fault at (said_at plan_line bytes at)) (λ s. below_line (λ next. node_read levels bytes next) bytes s.0 s.1) x h in
    omega (
      arith,
      said_later plan_line bytes at said.0 (said_ok at (said_at plan_line bytes at) said.0 said.1),
      below_nodes (λ next. node_read levels bytes next) bytes (λ place y e. node_nodes levels bytes place y e) said.0.0 said.0.1 x said.2,
    )

pub read_nodes : (bytes : List ℕ) (start end : ℕ) (plan : Plan ℕ) → plan_read bytes start ≡ Ok (plan, end) → start + node_count plan ≤ end
unfolding plan_read
read_nodes bytes start end plan h = node_nodes 64 bytes start (plan, end) h
