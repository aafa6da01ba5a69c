use Rattle.std.proofs.Common.{◌≡◌, ℕ, ◌≤◌, ◌⊎◌, inl, inr, List, [], ◌++◌, length, Result, Ok, Err, IfErr, sym, ap, subst, ◌∙◌, append-nil}
use Rattle.std.proofs.lemmas.Result.{IfOk-weaker}
use Rattle.strategy_tree.specs.declared.plan_reader.PlanFault.{PlanFault}
use Rattle.strategy_tree.specs.declared.plan_reader.PlanFault.TheVariants.{Memory}
use Rattle.strategy_games.specs.Plans.{Plan}
use Rattle.strategy_tree.specs.PlanMeaning.{plan_of}
use Rattle.strategy_tree.specs.PlanText.{plan_text, levels_of, HasReplies, HasCards}
use Rattle.strategy_tree.specs.PlanRead.{plan_read, most_levels}
use Rattle.strategy_tree.proofs.ReadBack.{reads_back}
use Rattle.strategy_tree.proofs.plan_reader.plan_text_reads_back.Goals as goal

-- what was appended is read from the old end, whatever follows
read_on : (plan : Plan ℕ) (old out rest : List ℕ) → out ≡ old ++ plan_text plan → levels_of plan ≤ most_levels → HasReplies plan → HasCards plan → plan_read (out ++ rest) (length old) ≡ Ok (plan, length out)
read_on plan old out rest is fits replies cards = rw is (reads_back plan old rest fits replies cards)

read_all : (plan : Plan ℕ) (old out bytes : List ℕ) (start : ℕ) → bytes ≡ out → start ≡ length old → out ≡ old ++ plan_text plan → levels_of plan ≤ most_levels → HasReplies plan → HasCards plan → plan_read bytes start ≡ Ok (plan, length out)
read_all plan old out bytes start same at is fits replies cards = rw (same, at) (subst (λ xs. plan_read xs (length old) ≡ Ok (plan, length out)) (append-nil out) (read_on plan old out [] is fits replies cards))

same_read : {x : Result (Plan ℕ × ℕ) PlanFault} {p q : Plan ℕ} {m n : ℕ} → x ≡ Ok (p, m) → x ≡ Ok (q, n) → (p ≡ q) × (m ≡ n)
same_read {x} {p} {q} {m} {n} one other =
    let whole : Ok (p, m) ≡ Ok (q, n) = sym one ∙ other in
    let pair : (p, m) ≡ (q, n) = cc in
    (ap (λ (r : Plan ℕ × ℕ). r.0) pair, ap (λ (r : Plan ℕ × ℕ). r.1) pair)

only_memory : {x : Result (Plan ℕ × ℕ) PlanFault} {fault : PlanFault} {read : Plan ℕ × ℕ} → (fault ≡ Memory) ⊎ (x ≡ Err fault) → x ≡ Ok read → fault ≡ Memory
only_memory (inl memory) is = memory
only_memory (inr refused) is = let e = sym is ∙ refused in absurd cc

memory_alone : {A : Type 0} {x : Result (Plan ℕ × ℕ) PlanFault} {read : Plan ℕ × ℕ} (r : Result A PlanFault) → IfErr r (λ fault. (fault ≡ Memory) ⊎ (x ≡ Err fault)) → x ≡ Ok read → IfErr r (λ fault. fault ≡ Memory)
memory_alone (Ok y) cause is = cause
memory_alone (Err fault) cause is = only_memory cause is

pub returns-clause-same_plan : goal.returns-clause-same_plan
returns-clause-same_plan c fits replies =
    let whole = read_all (plan_of c.args.plan.now) c.args.out.now c.lines.new.out c.bytes.result.now (length c.bytes-start.result.now) c.bytes.ensures (ap length c.bytes-start.ensures) c.in_ok-lines.ensures.appended fits replies c.in_ok-lines.ensures.cards in
    IfOk-weaker c.read_plan.result _ _ (λ read is. same_read is whole) c.read_plan.ensures.read

pub returns-clause-memory : goal.returns-clause-memory
returns-clause-memory c fits replies =
    let whole = read_all (plan_of c.args.plan.now) c.args.out.now c.lines.new.out c.bytes.result.now (length c.bytes-start.result.now) c.bytes.ensures (ap length c.bytes-start.ensures) c.in_ok-lines.ensures.appended fits replies c.in_ok-lines.ensures.cards in
    memory_alone c.read_plan.result c.read_plan.ensures.fault whole

pub returns-clause-whatever_follows : goal.returns-clause-whatever_follows
returns-clause-whatever_follows c fits replies rest =
    let read = read_on (plan_of c.args.plan.now) c.args.out.now c.lines.new.out rest c.in_ok-lines.ensures.appended fits replies c.in_ok-lines.ensures.cards in
    IfOk-weaker c.read_plan.result _ _ (λ _ _. read) c.read_plan.ensures.read
