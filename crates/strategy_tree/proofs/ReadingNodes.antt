-- What a reader of nodes and of replies goes through, line by line.
use Rattle.std.proofs.Common.{◌≡◌, ℕ, zero, suc, ◌-◌, ◌<◌, ◌⊎◌, inl, inr, Option, Some, None, Result, Ok, Err, List, [], ◌∷◌, ◌++◌, refl, sym, ap, ◌∙◌, arith}
use Rattle.strategy_games.specs.Plans as games
use Rattle.strategy_games.specs.Plans.{Plan, Replies}
use Rattle.strategy_tree.specs.declared.plan_reader.PlanFault.{PlanFault}
use Rattle.strategy_tree.specs.declared.plan_reader.PlanFault.TheVariants.{Line, Deep, Memory}
use Rattle.strategy_tree.specs.declared.plan_reader.PlanLine.{PlanLine}
use Rattle.strategy_tree.specs.declared.plan_reader.PlanLine.TheVariants.{Stop, Play, Hear}
use Rattle.strategy_tree.specs.PlanMeaning.{Answer, answers_of}
use Rattle.byte_text.specs.Steps.{◌>>=◌}
use Rattle.strategy_tree.specs.PlanRead.{plan_line, reply_line, line_or_fault, replies_read, below_line, node_read}
use Rattle.byte_text.specs.Lines.{said_at}

-- a fault of one step is the fault of the whole, and memory is free
pub same_fault : {A B : Type 0} {x : Result A PlanFault} {y : Result B PlanFault} {fault : PlanFault} → (fault ≡ Memory) ⊎ (x ≡ Err fault) → (x ≡ Err fault → y ≡ Err fault) → (fault ≡ Memory) ⊎ (y ≡ Err fault)
same_fault (inl memory) f = inl memory
same_fault (inr e) f = inr (f e)

pub node_read-zero : (levels : ℕ) (bytes : List ℕ) (at : ℕ) → levels ≡ 0 → node_read levels bytes at ≡ Err (Deep at)
unfolding node_read
node_read-zero levels bytes at none = rw none refl

node_read-more : (levels : ℕ) (bytes : List ℕ) (at : ℕ) (said : Option (PlanLine × ℕ)) → 0 < levels → said_at plan_line bytes at ≡ said
    → node_read levels bytes at ≡ (line_or_fault at said >>= (λ s. below_line (λ next. node_read (levels - 1) bytes next) bytes s.0 s.1))
unfolding node_read
node_read-more zero bytes at said more is = absurd (omega arith)
node_read-more (suc levels) bytes at said more is = let one : suc levels - 1 ≡ levels = omega arith in rw (is, one) refl

pub node_read-none : (levels : ℕ) (bytes : List ℕ) (at : ℕ) → 0 < levels → None ≡ said_at plan_line bytes at → node_read levels bytes at ≡ Err (Line at)
node_read-none levels bytes at more said = node_read-more levels bytes at None more (sym said)

pub node_read-stop : (levels : ℕ) (bytes : List ℕ) (at next : ℕ) → 0 < levels → Some (Stop, next) ≡ said_at plan_line bytes at → node_read levels bytes at ≡ Ok (games.Stop, next)
node_read-stop levels bytes at next more said = node_read-more levels bytes at (Some (Stop, next)) more (sym said)

pub node_read-play : (levels : ℕ) (bytes : List ℕ) (at card next : ℕ) (plan : Plan ℕ) (end : ℕ) → 0 < levels → Some (Play card, next) ≡ said_at plan_line bytes at
    → node_read (levels - 1) bytes next ≡ Ok (plan, end) → node_read levels bytes at ≡ Ok (games.Play card plan, end)
node_read-play levels bytes at card next plan end more said rest = node_read-more levels bytes at (Some (Play card, next)) more (sym said) ∙ rw rest refl

pub node_read-play_fault : (levels : ℕ) (bytes : List ℕ) (at card next : ℕ) (fault : PlanFault) → 0 < levels → Some (Play card, next) ≡ said_at plan_line bytes at
    → node_read (levels - 1) bytes next ≡ Err fault → node_read levels bytes at ≡ Err fault
node_read-play_fault levels bytes at card next fault more said rest = node_read-more levels bytes at (Some (Play card, next)) more (sym said) ∙ rw rest refl

pub node_read-hear : (levels : ℕ) (bytes : List ℕ) (at count next : ℕ) (replies : Replies ℕ) (end : ℕ) → 0 < levels → Some (Hear count, next) ≡ said_at plan_line bytes at
    → replies_read (λ place. node_read (levels - 1) bytes place) count bytes next ≡ Ok (replies, end) → node_read levels bytes at ≡ Ok (games.Hear replies, end)
node_read-hear levels bytes at count next replies end more said rest = node_read-more levels bytes at (Some (Hear count, next)) more (sym said) ∙ rw rest refl

pub node_read-hear_fault : (levels : ℕ) (bytes : List ℕ) (at count next : ℕ) (fault : PlanFault) → 0 < levels → Some (Hear count, next) ≡ said_at plan_line bytes at
    → replies_read (λ place. node_read (levels - 1) bytes place) count bytes next ≡ Err fault → node_read levels bytes at ≡ Err fault
node_read-hear_fault levels bytes at count next fault more said rest = node_read-more levels bytes at (Some (Hear count, next)) more (sym said) ∙ rw rest refl

-- ---- replies, one after another

-- replies before others
abbrev pub answers_onto : List Answer → Replies ℕ → Replies ℕ
answers_onto [] replies = replies
answers_onto (a ∷ earlier) replies = games.Reply a.card a.plan (answers_onto earlier replies)

-- what is read after these replies
abbrev pub after_answers : List Answer → Result (Replies ℕ × ℕ) PlanFault → Result (Replies ℕ × ℕ) PlanFault
after_answers earlier (Ok read) = Ok (answers_onto earlier read.0, read.1)
after_answers earlier (Err fault) = Err fault

answers_onto-append : (earlier more : List Answer) (replies : Replies ℕ) → answers_onto (earlier ++ more) replies ≡ answers_onto earlier (answers_onto more replies)
answers_onto-append [] more replies = refl
answers_onto-append (a ∷ earlier) more replies = ap (λ rs. games.Reply a.card a.plan rs) (answers_onto-append earlier more replies)

pub after_answers-append : (earlier more : List Answer) (r : Result (Replies ℕ × ℕ) PlanFault) → after_answers (earlier ++ more) r ≡ after_answers earlier (after_answers more r)
after_answers-append earlier more (Ok read) = ap (λ rs. Ok (rs, read.1)) (answers_onto-append earlier more read.0)
after_answers-append earlier more (Err fault) = refl

pub after_answers-none : (r : Result (Replies ℕ × ℕ) PlanFault) → after_answers [] r ≡ r
after_answers-none (Ok read) = refl
after_answers-none (Err fault) = refl

after_one : (card : ℕ) (plan : Plan ℕ) (r : Result (Replies ℕ × ℕ) PlanFault) → (r >>= (λ later. Ok (games.Reply card plan later.0, later.1))) ≡ after_answers (record { card = card; plan = plan } ∷ []) r
after_one card plan (Ok read) = refl
after_one card plan (Err fault) = refl

answers_onto-none : (answers : List Answer) → answers_onto answers games.NoReply ≡ answers_of answers
answers_onto-none [] = refl
answers_onto-none (a ∷ answers) = ap (λ rs. games.Reply a.card a.plan rs) (answers_onto-none answers)

module _ (below : ℕ → Result (Plan ℕ × ℕ) PlanFault) (bytes : List ℕ) where
  pub replies_read-none : (left at : ℕ) → 0 < left → None ≡ said_at reply_line bytes at → replies_read below left bytes at ≡ Err (Line at)
  replies_read-none zero at more said = absurd (omega arith)
  replies_read-none (suc left) at more said = rw (← said) refl

  pub replies_read-fault : (left at card next : ℕ) (fault : PlanFault) → 0 < left → Some (card, next) ≡ said_at reply_line bytes at → below next ≡ Err fault → replies_read below left bytes at ≡ Err fault
  replies_read-fault zero at card next fault more said plan = absurd (omega arith)
  replies_read-fault (suc left) at card next fault more said plan = rw (← said, plan) refl

  pub replies_read-more : (left at card next : ℕ) (plan : Plan ℕ) (end : ℕ) → 0 < left → Some (card, next) ≡ said_at reply_line bytes at → below next ≡ Ok (plan, end)
      → replies_read below left bytes at ≡ after_answers (record { card = card; plan = plan } ∷ []) (replies_read below (left - 1) bytes end)
  replies_read-more zero at card next plan end more said is = absurd (omega arith)
  replies_read-more (suc left) at card next plan end more said is = let one : suc left - 1 ≡ left = omega arith in rw (← said, is, one) (after_one card plan (replies_read below left bytes end))

  -- a reader of replies comes to a line that isn't one,
  pub replies_read-stray : (whole : Result (Replies ℕ × ℕ) PlanFault) (earlier : List Answer) (left at : ℕ) → 0 < left → None ≡ said_at reply_line bytes at
      → whole ≡ after_answers earlier (replies_read below left bytes at) → whole ≡ Err (Line at)
  replies_read-stray whole earlier left at more said so_far = so_far ∙ ap (after_answers earlier) (replies_read-none left at more said)

  -- to a fault in a reply's plan,
  pub replies_read-broken : (whole : Result (Replies ℕ × ℕ) PlanFault) (earlier : List Answer) (left at card next : ℕ) (fault : PlanFault) → 0 < left → Some (card, next) ≡ said_at reply_line bytes at → below next ≡ Err fault
      → whole ≡ after_answers earlier (replies_read below left bytes at) → whole ≡ Err fault
  replies_read-broken whole earlier left at card next fault more said broken so_far = so_far ∙ ap (after_answers earlier) (replies_read-fault left at card next fault more said broken)

  -- to one more reply,
  pub replies_read-turn : (whole : Result (Replies ℕ × ℕ) PlanFault) (earlier : List Answer) (left at card next : ℕ) (plan : Plan ℕ) (end : ℕ)
      → 0 < left → Some (card, next) ≡ said_at reply_line bytes at → below next ≡ Ok (plan, end) → whole ≡ after_answers earlier (replies_read below left bytes at)
      → whole ≡ after_answers (earlier ++ record { card = card; plan = plan } ∷ []) (replies_read below (left - 1) bytes end)
  replies_read-turn whole earlier left at card next plan end more said is so_far =
      so_far ∙ ap (after_answers earlier) (replies_read-more left at card next plan end more said is) ∙ sym (after_answers-append earlier (record { card = card; plan = plan } ∷ []) (replies_read below (left - 1) bytes end))

  -- and to the end
  pub replies_read-end : (whole : Result (Replies ℕ × ℕ) PlanFault) (answers : List Answer) (left at : ℕ) → left ≡ 0
      → whole ≡ after_answers answers (replies_read below left bytes at) → whole ≡ Ok (answers_of answers, at)
  replies_read-end whole answers zero at none so_far = so_far ∙ ap (λ rs. Ok (rs, at)) (answers_onto-none answers)
  replies_read-end whole answers (suc left) at none so_far = absurd (omega arith)
