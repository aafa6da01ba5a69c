-- What a plan in memory means.
use Rattle.std.specs.Prelude.{ℕ, List, [], ◌∷◌, map, box_value}
use Rattle.strategy_games.specs.Plans as games
use Rattle.strategy_tree.specs.declared.plan.Plan.{Plan}
use Rattle.strategy_tree.specs.declared.plan.Reply.{Reply}
use Rattle.strategy_tree.specs.declared.plan.Plan.TheOpen.{Plan-F, Reply-F, Stop, Play, Hear}
use Rattle.strategy_tree.specs.declared.plan.Plan.TheFolds.{fold-Plan}

-- a card, and the plan that answers it
pub record Answer : Type 0 where
  pub card : ℕ
  pub plan : games.Plan ℕ

abbrev pub answers_of : List Answer → games.Replies ℕ
answers_of [] = games.NoReply
answers_of (a ∷ rest) = games.Reply a.card a.plan (answers_of rest)

abbrev pub plan_step : Plan-F (games.Plan ℕ) Answer → games.Plan ℕ
plan_step Stop = games.Stop
plan_step (Play c b) = games.Play c (box_value b)
plan_step (Hear v) = games.Hear (answers_of v.items)

abbrev pub reply_step : Reply-F (games.Plan ℕ) Answer → Answer
reply_step r = record { card = r.card; plan = r.plan }

-- the strategy of a plan in memory
abbrev pub plan_of : Plan → games.Plan ℕ
plan_of = fold-Plan (games.Plan ℕ) Answer plan_step reply_step

-- a reply in memory
abbrev pub answer_of : Reply → Answer
answer_of r = record { card = r.card; plan = plan_of r.plan }

-- several replies in a row
abbrev pub replies_of : List Reply → games.Replies ℕ
replies_of replies = answers_of (map answer_of replies)
