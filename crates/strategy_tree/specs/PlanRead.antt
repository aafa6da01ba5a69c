-- How a plan is read: its lines in order, each node before those below it. The first fault is the answer.
use Rattle.std.specs.Prelude.{ℕ, zero, suc, Option, None, Some, option_and_then, Result, Ok, Err, List, [], ◌∷◌, if◌then◌else◌, bytes_eq, codes}
use Rattle.std.specs.Option.{option_map, option_or}
use Rattle.byte_text.specs.Lines.{text_after, said_at}
use Rattle.byte_text.specs.Numerals.{number_within}
use Rattle.byte_text.specs.Steps.{◌>>=◌}
use Rattle.card_letters.specs.Letters.{card_read}
use Rattle.strategy_games.specs.Plans as games
use Rattle.strategy_games.specs.Plans.{Plan, Replies}
use Rattle.strategy_tree.specs.declared.plan_reader.PlanFault.{PlanFault}
use Rattle.strategy_tree.specs.declared.plan_reader.PlanFault.TheVariants.{Line, Deep}
use Rattle.strategy_tree.specs.declared.plan_reader.PlanLine.{PlanLine}
use Rattle.strategy_tree.specs.declared.plan_reader.PlanLine.TheVariants.{Stop, Play, Hear}

-- the most levels of nodes of a plan that is read
abbrev pub most_levels : ℕ
most_levels = 64

-- ---- one line

-- a card by its two letters, in either case
abbrev pub card_named : List ℕ → Option ℕ
card_named (suit ∷ rank ∷ []) = card_read suit rank
card_named _ = None

-- `play` and a card
unfoldable pub play_said : List ℕ → Option PlanLine
play_said text = option_map Play (option_and_then card_named (text_after (codes "play ") text))

-- `hear` and a number of replies, from 1 to 52
unfoldable pub hear_said : List ℕ → Option PlanLine
hear_said text = option_map Hear (option_and_then (number_within 1 52) (text_after (codes "hear ") text))

-- the line of a node
unfoldable pub plan_line : List ℕ → Option PlanLine
plan_line text = if bytes_eq text (codes "stop") then Some Stop else option_or (play_said text) (hear_said text)

-- a line before a reply: `on` and the defender's card
unfoldable pub reply_line : List ℕ → Option ℕ
reply_line text = option_and_then card_named (text_after (codes "on ") text)

-- ---- one node after another

-- a line that has to be at a place
abbrev pub line_or_fault : {A : Type 0} → ℕ → Option A → Result A PlanFault
line_or_fault at None = Err (Line at)
line_or_fault at (Some x) = Ok x

-- this many replies, given how the plans in them are read, and the place after them
abbrev pub replies_read : (ℕ → Result (Plan ℕ × ℕ) PlanFault) → ℕ → List ℕ → ℕ → Result (Replies ℕ × ℕ) PlanFault
replies_read below zero bytes at = Ok (games.NoReply, at)
replies_read below (suc count) bytes at = do
  said ← line_or_fault at (said_at reply_line bytes at)
  plan ← below said.1
  later ← replies_read below count bytes plan.1
  Ok (games.Reply said.0 plan.0 later.0, later.1)

-- what follows a node's line
abbrev pub below_line : (ℕ → Result (Plan ℕ × ℕ) PlanFault) → List ℕ → PlanLine → ℕ → Result (Plan ℕ × ℕ) PlanFault
below_line below bytes Stop at = Ok (games.Stop, at)
below_line below bytes (Play card) at = do
  rest ← below at
  Ok (games.Play card rest.0, rest.1)
below_line below bytes (Hear count) at = do
  replies ← replies_read below count bytes at
  Ok (games.Hear replies.0, replies.1)

-- the plan whose first line begins at a place, and the place after its last line, with at most this many levels of nodes
unfoldable pub node_read : ℕ → List ℕ → ℕ → Result (Plan ℕ × ℕ) PlanFault
node_read zero bytes at = Err (Deep at)
node_read (suc levels) bytes at = do
  said ← line_or_fault at (said_at plan_line bytes at)
  below_line (λ next. node_read levels bytes next) bytes said.0 said.1

-- a plan has at most 64 levels
unfoldable pub plan_read : List ℕ → ℕ → Result (Plan ℕ × ℕ) PlanFault
plan_read bytes start = node_read most_levels bytes start
