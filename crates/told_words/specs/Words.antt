-- A told plan in words: lines of steps, and the lines of their branches indented below them.
use Rattle.std.specs.Prelude.{ℕ, zero, suc, ◌+◌, min, Bool, true, false, Option, None, Some, List, [], ◌++◌, codes, if◌then◌else◌}
use Rattle.card_sets.specs.declared.seat.Compass.{Compass}
use Rattle.card_sets.specs.declared.seat.Seat.{Seat}
use Rattle.trick_rules.specs.Nodes.{NodeValue}
use Rattle.told_plans.specs.Told.{Told, Branches, and_card, ToldStop, ToldPlay, ToldHear, NoBranch, Branch}
use Rattle.told_layouts.specs.declared.steps.StepLayouts.{StepLayouts}
use Rattle.told_words.specs.declared.lines.Line.{Line}
use Rattle.told_words.specs.Turns.{winner_at}
use Rattle.told_words.specs.Phrases.{seat_name, turn_text, end_text}
use Rattle.told_words.specs.Numbers.{outcome_text, given_up_text}
use Rattle.told_words.specs.Steps.{StepValue, first_step, step_after}

-- two spaces for each step of indentation
abbrev pub indent : ℕ → List ℕ
indent zero = []
indent (suc depth) = indent depth ++ codes "  "

-- what comes before the next words of a line
abbrev pub before : Line → List ℕ
before line = if line.begun then codes "; " else codes " "

-- the line with these words
abbrev pub going_on : Line → Line
going_on line = record line { begun = true }

-- the end of a line: a full stop, unless nothing follows its colon
abbrev pub line_end : Line → List ℕ
line_end line = if line.begun then codes ".\n" else codes "\n"

-- a line one step further in, by at most 255 steps
abbrev pub further_in : Line → Line
further_in line = record line { depth = min 255 (line.depth + 1); begun = false }

-- who won the trick, if it is over
abbrev pub winner_text : Line → Option Seat → List ℕ
winner_text line None = []
winner_text line (Some seat) = before line ++ seat_name line.declarer seat ++ codes " wins the trick"

-- the line with that
abbrev pub after_winner : Line → Option Seat → Line
after_winner line None = line
after_winner line (Some seat) = going_on line

abbrev pub is_one : Branches → Bool
is_one NoBranch = false
is_one (Branch cards told NoBranch) = true
is_one (Branch cards told (Branch others next later)) = false

-- the layouts behind each step, by the sets of cards after which it comes
abbrev pub Layouts : Type 0
Layouts = List (List ℕ) → StepLayouts

-- who won the trick, and what follows
abbrev pub next_text : (Line → StepValue → List ℕ) → Line → StepValue → List ℕ
next_text follows line step = winner_text line (winner_at step.places) ++ follows (after_winner line (winner_at step.places)) step

-- who plays one of the cards
abbrev pub played_text : Line → List ℕ → StepValue → List ℕ
played_text line cards step = before line ++ turn_text line.declarer cards step.places

-- the condition of a line: what a defender plays
abbrev pub condition : Line → List ℕ → StepValue → List ℕ
condition line cards step = indent line.depth ++ codes "If " ++ turn_text line.declarer cards step.places

-- the end of a line's front: which layouts are made from there, and which fail
abbrev pub front_end : Layouts → StepValue → List ℕ
front_end layouts step = outcome_text (layouts step.sets).won (layouts step.sets).lost ++ codes ":"

abbrev mutual
  -- the rest of a line, and the lines below it; a card of declarer's side with the layouts that it gives up
  pub steps_text : Layouts → Told → Line → StepValue → List ℕ
  steps_text layouts ToldStop line step = before line ++ end_text step.places ++ codes ".\n"
  steps_text layouts (ToldPlay card rest) line step =
      played_text line (and_card [] card) step ++ given_up_text (layouts step.sets).given_up
      ++ next_text (steps_text layouts rest) (going_on line) (step_after (and_card [] card) step)
  steps_text layouts (ToldHear branches) line step =
      if is_one branches then one_text layouts branches line step else line_end line ++ branch_lines layouts branches (further_in line) step

  -- a single branch goes on in the same line
  pub one_text : Layouts → Branches → Line → StepValue → List ℕ
  one_text layouts NoBranch line step = []
  one_text layouts (Branch cards told later) line step = played_text line cards step ++ next_text (steps_text layouts told) (going_on line) (step_after cards step)

  -- several begin a line each
  pub branch_lines : Layouts → Branches → Line → StepValue → List ℕ
  branch_lines layouts NoBranch line step = []
  branch_lines layouts (Branch cards told later) line step =
      condition line cards step ++ front_end layouts (step_after cards step) ++ next_text (steps_text layouts told) line (step_after cards step)
      ++ branch_lines layouts later line step

-- a told plan at a node
abbrev pub told_text : Compass → Layouts → Told → NodeValue → List ℕ
told_text declarer layouts told n =
    codes "Now" ++ front_end layouts (first_step n) ++ steps_text layouts told (record { declarer = declarer; depth = 0; begun = false }) (first_step n)
