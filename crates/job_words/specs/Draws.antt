-- What the words say of layouts that are drawn.
use Rattle.std.specs.Prelude.{◌≡◌, ◌-◌, ◌^◌, ℕ, ⊤, List, [], ◌∷◌, Result, Ok, Err}
use Rattle.byte_text.specs.Steps.{◌>>=◌}
use Rattle.hand_conditions.specs.declared.fault.ConditionFault.{ConditionFault}
use Rattle.hand_conditions.specs.declared.fault.ConditionFault.TheVariants as faults
use Rattle.hand_conditions.specs.declared.term.Term.{Term}
use Rattle.hand_conditions.specs.Reading.{condition_read}
use Rattle.job_words.specs.declared.bad_word.BadWord.{BadWord}
use Rattle.job_words.specs.declared.bad_word.BadWord.TheVariants as bad
use Rattle.job_words.specs.declared.bad_word.OptionName.{OptionName}
use Rattle.job_words.specs.declared.bad_word.OptionName.TheVariants as name
use Rattle.job_words.specs.declared.conditions.Unread.{Unread}
use Rattle.job_words.specs.declared.conditions.Unread.TheVariants.{Bad, Memory}
use Rattle.job_words.specs.declared.draw.Draw.{Draw}
use Rattle.job_words.specs.Options.{OptionValues}
use Rattle.job_words.specs.SeatConditions.{SeatConditionsValue}
use Rattle.job_words.specs.Values.{number_of, number_or}

-- the condition that a value of this option tells, or its first term that isn't understood. Only a failed allocation has no term
abbrev pub or_bad_term : OptionName → Result (List Term) ConditionFault → Result (List Term) BadWord
or_bad_term option (Ok condition) = Ok condition
or_bad_term option (Err (faults.Term piece why)) = Err (bad.Term option piece why)
or_bad_term option (Err faults.Memory) = Err (bad.Value option)

-- a condition that was read, and then the others
abbrev pub condition_and : Result (List Term) BadWord → Result (List (List Term)) BadWord → Result (List (List Term)) BadWord
condition_and (Ok condition) (Ok others) = Ok (condition ∷ others)
condition_and (Ok condition) (Err fault) = Err fault
condition_and (Err fault) others = Err fault

-- the conditions that the values of an option tell, in order, or the first term that isn't understood
abbrev pub conditions_read : OptionName → List (List ℕ) → Result (List (List Term)) BadWord
conditions_read option [] = Ok []
conditions_read option (text ∷ texts) = condition_and (or_bad_term option (condition_read text)) (conditions_read option texts)

-- the conditions on the four hands
unfoldable pub conditions_in : OptionValues → Result SeatConditionsValue BadWord
conditions_in o = do
  north ← conditions_read name.North o.north
  east ← conditions_read name.East o.east
  south ← conditions_read name.South o.south
  west ← conditions_read name.West o.west
  Ok (record { north = north; east = east; south = south; west = west })

-- how many layouts are drawn, by which number, and on which conditions
unfoldable pub draw_in : OptionValues → Result Draw BadWord
draw_in o = do
  amount ← number_of name.Draw 1 256 o.draw
  seed ← number_or name.Seed 1 0 (2 ^ 64 - 1) o.seed
  conditions ← conditions_in o
  Ok (record { amount = amount; seed = seed; conditions = conditions })

-- what may come in place of conditions: a failed allocation, or the term that isn't understood
abbrev pub IsUnreadOf : {A : Type 0} → Result A BadWord → Unread → Type 0
IsUnreadOf expected (Bad fault) = expected ≡ Err fault
IsUnreadOf expected Memory = ⊤
