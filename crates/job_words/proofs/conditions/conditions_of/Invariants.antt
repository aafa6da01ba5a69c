use Rattle.std.proofs.Common.{◌≡◌, map, drop}
use Rattle.job_words.specs.Draws.{conditions_read}
use Rattle.job_words.proofs.ConditionLemmas.{before_conditions}
use Rattle.job_words.proofs.conditions.conditions_of.Given as goal

-- the conditions so far come before those of the texts that are left
abbrev pub invariant-loop-text : goal.invariant-loop-text
invariant-loop-text l =
    before_conditions l.list.items (conditions_read l.option (map (λ s. s.now) (drop l.text-index l.texts)))
    ≡ conditions_read l.option (map (λ s. s.now) l.texts)
