use Rattle.std.proofs.Common.{◌≡◌, ◌≤◌, ◌+◌, ◌++◌, length}
use Rattle.std.specs.Option.{option_map}
use Rattle.page_text.specs.Steps.{steps}
use Rattle.page_text.proofs.Nested.{steps_left, size_left}
use Rattle.page_text.proofs.steps.push_steps.Given as goal

-- what has been added, and the steps of the text that is left; no more steps than bytes
abbrev pub invariant-lines : goal.invariant-lines
invariant-lines l =
    let left = option_map (λ text. text.now) l.rest in
    record {
      so_far : l.page ++ steps_left l.line l.reached l.place l.level left ≡ l.initial.page ++ steps l.line l.reached l.words;
      few : l.place + size_left left ≤ length l.words + 1;
    }

abbrev pub decreases-lines : goal.decreases-lines
decreases-lines l = size_left (option_map (λ text. text.now) l.rest)
