use Rattle.std.proofs.Common.{◌≡◌, ◌∙◌, ◌≤◌, ◌+◌, ◌++◌, ℕ, List, Option, Bor, length, sym, ap, subst}
use Rattle.std.specs.Option.{option_map}
use Rattle.win_vectors.specs.Fronts.{Vector}
use Rattle.page_text.specs.Steps.{step, steps}
use Rattle.page_text.proofs.Nested.{steps_left, size_left, copied_is, step_more, fewer_lines}
use Rattle.page_text.proofs.steps.push_steps.Goals as goal

pub lines-preserved : goal.lines-preserved
lines-preserved c =
    let line = c.args.line in
    let reached = c.args.reached.now in
    let words = c.args.words.now in
    let place = c.lines.place in
    let text = c.in-Some.text.now in
    let first = c.split_line.result.0.now in
    let after = c.split_line.result.1 in
    let so_far = subst (λ (rest : Option (Bor (List ℕ))). c.lines.page ++ steps_left line reached place c.lines.level (option_map (λ t. t.now) rest) ≡ c.args.page.now ++ steps line reached words)
    c.in-Some.is c.lines.invariant.so_far in
    let few = subst (λ (rest : Option (Bor (List ℕ))). place + size_left (option_map (λ t. t.now) rest) ≤ length words + 1) c.in-Some.is c.lines.invariant.few in
    let grew = c.in_ok-level.ensures.step
    ∙ ap (λ (layouts : Option Vector). c.lines.page ++ step line place layouts c.lines.level first) (copied_is reached place c.get.result c.get.ensures.lookup) in
    record {
      so_far = subst (λ (level : ℕ). c.push_step.new.page ++ steps_left line reached (place + 1) level (option_map (λ t. t.now) after) ≡ c.args.page.now ++ steps line reached words)
          (sym c.in_ok-level.ensures.level)
          (step_more line reached (c.args.page.now ++ steps line reached words) c.lines.page c.push_step.new.page place c.lines.level text first after so_far c.split_line.ensures.line grew);
      few = fewer_lines place (length words + 1) text first after few c.split_line.ensures.shorter;
    }
