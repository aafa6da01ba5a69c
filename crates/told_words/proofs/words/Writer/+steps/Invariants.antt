use Rattle.std.proofs.Common.{◌≡◌, ◌≤◌, ◌++◌, drop}
use Rattle.told_plans.specs.ToldMeaning.{told_of, branches_of}
use Rattle.told_words.specs.Strategies.{layouts_of}
use Rattle.told_words.specs.Words.{branch_lines}
use Rattle.told_words.proofs.Sizes.{sizes, plan_left, branches_left}
use Rattle.told_words.proofs.words.Writer.+steps.Given as goal

abbrev pub decreases-push_steps : goal.decreases-push_steps
decreases-push_steps l = plan_left (told_of l.told.now) 0

abbrev pub decreases-push_play : goal.decreases-push_play
decreases-push_play l = plan_left (told_of l.rest.now) 2

abbrev pub decreases-push_next : goal.decreases-push_next
decreases-push_next l = plan_left (told_of l.told.now) 1

abbrev pub decreases-push_hear : goal.decreases-push_hear
decreases-push_hear l = branches_left (branches_of l.branches.now) 3

abbrev pub decreases-push_branches : goal.decreases-push_branches
decreases-push_branches l = branches_left (branches_of l.branches.now) 2

abbrev pub invariant-push_branches-loop-branch : goal.invariant-push_branches-loop-branch
invariant-push_branches-loop-branch l =
    let layouts = layouts_of l.strategy in
    record {
      so_far : l.self ++ branch_lines layouts (branches_of (drop l.branch-index l.branches)) l.line l.step ≡ l.initial.self ++ branch_lines layouts (branches_of l.branches) l.line l.step;
      fewer : sizes (branches_of (drop l.branch-index l.branches)) ≤ sizes (branches_of l.branches);
    }
