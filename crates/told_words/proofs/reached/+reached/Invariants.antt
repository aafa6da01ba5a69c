use Rattle.std.proofs.Common.{◌≡◌, ◌≤◌, ◌++◌, not, drop}
use Rattle.told_plans.specs.ToldMeaning.{told_of, branches_of}
use Rattle.told_words.specs.Strategies.{reached_of}
use Rattle.told_words.specs.Words.{is_one}
use Rattle.told_words.specs.Reached.{lines_of}
use Rattle.told_words.proofs.Sizes.{sizes, plan_left, branches_left}
use Rattle.told_words.proofs.reached.+reached.Given as goal

abbrev pub decreases-push_below : goal.decreases-push_below
decreases-push_below l = plan_left (told_of l.told.now) 0

abbrev pub decreases-push_play : goal.decreases-push_play
decreases-push_play l = plan_left (told_of l.rest.now) 1

abbrev pub decreases-push_branches : goal.decreases-push_branches
decreases-push_branches l = branches_left (branches_of l.branches.now) 1

abbrev pub invariant-push_branches-loop-branch : goal.invariant-push_branches-loop-branch
invariant-push_branches-loop-branch l =
    let reached = reached_of l.strategy in
    record {
      so_far : l.found.items ++ lines_of reached l.begins (branches_of (drop l.branch-index l.branches)) l.sets
          ≡ l.initial.found.items ++ lines_of reached (not (is_one (branches_of l.branches))) (branches_of l.branches) l.sets;
      fewer : sizes (branches_of (drop l.branch-index l.branches)) ≤ sizes (branches_of l.branches);
    }
