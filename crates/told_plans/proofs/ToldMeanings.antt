-- The equations of `told_of`.
use Rattle.std.proofs.Common.{◌≡◌, ℕ, suc, ◌+◌, ◌<◌, length, get_or, drop, drop-cons, arith, List, ◌∷◌, map, sym, ap, ◌∙◌, Vec, Global, Box}
use Rattle.std.proofs.Math.Path.{fun_ext}
use Rattle.told_plans.specs.Told as told
use Rattle.told_plans.specs.ToldMeaning.{Telling, told_step, branch_step, branches_from, told_of, telling_of, branches_of}
use Rattle.told_plans.specs.declared.told.ToldPlan.{ToldPlan}
use Rattle.told_plans.specs.declared.told.Branch.{Branch}
use Rattle.told_plans.specs.declared.told.ToldPlan.TheVariants.{Stop, Play, Hear, rolls-Stop, rolls-Play, rolls-Hear}
use Rattle.told_plans.specs.declared.told.ToldPlan.TheOpen as layer
use Rattle.told_plans.specs.declared.told.ToldPlan.TheFolds.{fold-roll-ToldPlan, fold-Branch, fold_out-Branch}

pub told_of-Stop : told_of Stop ≡ told.ToldStop
told_of-Stop = ap told_of (sym rolls-Stop) ∙ fold-roll-ToldPlan told.Told Telling told_step branch_step layer.Stop

telling_of-fold : (b : Branch) → fold-Branch told.Told Telling told_step branch_step b ≡ telling_of b
telling_of-fold b = fold_out-Branch told.Told Telling told_step branch_step b

pub told_of-Hear : (v : Vec Branch Global) → told_of (Hear v) ≡ told.ToldHear (branches_of v.items)
told_of-Hear v = ap told_of (sym (rolls-Hear v)) ∙ fold-roll-ToldPlan told.Told Telling told_step branch_step (layer.Hear v) ∙ ap (λ f. told.ToldHear (branches_from (map f v.items))) (fun_ext telling_of-fold)

pub told_of-Play : (c : ℕ) (b : Box ToldPlan Global) → told_of (Play c b) ≡ told.ToldPlay c (told_of b.value)
told_of-Play c b = ap told_of (sym (rolls-Play c b)) ∙ fold-roll-ToldPlan told.Told Telling told_step branch_step (layer.Play c b)

-- the branches from the next one on
pub branches_of-drop : (branches : List Branch) (i : ℕ) (b : Branch) → i < length branches → b ≡ get_or branches i b
    → branches_of (drop i branches) ≡ told.Branch b.cards (told_of b.plan) (branches_of (drop (i + 1) branches))
branches_of-drop branches i b low is =
    let next : drop i branches ≡ b ∷ drop (i + 1) branches = drop-cons branches i b low ∙ ap (λ x. x ∷ drop (suc i) branches) (sym is) ∙ ap (λ j. b ∷ drop j branches) one_more in
    ap branches_of next
  where
    one_more : suc i ≡ i + 1
    one_more = omega arith
