-- The equations of `plan_of`.
use Rattle.std.proofs.Common.{◌≡◌, ℕ, suc, ◌+◌, ◌<◌, length, get_or, drop, drop-cons, arith, List, [], ◌∷◌, map, refl, sym, ap, ◌∙◌, Vec, Global, Box}
use Rattle.std.proofs.Math.Path.{fun_ext}
use Rattle.strategy_games.specs.Plans as games
use Rattle.strategy_games.specs.Plans.{cards_of}
use Rattle.strategy_tree.specs.PlanMeaning.{Answer, plan_step, reply_step, answer_of, answers_of, plan_of, replies_of}
use Rattle.strategy_tree.specs.declared.plan.Plan.{Plan}
use Rattle.strategy_tree.specs.declared.plan.Reply.{Reply}
use Rattle.strategy_tree.specs.declared.plan.Plan.TheVariants.{Stop, Play, Hear, rolls-Stop, rolls-Play, rolls-Hear}
use Rattle.strategy_tree.specs.declared.plan.Plan.TheOpen as layer
use Rattle.strategy_tree.specs.declared.plan.Plan.TheFolds.{fold-roll-Plan, fold-Reply, fold_out-Reply}

pub plan_of-Stop : plan_of Stop ≡ games.Stop
plan_of-Stop = ap plan_of (sym rolls-Stop) ∙ fold-roll-Plan (games.Plan ℕ) Answer plan_step reply_step layer.Stop

answer_of-fold : (r : Reply) → fold-Reply (games.Plan ℕ) Answer plan_step reply_step r ≡ answer_of r
answer_of-fold r = fold_out-Reply (games.Plan ℕ) Answer plan_step reply_step r

pub plan_of-Hear : (v : Vec Reply Global) → plan_of (Hear v) ≡ games.Hear (replies_of v.items)
plan_of-Hear v = ap plan_of (sym (rolls-Hear v)) ∙ fold-roll-Plan (games.Plan ℕ) Answer plan_step reply_step (layer.Hear v) ∙ ap (λ f. games.Hear (answers_of (map f v.items))) (fun_ext answer_of-fold)

pub plan_of-Play : (c : ℕ) (b : Box Plan Global) → plan_of (Play c b) ≡ games.Play c (plan_of b.value)
plan_of-Play c b = ap plan_of (sym (rolls-Play c b)) ∙ fold-roll-Plan (games.Plan ℕ) Answer plan_step reply_step (layer.Play c b)

pub length-cards_of : (rs : List Reply) → length (cards_of (replies_of rs)) ≡ length rs
length-cards_of [] = refl
length-cards_of (r ∷ rs) = ap (λ n. suc n) (length-cards_of rs)

-- a list from one of its items on
pub drop_next : {X : Type 0} (xs : List X) (i : ℕ) (x : X) → i < length xs → x ≡ get_or xs i x → drop i xs ≡ x ∷ drop (i + 1) xs
drop_next xs i x low is =
    let next : suc i ≡ i + 1 = omega arith in
    drop-cons xs i x low ∙ ap (λ y. y ∷ drop (suc i) xs) (sym is) ∙ ap (λ k. x ∷ drop k xs) next

-- the replies from the next one on
pub replies_of-drop : (replies : List Reply) (i : ℕ) (r : Reply) → i < length replies → r ≡ get_or replies i r
    → replies_of (drop i replies) ≡ games.Reply r.card (plan_of r.plan) (replies_of (drop (i + 1) replies))
replies_of-drop replies i r low is = ap replies_of (drop_next replies i r low is)
