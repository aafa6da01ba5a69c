-- The replies from a place on.
use Rattle.std.proofs.Common.{◌≡◌, ◌∙◌, ◌<◌, ◌≤◌, ◌+◌, ℕ, zero, suc, Option, List, [], ◌∷◌, length, get_or, drop, sym, ap, subst, le_of_suc-le-suc, arith}
use Rattle.std.specs.Option.{option_map}
use Rattle.std.proofs.lemmas.List.{drop_all}
use Rattle.strategy_games.specs.Plans.{Replies, Hear, cards_of}
use Rattle.strategy_games.specs.Plans as games
use Rattle.strategy_tree.specs.declared.plan.Reply.{Reply}
use Rattle.strategy_tree.specs.PlanMeaning.{plan_of, replies_of}
use Rattle.strategy_tree.specs.PlanText.{levels_of, levels_below}
use Rattle.strategy_tree.proofs.Meanings.{replies_of-drop, length-cards_of}
use Rattle.line_partings.specs.Partings.{FitOneNode, PartingValue, IsWhereTheyPart}
use Rattle.line_partings.specs.Nearest.{with_card, nearer}
use Rattle.line_partings.proofs.Alike.{ReplyAlike, FirstAlike, reply_alike, first_alike}
use Rattle.line_partings.proofs.Together.{one_reply_more}

pub as_many : (xs ys : List Reply) → FitOneNode (Hear (replies_of xs)) (Hear (replies_of ys)) → length xs ≡ length ys
as_many xs ys fit =
    sym (length-cards_of xs) ∙ ap (λ (cards : List ℕ). length cards) (reply_alike (replies_of xs) (replies_of ys) fit).same_cards ∙ length-cards_of ys

-- behind the last reply there is none
pub none_from : (xs ys : List Reply) → FitOneNode (Hear (replies_of xs)) (Hear (replies_of ys)) → Hear (replies_of (drop (length xs) xs)) ≡ Hear (replies_of (drop (length xs) ys))
none_from xs ys fit =
    let past : length xs ≤ length xs = omega arith in
    let also : length ys ≤ length xs = omega (arith, as_many xs ys fit) in
    ap (λ (zs : List Reply). Hear (replies_of zs)) (drop_all (length xs) xs past ∙ sym (drop_all (length xs) ys also))

-- the level of a reply
level_at : (xs : List Reply) (i : ℕ) (r : Reply) → i < length xs → r ≡ get_or xs i r → levels_of (plan_of r.plan) ≤ levels_below (replies_of xs)
level_at [] i r low is = absurd (omega (arith, low))
level_at (x ∷ xs) zero r low is = let same : levels_of (plan_of r.plan) ≡ levels_of (plan_of x.plan) = ap (λ (r : Reply). levels_of (plan_of r.plan)) is in omega arith
level_at (x ∷ xs) (suc i) r low is = let below = level_at xs i r (le_of_suc-le-suc low) is in omega (arith, below)

alike_from : (i : ℕ) (xs ys : List Reply) → ReplyAlike (replies_of xs) (replies_of ys) → i ≤ length xs → length xs ≡ length ys → ReplyAlike (replies_of (drop i xs)) (replies_of (drop i ys))
alike_from zero xs ys alike low many = alike
alike_from (suc i) [] ys alike low many = absurd (omega (arith, low))
alike_from (suc i) (x ∷ xs) [] alike low many = absurd (omega (arith, many))
alike_from (suc i) (x ∷ xs) (y ∷ ys) alike low many =
    alike_from i xs ys (first_alike x.card y.card (plan_of x.plan) (plan_of y.plan) (replies_of xs) (replies_of ys) alike).later (le_of_suc-le-suc low) (omega (arith, many))

module _ (xs ys : List Reply) (fit : FitOneNode (Hear (replies_of xs)) (Hear (replies_of ys))) (i : ℕ) (x y : Reply) (low : i < length xs) (is_x : x ≡ get_or xs i x) (is_y : y ≡ get_or ys i y) where
  next_x : replies_of (drop i xs) ≡ games.Reply x.card (plan_of x.plan) (replies_of (drop (i + 1) xs))
  next_x = replies_of-drop xs i x low is_x

  next_y : replies_of (drop i ys) ≡ games.Reply y.card (plan_of y.plan) (replies_of (drop (i + 1) ys))
  next_y = replies_of-drop ys i y (omega (arith, as_many xs ys fit)) is_y

  first_here : FirstAlike x.card y.card (plan_of x.plan) (plan_of y.plan) (replies_of (drop (i + 1) xs)) (replies_of (drop (i + 1) ys))
  first_here =
      let alike = alike_from i xs ys (reply_alike (replies_of xs) (replies_of ys) fit) (omega arith) (as_many xs ys fit) in
      first_alike x.card y.card (plan_of x.plan) (plan_of y.plan) (replies_of (drop (i + 1) xs)) (replies_of (drop (i + 1) ys))
      (subst (λ ss. ReplyAlike (games.Reply x.card (plan_of x.plan) (replies_of (drop (i + 1) xs))) ss) next_y (subst (λ rs. ReplyAlike rs (replies_of (drop i ys))) next_x alike))

  -- the level of the reply at a place
  pub level_there : levels_of (plan_of (get_or xs i x).plan) ≤ levels_below (replies_of xs)
  level_there = subst (λ (r : Reply). levels_of (plan_of r.plan) ≤ levels_below (replies_of xs)) is_x (level_at xs i x low is_x)

  -- the plans of the two replies at a place fit one node
  pub fit_there : FitOneNode (plan_of (get_or xs i x).plan) (plan_of (get_or ys i y).plan)
  fit_there =
      subst (λ (r : Reply). FitOneNode (plan_of r.plan) (plan_of (get_or ys i y).plan)) is_x
      (subst (λ (r : Reply). FitOneNode (plan_of x.plan) (plan_of r.plan)) is_y first_here.fit)

  -- one reply more
  pub nearest_from : (below found : Option PartingValue) → IsWhereTheyPart (plan_of x.plan) (plan_of y.plan) below
      → IsWhereTheyPart (Hear (replies_of (drop (i + 1) xs))) (Hear (replies_of (drop (i + 1) ys))) found
      → IsWhereTheyPart (Hear (replies_of (drop i xs))) (Hear (replies_of (drop i ys))) (nearer (option_map (with_card x.card) below) found)
  nearest_from below found is_below is_found =
      let rs = replies_of (drop (i + 1) xs) in
      let ss = replies_of (drop (i + 1) ys) in
      let all = nearer (option_map (with_card x.card) below) found in
      let whole : IsWhereTheyPart (Hear (games.Reply x.card (plan_of x.plan) rs)) (Hear (games.Reply x.card (plan_of y.plan) ss)) all =
      one_reply_more x.card (plan_of x.plan) (plan_of y.plan) rs ss first_here.in_order below found is_below is_found in
      let mine : IsWhereTheyPart (Hear (replies_of (drop i xs))) (Hear (games.Reply x.card (plan_of y.plan) ss)) all = subst (λ us. IsWhereTheyPart (Hear us) (Hear (games.Reply x.card (plan_of y.plan) ss)) all) (sym next_x) whole in
      let also_y : replies_of (drop i ys) ≡ games.Reply x.card (plan_of y.plan) ss = next_y ∙ ap (λ c. games.Reply c (plan_of y.plan) ss) (sym first_here.same) in
      subst (λ us. IsWhereTheyPart (Hear (replies_of (drop i xs))) (Hear us) all) (sym also_y) mine
