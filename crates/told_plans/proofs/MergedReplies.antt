-- The replies of two plans, card by card.
use Rattle.std.proofs.Common.{◌≡◌, ◌∙◌, ◌≤◌, ◌<◌, ◌==◌, ◌||◌, ℕ, Bool, true, false, cond, Option, Some, None, List, [], ◌∷◌, ◌++◌, refl, sym, ap, ap₂, subst, inl, inr, arith}
use Rattle.std.specs.Prelude.{is_some}
use Rattle.std.proofs.lemmas.Bool.{cases_eq, cases_lt, eq-eqb, ne_eqb, or_right, false≢true}
use Rattle.card_sets.specs.SetWords.{has_card, cards_where, IsCardSet}
use Rattle.card_sets.proofs.Sets.{has_card-cards_where, has_card-cards_where_past, has_card-below, tail-after, same_set, IsCardSet-cards_where}
use Rattle.strategy_games.specs.Plans.{Plan, Replies, Hear, NoReply}
use Rattle.strategy_games.specs.Plans as games
use Rattle.strategy_tree.specs.declared.plan.Reply.{Reply}
use Rattle.strategy_tree.specs.PlanMeaning.{plan_of, replies_of}
use Rattle.strategy_tree.specs.PlanText.{levels_of, levels_below}
use Rattle.told_plans.specs.Follows.{answer_to, IsBoth}
use Rattle.told_plans.specs.Told.{answered}
use Rattle.told_plans.specs.BothSteps.{IsBothAfter}
use Rattle.told_plans.proofs.Boths.{unanswered, both_hear}

-- ---- the cards that are answered

-- a set has no card beyond the pack
past_none : (cards : List ℕ) (d : ℕ) → IsCardSet cards → 52 ≤ d → has_card cards d ≡ false
past_none cards d a_set past = go (has_card cards d) refl
  where
    go : (b : Bool) → has_card cards d ≡ b → has_card cards d ≡ false
    go true held = absurd (omega (arith, has_card-below cards d a_set held))
    go false held = held

or_assoc : (a b c : Bool) → ((a || b) || c) ≡ (a || (b || c))
or_assoc true b c = refl
or_assoc false b c = refl

-- a card more among those answered so far
pub answered_more : (cards : List ℕ) (rs : Replies ℕ) (card : ℕ) (plan : Plan ℕ) (later : Replies ℕ) (d : ℕ) → IsCardSet cards → card < 52 → rs ≡ games.Reply card plan later
    → (has_card (cards_where (λ c. has_card cards c || c == card)) d || is_some (answer_to later d)) ≡ (has_card cards d || is_some (answer_to rs d))
answered_more cards rs card plan later d a_set low next =
    elim (cases_eq card d) [
      | inl same ↦
          (let within : d < 52 = omega arith in
          ap (λ b. b || is_some (answer_to later d)) (has_card-cards_where (λ c. has_card cards c || c == card) d within ∙ or_right (has_card cards d) (d == card) (eq-eqb d card (sym same)))
          ∙ sym (or_right (has_card cards d) (is_some (answer_to rs d)) (ap (λ r. is_some (answer_to r d)) next ∙ ap (λ (b : Bool). is_some (cond b (Some plan) (answer_to later d))) (eq-eqb card d same))))
      | inr other ↦
          (let rest : answer_to rs d ≡ answer_to later d = ap (λ r. answer_to r d) next ∙ ap (λ (b : Bool). cond b (Some plan) (answer_to later d)) (ne_eqb card d other) in
          ap (λ b. b || is_some (answer_to later d)) (unchanged other) ∙ ap (λ o. has_card cards d || is_some o) (sym rest))
    ]
  where
    or_none : (a : Bool) → (a || false) ≡ a
    or_none true = refl
    or_none false = refl

    unchanged : (card ≡ d → ⊥) → has_card (cards_where (λ c. has_card cards c || c == card)) d ≡ has_card cards d
    unchanged other =
        elim (cases_lt d 52) [
          | inl within ↦ has_card-cards_where (λ c. has_card cards c || c == card) d within ∙ ap (λ b. has_card cards d || b) (ne_eqb d card (λ e. other (sym e))) ∙ or_none (has_card cards d)
          | inr past ↦ has_card-cards_where_past (λ c. has_card cards c || c == card) d past ∙ sym (past_none cards d a_set past)
        ]

pub answered_all : (cards : List ℕ) (rs : Replies ℕ) → IsCardSet cards → ((d : ℕ) → (has_card cards d || false) ≡ is_some (answer_to rs d)) → cards ≡ answered rs
answered_all cards rs a_set each =
    same_set cards (answered rs) a_set (IsCardSet-cards_where (λ card. is_some (answer_to rs card)))
    (λ d low. or_none (has_card cards d) ∙ each d ∙ sym (has_card-cards_where (λ card. is_some (answer_to rs card)) d low))
  where
    or_none : (a : Bool) → a ≡ (a || false)
    or_none true = refl
    or_none false = refl

-- ---- the cards that one of the two answers

pub either_answered : (rs ss : Replies ℕ) (these those all : List ℕ) → these ≡ answered rs → those ≡ answered ss
    → ((d : ℕ) → has_card these d ≡ is_some (answer_to rs d)) → ((d : ℕ) → has_card those d ≡ is_some (answer_to ss d)) → all ≡ cards_where (λ c. has_card these c || has_card those c)
    → (d : ℕ) → has_card all d ≡ (is_some (answer_to rs d) || is_some (answer_to ss d))
either_answered rs ss these those all is_these is_those each_these each_those is d =
    ap (λ cards. has_card cards d) is ∙ at ∙ ap₂ (λ (a b : Bool). a || b) (each_these d) (each_those d)
  where
    a_set : (cards : List ℕ) (rs : Replies ℕ) → cards ≡ answered rs → IsCardSet cards
    a_set cards rs is = subst IsCardSet (sym is) (IsCardSet-cards_where (λ card. is_some (answer_to rs card)))

    at : has_card (cards_where (λ c. has_card these c || has_card those c)) d ≡ (has_card these d || has_card those d)
    at =
        elim (cases_lt d 52) [
          | inl within ↦ has_card-cards_where (λ c. has_card these c || has_card those c) d within
          | inr past ↦ has_card-cards_where_past (λ c. has_card these c || has_card those c) d past ∙ sym (ap₂ (λ (a b : Bool). a || b) (past_none these d (a_set these rs is_these) past) (past_none those d (a_set those ss is_those) past))
        ]

none_of : (o : Option (Plan ℕ)) → is_some o ≡ false → o ≡ None
none_of None h = refl
none_of (Some p) h = absurd (false≢true (sym h))

or_first : (a b : Bool) → (a || b) ≡ false → a ≡ false
or_first true b h = h
or_first false b h = refl

or_second : (a b : Bool) → (a || b) ≡ false → b ≡ false
or_second true b h = absurd (false≢true (sym h))
or_second false b h = h

-- neither answers
pub neither : (rs ss us : Replies ℕ) (d : ℕ) → (is_some (answer_to rs d) || is_some (answer_to ss d)) ≡ false → answer_to us d ≡ None → IsBothAfter (answer_to rs d) (answer_to ss d) (answer_to us d)
neither rs ss us d none is =
    unanswered rs ss us d (none_of (answer_to rs d) (or_first (is_some (answer_to rs d)) (is_some (answer_to ss d)) none)) (none_of (answer_to ss d) (or_second (is_some (answer_to rs d)) (is_some (answer_to ss d)) none)) is

-- ---- a reply more

pub push_same : (xs : List Reply) (r : Reply) → answer_to (replies_of xs) r.card ≡ None → answer_to (replies_of (xs ++ r ∷ [])) r.card ≡ Some (plan_of r.plan)
push_same [] r none = ap (λ (b : Bool). cond b (Some (plan_of r.plan)) None) (eq-eqb r.card r.card refl)
push_same (x ∷ xs) r none = go (x.card == r.card) refl (push_same xs r)
  where
    go : (b : Bool) → (x.card == r.card) ≡ b → (answer_to (replies_of xs) r.card ≡ None → answer_to (replies_of (xs ++ r ∷ [])) r.card ≡ Some (plan_of r.plan)) → answer_to (replies_of (x ∷ xs ++ r ∷ [])) r.card ≡ Some (plan_of r.plan)
    go true here rec = let bad : Some (plan_of x.plan) ≡ None = sym (ap (λ (b : Bool). cond b (Some (plan_of x.plan)) (answer_to (replies_of xs) r.card)) here) ∙ none in absurd cc
    go false here rec =
        ap (λ (b : Bool). cond b (Some (plan_of x.plan)) (answer_to (replies_of (xs ++ r ∷ [])) r.card)) here
        ∙ rec (sym (ap (λ (b : Bool). cond b (Some (plan_of x.plan)) (answer_to (replies_of xs) r.card)) here) ∙ none)

pub push_other : (xs : List Reply) (r : Reply) (d : ℕ) → (r.card ≡ d → ⊥) → answer_to (replies_of (xs ++ r ∷ [])) d ≡ answer_to (replies_of xs) d
push_other [] r d other = ap (λ (b : Bool). cond b (Some (plan_of r.plan)) None) (ne_eqb r.card d other)
push_other (x ∷ xs) r d other = ap (λ (o : Option (Plan ℕ)). cond (x.card == d) (Some (plan_of x.plan)) o) (push_other xs r d other)

pub push_levels : (xs : List Reply) (r : Reply) (most : ℕ) → levels_below (replies_of xs) ≤ most → levels_of (plan_of r.plan) ≤ most → levels_below (replies_of (xs ++ r ∷ [])) ≤ most
push_levels [] r most low here = omega arith
push_levels (x ∷ xs) r most low here = let rest = push_levels xs r most (omega arith) here in omega (arith, rest)

-- ---- one card more

module _ (rs ss : Replies ℕ) (old new : List ℕ) (card : ℕ) (xs ys : List Reply) (r : Reply) (a_set : IsCardSet old) (first : old ≡ card ∷ new) (pushed : ys ≡ xs ++ r ∷ []) (is_card : r.card ≡ card) where
  pub still_old : (d : ℕ) → has_card new d ≡ true → has_card old d ≡ true
  still_old d held = ap (λ cards. has_card cards d) first ∙ or_right (card == d) (has_card new d) held

  after_card : (d : ℕ) → has_card new d ≡ true → card < d
  after_card d held = tail-after card new (subst IsCardSet first a_set) d held

  other_answer : (d : ℕ) → (card ≡ d → ⊥) → answer_to (replies_of ys) d ≡ answer_to (replies_of xs) d
  other_answer d other = ap (λ zs. answer_to (replies_of zs) d) pushed ∙ push_other xs r d (λ e. other (sym is_card ∙ e))

  pub left_more : ((d : ℕ) → has_card old d ≡ true → answer_to (replies_of xs) d ≡ None) → (d : ℕ) → has_card new d ≡ true → answer_to (replies_of ys) d ≡ None
  left_more left d held = other_answer d (λ same. absurd (omega (arith, after_card d held))) ∙ left d (still_old d held)

  pub done_more : ((d : ℕ) → has_card old d ≡ true → answer_to (replies_of xs) d ≡ None)
      → ((d : ℕ) → has_card old d ≡ false → IsBothAfter (answer_to rs d) (answer_to ss d) (answer_to (replies_of xs) d))
      → IsBothAfter (answer_to rs card) (answer_to ss card) (Some (plan_of r.plan))
      → (d : ℕ) → has_card new d ≡ false → IsBothAfter (answer_to rs d) (answer_to ss d) (answer_to (replies_of ys) d)
  done_more left done both d free =
      elim (cases_eq card d) [
        | inl same ↦
            (let here : has_card old r.card ≡ true = ap (λ cards. has_card cards r.card) first ∙ ap (λ b. b || has_card new r.card) (eq-eqb card r.card (sym is_card)) in
            let mine : answer_to (replies_of ys) card ≡ Some (plan_of r.plan) = ap (λ c. answer_to (replies_of ys) c) (sym is_card) ∙ ap (λ zs. answer_to (replies_of zs) r.card) pushed ∙ push_same xs r (left r.card here) in
            subst (λ c. IsBothAfter (answer_to rs c) (answer_to ss c) (answer_to (replies_of ys) c)) same (subst (λ o. IsBothAfter (answer_to rs card) (answer_to ss card) o) (sym mine) both))
        | inr other ↦
            (let out : has_card old d ≡ false = ap (λ cards. has_card cards d) first ∙ ap (λ b. b || has_card new d) (ne_eqb card d other) ∙ free in
            subst (λ o. IsBothAfter (answer_to rs d) (answer_to ss d) o) (sym (other_answer d other)) (done d out))
      ]

-- all cards
pub all_done : (rs ss us : Replies ℕ) (cards : List ℕ) → cards ≡ [] → ((d : ℕ) → has_card cards d ≡ false → IsBothAfter (answer_to rs d) (answer_to ss d) (answer_to us d)) → IsBoth (Hear rs) (Hear ss) (Hear us)
all_done rs ss us cards empty done = both_hear rs ss us (λ d. done d (ap (λ cards. has_card cards d) empty))
