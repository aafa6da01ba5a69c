-- Two plans in one, and plans that differ.
use Rattle.std.proofs.Common.{◌≡◌, ◌∙◌, ◌≤◌, ◌==◌, ℕ, Bool, true, false, cond, Some, None, [], ◌∷◌, refl, sym, ap, inl, inr, ⊎_elim, arith}
use Rattle.std.specs.Prelude.{option_and_then, max}
use Rattle.std.proofs.lemmas.Bool.{eq-eqb}
use Rattle.strategy_games.specs.Plans.{Plan, Replies, Stop, Play, Hear, NoReply, Reply}
use Rattle.strategy_tree.specs.PlanText.{levels_of, levels_below}
use Rattle.told_plans.specs.Follows.{Stops, Plays, Waits, action, answer_to, rest_after, does_after, Agree, IsBoth}
use Rattle.told_plans.specs.BothSteps.{IsBothAfter}

-- ---- plans that differ

-- at once
pub apart_first : (p q : Plan ℕ) → (action p ≡ action q → ⊥) → Agree p q → ⊥
apart_first p q differ agree = differ (agree [] (action p) (action q) refl refl)

-- after a card
pub apart_after : (p q : Plan ℕ) (card : ℕ) (x y : Plan ℕ) → rest_after p card ≡ Some x → rest_after q card ≡ Some y → (Agree x y → ⊥) → Agree p q → ⊥
apart_after p q card x y is_x is_y differ agree =
    differ (λ cards a b does_x does_y. agree (card ∷ cards) a b (ap (option_and_then (does_after cards)) is_x ∙ does_x) (ap (option_and_then (does_after cards)) is_y ∙ does_y))

pub stop_or_play : (c : ℕ) (q : Plan ℕ) → Agree Stop (Play c q) → ⊥
stop_or_play c q = apart_first Stop (Play c q) (λ (e : Stops ≡ Plays c). cc)

pub stop_or_hear : (rs : Replies ℕ) → Agree Stop (Hear rs) → ⊥
stop_or_hear rs = apart_first Stop (Hear rs) (λ (e : Stops ≡ Waits). cc)

pub play_or_stop : (c : ℕ) (q : Plan ℕ) → Agree (Play c q) Stop → ⊥
play_or_stop c q = apart_first (Play c q) Stop (λ (e : Plays c ≡ Stops). cc)

pub play_or_hear : (c : ℕ) (q : Plan ℕ) (rs : Replies ℕ) → Agree (Play c q) (Hear rs) → ⊥
play_or_hear c q rs = apart_first (Play c q) (Hear rs) (λ (e : Plays c ≡ Waits). cc)

pub hear_or_stop : (rs : Replies ℕ) → Agree (Hear rs) Stop → ⊥
hear_or_stop rs = apart_first (Hear rs) Stop (λ (e : Waits ≡ Stops). cc)

pub hear_or_play : (rs : Replies ℕ) (c : ℕ) (q : Plan ℕ) → Agree (Hear rs) (Play c q) → ⊥
hear_or_play rs c q = apart_first (Hear rs) (Play c q) (λ (e : Waits ≡ Plays c). cc)

pub other_card : (c d : ℕ) (p q : Plan ℕ) → (c ≡ d → ⊥) → Agree (Play c p) (Play d q) → ⊥
other_card c d p q differ = apart_first (Play c p) (Play d q) (λ (e : Plays c ≡ Plays d). differ cc)

itself : (c : ℕ) (p : Plan ℕ) → rest_after (Play c p) c ≡ Some p
itself c p = ap (λ (b : Bool). cond b (Some p) None) (eq-eqb c c refl)

pub same_card : (c : ℕ) (p q : Plan ℕ) → (Agree p q → ⊥) → Agree (Play c p) (Play c q) → ⊥
same_card c p q differ = apart_after (Play c p) (Play c q) c p q (itself c p) (itself c q) differ

pub same_answer : (rs ss : Replies ℕ) (card : ℕ) (x y : Plan ℕ) → answer_to rs card ≡ Some x → answer_to ss card ≡ Some y → (Agree x y → ⊥) → Agree (Hear rs) (Hear ss) → ⊥
same_answer rs ss card x y is_x is_y differ = apart_after (Hear rs) (Hear ss) card x y is_x is_y differ

-- ---- two plans in one

-- from what follows each card
pub both_from : (p q u : Plan ℕ) → action u ≡ action p → action u ≡ action q → ((card : ℕ) → IsBothAfter (rest_after p card) (rest_after q card) (rest_after u card)) → IsBoth p q u
both_from p q u like_p like_q each [] a = (λ h. inl (ap (λ x. Some x) (sym like_p) ∙ h), λ h. ⊎_elim (λ (e : Some (action p) ≡ Some a). ap (λ x. Some x) like_p ∙ e) (λ (e : Some (action q) ≡ Some a). ap (λ x. Some x) like_q ∙ e) h)
both_from p q u like_p like_q each (card ∷ cards) a = each card cards a

none_after : IsBothAfter None None None
none_after cards a = (λ h. inl h, λ h. ⊎_elim (λ (e : None ≡ Some a). e) (λ (e : None ≡ Some a). e) h)

pub first_after : (p : Plan ℕ) → IsBothAfter (Some p) None (Some p)
first_after p cards a = (λ h. inl h, λ h. ⊎_elim (λ (e : does_after cards p ≡ Some a). e) (λ (e : None ≡ Some a). cc) h)

pub second_after : (q : Plan ℕ) → IsBothAfter None (Some q) (Some q)
second_after q cards a = (λ h. inr h, λ h. ⊎_elim (λ (e : None ≡ Some a). cc) (λ (e : does_after cards q ≡ Some a). e) h)

pub both_stop : IsBoth Stop Stop Stop
both_stop = both_from Stop Stop Stop refl refl (λ card. none_after)

play_after : (b : Bool) (p q u : Plan ℕ) → IsBoth p q u → IsBothAfter (cond b (Some p) None) (cond b (Some q) None) (cond b (Some u) None)
play_after true p q u h = h
play_after false p q u h = none_after

pub both_play : (c : ℕ) (p q u : Plan ℕ) → IsBoth p q u → IsBoth (Play c p) (Play c q) (Play c u)
both_play c p q u h = both_from (Play c p) (Play c q) (Play c u) refl refl (λ card. play_after (c == card) p q u h)

pub both_hear : (rs ss us : Replies ℕ) → ((card : ℕ) → IsBothAfter (answer_to rs card) (answer_to ss card) (answer_to us card)) → IsBoth (Hear rs) (Hear ss) (Hear us)
both_hear rs ss us each = both_from (Hear rs) (Hear ss) (Hear us) refl refl each

-- neither has an answer
pub unanswered : (rs ss us : Replies ℕ) (card : ℕ) → answer_to rs card ≡ None → answer_to ss card ≡ None → answer_to us card ≡ None → IsBothAfter (answer_to rs card) (answer_to ss card) (answer_to us card)
unanswered rs ss us card r s u = rw (r, s, u) none_after

-- ---- replies, one after another

-- the answer to a card has no more levels than the replies
pub answer_level : (rs : Replies ℕ) (card : ℕ) (p : Plan ℕ) → answer_to rs card ≡ Some p → levels_of p ≤ levels_below rs
answer_level NoReply card p is = absurd cc
answer_level (Reply c q later) card p is = go (c == card) refl (answer_level later card p)
  where
    go : (b : Bool) → (c == card) ≡ b → (answer_to later card ≡ Some p → levels_of p ≤ levels_below later) → levels_of p ≤ max (levels_of q) (levels_below later)
    go true here rec =
        let same : Some q ≡ Some p = sym (ap (λ (b : Bool). cond b (Some q) (answer_to later card)) here) ∙ is in
        let plan : q ≡ p = cc in
        omega (arith, ap levels_of plan)
    go false here rec =
        let below = rec (sym (ap (λ (b : Bool). cond b (Some q) (answer_to later card)) here) ∙ is) in
        omega (arith, below)
