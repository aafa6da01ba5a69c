-- The places of a step, and the tests of them.
use Rattle.std.proofs.Common.{◌≡◌, ◌∙◌, ◌&&◌, ◌||◌, ◌<◌, ℕ, Bool, true, cond, Some, None, List, [], ◌∷◌, refl, sym, ap, subst, inl, inr, true≢false, arith}
use Rattle.std.proofs.lemmas.Bool.{cases_eq, cases_Bool, eq-eqb, ne_eqb, and_parts, and_from, or_left, or_right}
use Rattle.card_sets.specs.SetWords.{has_card, IsCardSet}
use Rattle.card_sets.proofs.Sets.{tail-after, IsCardSet-tail, IsCardSet-cards_where}
use Rattle.trick_rules.specs.Positions.{State}
use Rattle.trick_rules.specs.Play.{legal_in, after}
use Rattle.strategy_games.specs.Plans.{Plan, Replies, Stop, Play, Hear, NoReply, Reply, cards_of, wins}
use Rattle.strategy_tree.specs.Bridge.{bridge}
use Rattle.strategy_check.specs.Following.{CanFollow, CanFollowEach}
use Rattle.strategy_check.proofs.Followed.{follow_Play, follow_Hear, follow_Reply, follow_later}
use Rattle.told_plans.specs.Follows.{answer_to, rest_after}
use Rattle.told_plans.proofs.Answered.{first_answer, later_answer, replied}
use Rattle.told_layouts.specs.Places.{IsPlace, CanReach, IsWonFrom}
use Rattle.told_layouts.specs.Looking.{somewhere, somewhere_below}

some_same : {A : Type 0} (x y : A) → Some x ≡ Some y → x ≡ y
some_same x y h = cc

-- ---- the answer to a card

-- what a later reply answers, all of them do, since each card is replied to once
pub all_answer : (c card : ℕ) (p q : Plan ℕ) (later : Replies ℕ) → IsCardSet (cards_of (Reply c p later)) → answer_to later card ≡ Some q → answer_to (Reply c p later) card ≡ Some q
all_answer c card p q later a_set is =
    let below : c < card = tail-after c (cards_of later) a_set card (replied later card q is) in
    later_answer c card p later (λ same. omega (arith, below, same)) ∙ is

pub replied_once : (rs : Replies ℕ) (s : State) → CanFollow (Hear rs) s → IsCardSet (cards_of rs)
replied_once rs s f = subst IsCardSet (sym f.fits.2) (IsCardSet-cards_where _)

-- ---- the first step

pub first_place : (plan : Plan ℕ) (s : State) → IsPlace [] plan s plan s
first_place plan s = (refl, refl)

pub first_reached : (plan : Plan ℕ) (s : State) → CanReach [] plan s
first_reached plan s = (plan, s, first_place plan s)

-- what is so of the plan itself is so of the rest at the only place
at_first : (test : Plan ℕ → State → Bool) (plan rest : Plan ℕ) (s place : State) → IsPlace [] plan s rest place → test rest place ≡ test plan s
at_first test plan rest s place p = sym (ap (λ (q : Plan ℕ). test q s) p.0 ∙ ap (λ (x : State). test rest x) p.1)

pub first_won : (plan : Plan ℕ) (s : State) → (IsWonFrom [] plan s → wins bridge plan s ≡ true) × (wins bridge plan s ≡ true → IsWonFrom [] plan s)
first_won plan s = (
  λ won. won plan s (first_place plan s),
  λ won rest place p. at_first (λ q x. wins bridge q x) plan rest s place p ∙ won,
)

-- ---- a step further on

-- a card of declarer's side is the one that is played
pub played : (c card : ℕ) (p q : Plan ℕ) → rest_after (Play c p) card ≡ Some q → (c ≡ card) × (p ≡ q)
played c card p q is =
    elim (cases_eq c card) [
      | inl same ↦ (same, some_same p q (sym (ap (λ (b : Bool). cond b (Some p) None) (eq-eqb c card same)) ∙ is))
      | inr other ↦ (let none : None ≡ Some q = sym (ap (λ (b : Bool). cond b (Some p) None) (ne_eqb c card other)) ∙ is in absurd cc)
    ]

-- ---- tests of the places

module _ (test : Plan ℕ → State → Bool) where
  -- a place at which the test holds
  abbrev pub Found : List (List ℕ) → Plan ℕ → State → Type 0
  Found sets plan s = (rest : Plan ℕ) × (place : State) × IsPlace sets plan s rest place × (test rest place ≡ true)

  -- below one of the replies
  abbrev FoundBelow : List ℕ → List (List ℕ) → Replies ℕ → State → Type 0
  FoundBelow set sets rs s = (card : ℕ) × (q : Plan ℕ) × (has_card set card ≡ true) × (has_card (legal_in s) card ≡ true) × (answer_to rs card ≡ Some q) × Found sets q (after s card)

  found_further : (set : List ℕ) (sets : List (List ℕ)) (plan q : Plan ℕ) (s : State) (card : ℕ) → has_card set card ≡ true → has_card (legal_in s) card ≡ true → rest_after plan card ≡ Some q → Found sets q (after s card) → Found (set ∷ sets) plan s
  found_further set sets plan q s card in_set legal is f = (f.0, f.1, (card, q, in_set, legal, is, f.2), f.3)

  mutual
    pub found_place : (sets : List (List ℕ)) (plan : Plan ℕ) (s : State) → CanFollow plan s → somewhere test sets plan s ≡ true → Found sets plan s
    found_place [] plan s follow h = (plan, s, first_place plan s, h)
    found_place (set ∷ sets) Stop s follow h = absurd (true≢false (sym h))
    found_place (set ∷ sets) (Play card rest) s follow h =
        let parts = and_parts (has_card set card) (somewhere test sets rest (after s card)) h in
        let on = follow_Play card rest s follow in
        found_further set sets (Play card rest) rest s card parts.0 on.0 (ap (λ (b : Bool). cond b (Some rest) None) (eq-eqb card card refl)) (found_place sets rest (after s card) on.1 parts.1)
    found_place (set ∷ sets) (Hear rs) s follow h =
        let f = found_below set sets rs s (follow_Hear rs s follow) (replied_once rs s follow) h in
        found_further set sets (Hear rs) f.1 s f.0 f.2 f.3 f.4 f.5

    found_below : (set : List ℕ) (sets : List (List ℕ)) (rs : Replies ℕ) (s : State) → CanFollowEach rs s → IsCardSet (cards_of rs) → somewhere_below test set sets rs s ≡ true → FoundBelow set sets rs s
    found_below set sets NoReply s follow a_set h = absurd (true≢false (sym h))
    found_below set sets (Reply card q later) s follow a_set h =
        let here = has_card set card && has_card (legal_in s) card && somewhere test sets q (after s card) in
        elim (cases_Bool here) [
          | inl found ↦
              (let parts = and_parts (has_card set card && has_card (legal_in s) card) (somewhere test sets q (after s card)) found in
              let can = and_parts (has_card set card) (has_card (legal_in s) card) parts.0 in
              (card, q, can.0, can.1, first_answer card q later, found_place sets q (after s card) (follow_Reply card q later s follow can.1) parts.1))
          | inr not_here ↦
              (let f = found_below set sets later s (follow_later card q later s follow) (IsCardSet-tail card (cards_of later) a_set) (sym (ap (λ b. b || somewhere_below test set sets later s) not_here) ∙ h) in
              (f.0, f.1, f.2, f.3, all_answer card f.0 q f.1 later a_set f.4, f.5))
        ]

  mutual
    pub passes_somewhere : (sets : List (List ℕ)) (plan rest : Plan ℕ) (s place : State) → IsPlace sets plan s rest place → test rest place ≡ true → somewhere test sets plan s ≡ true
    passes_somewhere [] plan rest s place p h = sym (at_first test plan rest s place p) ∙ h
    passes_somewhere (set ∷ sets) Stop rest s place p h = let none : None ≡ Some p.1 = p.4 in absurd cc
    passes_somewhere (set ∷ sets) (Play c q) rest s place p h =
        let same = played c p.0 q p.1 p.4 in
        and_from (has_card set c) (somewhere test sets q (after s c))
        (subst (λ (x : ℕ). has_card set x ≡ true) (sym same.0) p.2)
        (subst (λ (x : ℕ). somewhere test sets q (after s x) ≡ true) (sym same.0)
        (passes_somewhere sets q rest (after s p.0) place (subst (λ (x : Plan ℕ). IsPlace sets x (after s p.0) rest place) (sym same.1) p.5) h))
    passes_somewhere (set ∷ sets) (Hear rs) rest s place p h = passes_below set sets rs p.1 rest s place p.0 p.2 p.3 p.4 p.5 h

    passes_below : (set : List ℕ) (sets : List (List ℕ)) (rs : Replies ℕ) (q rest : Plan ℕ) (s place : State) (card : ℕ) → has_card set card ≡ true → has_card (legal_in s) card ≡ true → answer_to rs card ≡ Some q
        → IsPlace sets q (after s card) rest place → test rest place ≡ true → somewhere_below test set sets rs s ≡ true
    passes_below set sets NoReply q rest s place card in_set legal is p h = absurd cc
    passes_below set sets (Reply c r later) q rest s place card in_set legal is p h =
        elim (cases_eq c card) [
          | inl same ↦
              (let same_plan : r ≡ q = some_same r q (sym (ap (λ (b : Bool). cond b (Some r) (answer_to later card)) (eq-eqb c card same)) ∙ is) in
              let below : somewhere test sets r (after s c) ≡ true = subst (λ (x : ℕ). somewhere test sets r (after s x) ≡ true) (sym same)
              (passes_somewhere sets r rest (after s card) place (subst (λ (x : Plan ℕ). IsPlace sets x (after s card) rest place) (sym same_plan) p) h) in
              or_left (has_card set c && has_card (legal_in s) c && somewhere test sets r (after s c)) (somewhere_below test set sets later s)
              (and_from (has_card set c && has_card (legal_in s) c) (somewhere test sets r (after s c))
              (and_from (has_card set c) (has_card (legal_in s) c) (subst (λ (x : ℕ). has_card set x ≡ true) (sym same) in_set) (subst (λ (x : ℕ). has_card (legal_in s) x ≡ true) (sym same) legal)) below))
          | inr other ↦ or_right (has_card set c && has_card (legal_in s) c && somewhere test sets r (after s c)) (somewhere_below test set sets later s)
              (passes_below set sets later q rest s place card in_set legal (sym (later_answer c card r later other) ∙ is) p h)
        ]
