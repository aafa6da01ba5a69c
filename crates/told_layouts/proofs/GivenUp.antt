-- A strategy loses what it gives up.
use Rattle.std.proofs.Common.{◌≡◌, ◌∙◌, ◌&&◌, ℕ, zero, suc, Bool, true, false, cond, Some, None, List, [], ◌∷◌, refl, sym, ap, ap₂, subst, inl, inr, true≢false}
use Rattle.std.specs.Prelude.{◌||◌}
use Rattle.std.proofs.lemmas.Bool.{cases_Bool, cases_eq, eq-eqb, ne_eqb, and_parts, false_from_ne_true}
use Rattle.card_sets.specs.SetWords.{has_card, IsCardSet}
use Rattle.card_sets.proofs.Sets.{IsCardSet-tail}
use Rattle.trick_rules.specs.Positions.{State, to_play}
use Rattle.trick_rules.specs.Play.{legal_in, after, makes, is_over, is_declarers, Makes}
use Rattle.trick_rules.specs.Nodes.{IsNode}
use Rattle.trick_rules.proofs.PlayLaws as play
use Rattle.strategy_games.specs.Plans.{Plan, Replies, Stop, Play, Hear, NoReply, Reply, cards_of, Fits, wins}
use Rattle.strategy_games.proofs.Moves.{made_by}
use Rattle.strategy_tree.specs.Bridge.{bridge}
use Rattle.strategy_tree.proofs.Rules.{lawful, double_dummy, table_of, going_on}
use Rattle.strategy_tree.proofs.Winning.{wins-Stop, wins_each-Reply}
use Rattle.strategy_check.specs.Following.{CanFollow, CanFollowEach, win_each}
use Rattle.strategy_check.proofs.Followed.{followed_state, follow_Play, follow_Hear, follow_Reply, follow_later}
use Rattle.told_plans.specs.Follows.{answer_to, rest_after}
use Rattle.told_plans.proofs.Answered.{first_answer}
use Rattle.told_layouts.specs.Places.{IsPlace, GivesUp, IsGivenUpAt}
use Rattle.told_layouts.specs.Losing.{LosesWhatItGivesUp}
use Rattle.told_layouts.proofs.Placed.{played, all_answer, replied_once}

-- what a plan wins, double dummy makes
made : (plan : Plan ℕ) (s : State) → CanFollow plan s → wins bridge plan s ≡ true → makes s ≡ true
made plan s f won = made_by bridge IsNode lawful double_dummy plan f.node f.moves s f.sound f.fits f.among won

-- the plan's card gives the layout up at some step
abbrev IsGivenUp : Plan ℕ → State → Type 0
IsGivenUp plan s = (sets : List (List ℕ)) × IsGivenUpAt sets plan s

one_card : (card : ℕ) → has_card (card ∷ []) card ≡ true
one_card card = ap (λ b. b || false) (eq-eqb card card refl)

-- what is given up after a legal card is given up before it
later_on : (plan q : Plan ℕ) (s : State) (card : ℕ) → has_card (legal_in s) card ≡ true → rest_after plan card ≡ Some q → IsGivenUp q (after s card) → IsGivenUp plan s
later_on plan q s card legal is g = ((card ∷ []) ∷ g.0, (g.1.0, g.1.1, (card, q, one_card card, legal, is, g.1.2), g.1.3))

-- below one of the replies
abbrev IsGivenUpBelow : Replies ℕ → State → Type 0
IsGivenUpBelow rs s = (card : ℕ) × (q : Plan ℕ) × (has_card (legal_in s) card ≡ true) × (answer_to rs card ≡ Some q) × IsGivenUp q (after s card)

-- against the defenders double dummy makes after each legal card
each_card_makes : (s : State) (card : ℕ) → is_over s.position ≡ false → is_declarers (to_play s.position) ≡ false → Makes s → has_card (legal_in s) card ≡ true → Makes (after s card)
each_card_makes s card going theirs (Makes.ended over none) legal = absurd (true≢false (sym over ∙ going))
each_card_makes s card going theirs (Makes.some_card left ours c h more) legal = absurd (true≢false (sym ours ∙ theirs))
each_card_makes s card going theirs (Makes.each_card left not_ours each) legal = each card legal

makes_after : (rs : Replies ℕ) (s : State) → CanFollow (Hear rs) s → makes s ≡ true → (card : ℕ) → has_card (legal_in s) card ≡ true → makes (after s card) ≡ true
makes_after rs s f h card legal = go f.moves f.fits
  where
    go : (moves : ℕ) → Fits bridge (Hear rs) f.node moves → makes (after s card) ≡ true
    go zero fits = absurd (true≢false fits.0)
    go (suc m) fits =
        let ok = followed_state (Hear rs) s f in
        let at = table_of f.node s f.among in
        let makes_here = (play.makes_by_the_rules s ok).0 h in
        (play.makes_by_the_rules (after s card) (play.a_legal_card_leads_to_a_state s card ok legal)).1
        (each_card_makes s card (rw at (going_on f.node.position fits.0)) (rw at fits.1) makes_here legal)

mutual
  pub given_up : (plan : Plan ℕ) (s : State) → CanFollow plan s → makes s ≡ true → wins bridge plan s ≡ false → IsGivenUp plan s
  given_up Stop s f h lost = absurd (true≢false (sym h ∙ sym (wins-Stop s) ∙ lost))
  given_up (Play card rest) s f h lost =
      let on = follow_Play card rest s f in
      elim (cases_Bool (makes (after s card))) [
        | inl still ↦ later_on (Play card rest) rest s card on.0 (ap (λ (b : Bool). cond b (Some rest) None) (eq-eqb card card refl)) (given_up rest (after s card) on.1 still lost)
        | inr gone ↦ ([], (Play card rest, s, (refl, refl), (h, gone)))
      ]
  given_up (Hear rs) s f h lost =
      let g = given_up_below rs s (follow_Hear rs s f) (makes_after rs s f h) (replied_once rs s f) lost in
      later_on (Hear rs) g.1 s g.0 g.2 g.3 g.4

  given_up_below : (rs : Replies ℕ) (s : State) → CanFollowEach rs s → ((card : ℕ) → has_card (legal_in s) card ≡ true → makes (after s card) ≡ true) → IsCardSet (cards_of rs) → win_each rs s ≡ false → IsGivenUpBelow rs s
  given_up_below NoReply s f each a_set lost = absurd (true≢false lost)
  given_up_below (Reply card q later) s f each a_set lost =
      let rest : (win_each later s ≡ false) → IsGivenUpBelow (Reply card q later) s = λ lost_later.
      (let g = given_up_below later s (follow_later card q later s f) each (IsCardSet-tail card (cards_of later) a_set) lost_later in
      (g.0, g.1, g.2, all_answer card g.0 q g.1 later a_set g.3, g.4)) in
      elim (cases_Bool (has_card (legal_in s) card)) [
        | inl legal ↦ elim (cases_Bool (wins bridge q (after s card))) [
          | inl won ↦ rest (sym (wins_each-Reply card q later s ∙ ap₂ (λ (a b : Bool). cond a b true && win_each later s) legal won) ∙ lost)
          | inr lost_here ↦ (card, q, legal, first_answer card q later, given_up q (after s card) (follow_Reply card q later s f legal) (each card legal) lost_here)
        ]
        | inr not_legal ↦ rest (sym (wins_each-Reply card q later s ∙ ap (λ (a : Bool). cond a (wins bridge q (after s card)) true && win_each later s) not_legal) ∙ lost)
      ]

-- ---- what is won stays won

-- a plan that can be followed in this layout, and wins it
abbrev Winning : Plan ℕ → State → Type 0
Winning plan s = CanFollow plan s × (wins bridge plan s ≡ true)

some_same : {A : Type 0} (x y : A) → Some x ≡ Some y → x ≡ y
some_same x y h = cc

answer_wins : (rs : Replies ℕ) (s : State) (card : ℕ) (q : Plan ℕ) → CanFollowEach rs s → win_each rs s ≡ true → has_card (legal_in s) card ≡ true → answer_to rs card ≡ Some q → Winning q (after s card)
answer_wins NoReply s card q f won legal is = absurd cc
answer_wins (Reply c p later) s card q f won legal is =
    let parts = and_parts (cond (has_card (legal_in s) c) (wins bridge p (after s c)) true) (win_each later s) (sym (wins_each-Reply c p later s) ∙ won) in
    elim (cases_eq c card) [
      | inl same ↦
          (let same_plan : p ≡ q = some_same p q (sym (ap (λ (b : Bool). cond b (Some p) (answer_to later card)) (eq-eqb c card same)) ∙ is) in
          let legal_here : has_card (legal_in s) c ≡ true = subst (λ (x : ℕ). has_card (legal_in s) x ≡ true) (sym same) legal in
          let here : Winning p (after s c) = (follow_Reply c p later s f legal_here, sym (ap (λ (b : Bool). cond b (wins bridge p (after s c)) true) legal_here) ∙ parts.0) in
          subst (λ (x : ℕ). Winning q (after s x)) same (subst (λ (x : Plan ℕ). Winning x (after s c)) same_plan here))
      | inr other ↦ answer_wins later s card q (follow_later c p later s f) parts.1 legal (sym (ap (λ (b : Bool). cond b (Some p) (answer_to later card)) (ne_eqb c card other)) ∙ is)
    ]

-- after a legal card
won_after : (plan q : Plan ℕ) (s : State) (card : ℕ) → Winning plan s → has_card (legal_in s) card ≡ true → rest_after plan card ≡ Some q → Winning q (after s card)
won_after Stop q s card w legal is = let none : None ≡ Some q = is in absurd cc
won_after (Play c p) q s card w legal is =
    let same = played c card p q is in
    let on = follow_Play c p s w.0 in
    subst (λ (x : ℕ). Winning q (after s x)) same.0 (subst (λ (x : Plan ℕ). Winning x (after s c)) same.1 (on.1, w.1))
won_after (Hear rs) q s card w legal is = answer_wins rs s card q (follow_Hear rs s w.0) w.1 legal is

won_at : (sets : List (List ℕ)) (plan rest : Plan ℕ) (s place : State) → Winning plan s → IsPlace sets plan s rest place → Winning rest place
won_at [] plan rest s place w p = subst (λ (x : State). Winning rest x) p.1 (subst (λ (q : Plan ℕ). Winning q s) p.0 w)
won_at (set ∷ sets) plan rest s place w p = won_at sets p.1 rest (after s p.0) place (won_after plan p.1 s p.0 w p.3 p.4) p.5

not_given_up : (rest : Plan ℕ) (place : State) → Winning rest place → GivesUp rest place → ⊥
not_given_up Stop place w g = g
not_given_up (Play card q) place w g = true≢false (sym (made q (after place card) (follow_Play card q place w.0).1 w.1) ∙ g.1)
not_given_up (Hear rs) place w g = g

pub loses_what_it_gives_up : LosesWhatItGivesUp
loses_what_it_gives_up plan n moves s sound fits among h =
    let f : CanFollow plan s = record { node = n; moves = moves; sound = sound; among = among; fits = fits } in (
      λ lost. given_up plan s f h lost,
      λ g. false_from_ne_true (wins bridge plan s) (λ won. not_given_up g.1.0 g.1.1 (won_at g.0 plan g.1.0 s g.1.1 (f, won) g.1.2) g.1.3),
    )
