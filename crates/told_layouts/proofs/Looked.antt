-- The places below the replies, one reply after another.
use Rattle.std.proofs.Common.{◌≡◌, ◌≤◌, ◌∙◌, ◌&&◌, ◌||◌, ℕ, Bool, true, false, List, ◌∷◌, refl, sym, ap, subst}
use Rattle.card_sets.specs.SetWords.{has_card}
use Rattle.trick_rules.specs.Positions.{State}
use Rattle.trick_rules.specs.Play.{legal_in, after}
use Rattle.strategy_games.specs.Plans.{Plan, Replies, Play, Hear, Reply}
use Rattle.strategy_games.specs.Misfits.{node_counts}
use Rattle.strategy_check.specs.Following.{CanFollow, CanFollowEach}
use Rattle.strategy_check.proofs.Followed.{follow_Play, follow_Hear}
use Rattle.told_layouts.specs.declared.standing.Standing.{Standing}
use Rattle.told_layouts.specs.Looking.{somewhere, somewhere_below, loses, gives_up}

-- ---- a plan that can be followed, by what it is

pub follow_play : (plan : Plan ℕ) (card : ℕ) (rest : Plan ℕ) (s : State) → plan ≡ Play card rest → CanFollow plan s → (has_card (legal_in s) card ≡ true) × CanFollow rest (after s card)
follow_play plan card rest s is can = follow_Play card rest s (subst (λ p. CanFollow p s) is can)

pub follow_hear : (plan : Plan ℕ) (rs : Replies ℕ) (s : State) → plan ≡ Hear rs → CanFollow plan s → CanFollowEach rs s
follow_hear plan rs s is can = follow_Hear rs s (subst (λ p. CanFollow p s) is can)

-- what is sought in a plan that waits for a defender is sought below his replies
pub heard : (test : Plan ℕ → State → Bool) (set : List ℕ) (later sets : List (List ℕ)) (plan : Plan ℕ) (rs : Replies ℕ) (s : State) (found : Bool) → sets ≡ set ∷ later → plan ≡ Hear rs
    → found ≡ somewhere_below test set later rs s → found ≡ somewhere test sets plan s
heard test set later sets plan rs s found first is below =
    below ∙ sym (ap (λ x. somewhere test x plan s) first ∙ ap (λ (p : Plan ℕ). somewhere test (set ∷ later) p s) is)

-- ---- the replies

-- what holds of all replies holds of those so far or of those left
abbrev pub IsLookedAt : List ℕ → List (List ℕ) → Replies ℕ → Replies ℕ → State → Standing → Type 0
IsLookedAt set later rs left s all = record {
  follow : CanFollowEach left s;
  reached : somewhere_below (λ rest place. true) set later rs s ≡ (all.reached || somewhere_below (λ rest place. true) set later left s);
  lost : somewhere_below loses set later rs s ≡ (all.lost || somewhere_below loses set later left s);
  given_up : somewhere_below gives_up set later rs s ≡ (all.given_up || somewhere_below gives_up set later left s);
  fewer : node_counts left ≤ node_counts rs;
}

or_assoc : (a b c : Bool) → (a || (b || c)) ≡ ((a || b) || c)
or_assoc true b c = refl
or_assoc false b c = refl

module _ (test : Plan ℕ → State → Bool) (set : List ℕ) (sets : List (List ℕ)) (rs : Replies ℕ) (card : ℕ) (plan : Plan ℕ) (later : Replies ℕ) (next : rs ≡ Reply card plan later) (s : State) (so_far : Bool) where
  from_next : (so_far || somewhere_below test set sets rs s)
      ≡ (so_far || ((has_card set card && has_card (legal_in s) card && somewhere test sets plan (after s card)) || somewhere_below test set sets later s))
  from_next = ap (λ x. so_far || somewhere_below test set sets x s) next

  -- a reply that is looked at, and what is so of those so far with it
  pub looked : (one now : Bool) → (has_card set card && has_card (legal_in s) card) ≡ true → one ≡ somewhere test sets plan (after s card) → now ≡ (so_far || one)
      → (so_far || somewhere_below test set sets rs s) ≡ (now || somewhere_below test set sets later s)
  looked one now can is with_it =
      from_next
      ∙ ap (λ (b : Bool). so_far || ((b && somewhere test sets plan (after s card)) || somewhere_below test set sets later s)) can
      ∙ ap (λ (b : Bool). so_far || (b || somewhere_below test set sets later s)) (sym is)
      ∙ or_assoc so_far one (somewhere_below test set sets later s)
      ∙ ap (λ (b : Bool). b || somewhere_below test set sets later s) (sym with_it)

  pub skipped : (now : Bool) → (has_card set card && has_card (legal_in s) card) ≡ false → now ≡ so_far
      → (so_far || somewhere_below test set sets rs s) ≡ (now || somewhere_below test set sets later s)
  skipped now not_told same =
      from_next
      ∙ ap (λ (b : Bool). so_far || ((b && somewhere test sets plan (after s card)) || somewhere_below test set sets later s)) not_told
      ∙ ap (λ (b : Bool). b || somewhere_below test set sets later s) (sym same)
