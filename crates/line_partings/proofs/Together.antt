-- A reply before others: the nearer of the place behind it and the place behind those.
use Rattle.std.proofs.Common.{◌≡◌, ◌∙◌, ◌<◌, ◌≤◌, ℕ, Bool, true, false, cond, Option, Some, None, List, [], ◌∷◌, length, refl, sym, ap, subst, inl, inr, arith}
use Rattle.std.specs.Prelude.{◌⊎◌, option_and_then, nat_le}
use Rattle.std.specs.Option.{option_map}
use Rattle.std.proofs.lemmas.Bool.{cases_eq}
use Rattle.card_sets.specs.SetWords.{IsCardSet}
use Rattle.card_sets.proofs.Sets.{tail-after}
use Rattle.strategy_games.specs.Plans.{Plan, Replies, Hear, Reply, cards_of}
use Rattle.told_plans.specs.Follows.{Action, Plays, Waits, answer_to, does_after}
use Rattle.told_plans.proofs.Answered.{first_answer, later_answer, replied}
use Rattle.line_partings.specs.Partings.{PartAfter, IsEarlier, PartingValue, IsFirstParting, IsWhereTheyPart}
use Rattle.line_partings.specs.Nearest.{with_card, nearer}
use Rattle.line_partings.proofs.Apart.{earlier_tail, never_from_itself}

-- what a plan does that foresees a card has an answer to it
some_answer : (history : List ℕ) (answer : Option (Plan ℕ)) (a : Action) → option_and_then (does_after history) answer ≡ Some a → (q : Plan ℕ) × (answer ≡ Some q)
some_answer history None a is = absurd cc
some_answer history (Some q) a is = (q, refl)

module _ (c : ℕ) (p q : Plan ℕ) (rs ss : Replies ℕ) (in_order : IsCardSet (c ∷ cards_of rs)) where
  -- they part behind the first reply,
  behind_first : (history : List ℕ) (a b : ℕ) → PartAfter p q history a b → PartAfter (Hear (Reply c p rs)) (Hear (Reply c q ss)) (c ∷ history) a b
  behind_first history a b part = record {
    plays = ap (option_and_then (does_after history)) (first_answer c p rs) ∙ part.plays;
    other_plays = ap (option_and_then (does_after history)) (first_answer c q ss) ∙ part.other_plays;
    differ = part.differ;
  }

  -- or behind a later one, whose card comes after the first one's
  card_after : (d : ℕ) (history : List ℕ) (a b : ℕ) → PartAfter (Hear rs) (Hear ss) (d ∷ history) a b → c < d
  card_after d history a b part =
      let answer = some_answer history (answer_to rs d) (Plays a) part.plays in
      tail-after c (cards_of rs) in_order d (replied rs d answer.0 answer.1)

  behind_later : (history : List ℕ) (a b : ℕ) → PartAfter (Hear rs) (Hear ss) history a b → PartAfter (Hear (Reply c p rs)) (Hear (Reply c q ss)) history a b
  behind_later [] a b part = record { plays = part.plays; other_plays = part.other_plays; differ = part.differ }
  behind_later (d ∷ history) a b part =
      let after = card_after d history a b part in
      let other : c ≡ d → ⊥ = λ (e : c ≡ d). omega arith in
      record {
        plays = ap (option_and_then (does_after history)) (later_answer c d p rs other) ∙ part.plays;
        other_plays = ap (option_and_then (does_after history)) (later_answer c d q ss other) ∙ part.other_plays;
        differ = part.differ;
      }

  -- and nowhere else
  pub record Behind (history : List ℕ) (d : ℕ) (a b : ℕ) : Type 0 where
    pub which : ((c ≡ d) × PartAfter p q history a b) ⊎ PartAfter (Hear rs) (Hear ss) (d ∷ history) a b

  behind : (d : ℕ) (history : List ℕ) (a b : ℕ) → PartAfter (Hear (Reply c p rs)) (Hear (Reply c q ss)) (d ∷ history) a b → Behind history d a b
  behind d history a b part =
      elim (cases_eq c d) [
        | inl same ↦
            (let first = subst (λ x. PartAfter (Hear (Reply c p rs)) (Hear (Reply c q ss)) (x ∷ history) a b) (sym same) part in
            record {
              which = inl (
                same,
                record {
                  plays = sym (ap (option_and_then (does_after history)) (first_answer c p rs)) ∙ first.plays;
                  other_plays = sym (ap (option_and_then (does_after history)) (first_answer c q ss)) ∙ first.other_plays;
                  differ = part.differ;
                },
              );
            })
        | inr other ↦ record {
          which = inr (record {
            plays = sym (ap (option_and_then (does_after history)) (later_answer c d p rs other)) ∙ part.plays;
            other_plays = sym (ap (option_and_then (does_after history)) (later_answer c d q ss other)) ∙ part.other_plays;
            differ = part.differ;
          });
        }
      ]

  -- a history comes no earlier than a place if it doesn't so behind the first reply, nor behind a later one
  none_before : (place : List ℕ)
      → ((history : List ℕ) (a b : ℕ) → PartAfter p q history a b → IsEarlier (c ∷ history) place → ⊥)
      → ((d : ℕ) (history : List ℕ) (a b : ℕ) → c < d → PartAfter (Hear rs) (Hear ss) (d ∷ history) a b → IsEarlier (d ∷ history) place → ⊥)
      → (history : List ℕ) (a b : ℕ) → PartAfter (Hear (Reply c p rs)) (Hear (Reply c q ss)) history a b → IsEarlier history place → ⊥
  none_before place first later [] a b part early = let bad : Some Waits ≡ Some (Plays a) = part.plays in cc
  none_before place first later (d ∷ history) a b part early = go (behind d history a b part).which
    where
      go : ((c ≡ d) × PartAfter p q history a b) ⊎ PartAfter (Hear rs) (Hear ss) (d ∷ history) a b → ⊥
      go (inl (same, behind)) = first history a b behind (subst (λ x. IsEarlier (x ∷ history) place) (sym same) early)
      go (inr behind) = later d history a b (card_after d history a b behind) behind early

  -- the place behind the first reply
  first_nearest : (f : PartingValue) → IsFirstParting p q f
      → ((d : ℕ) (history : List ℕ) (a b : ℕ) → c < d → PartAfter (Hear rs) (Hear ss) (d ∷ history) a b → IsEarlier (d ∷ history) (c ∷ f.history) → ⊥)
      → IsFirstParting (Hear (Reply c p rs)) (Hear (Reply c q ss)) (with_card c f)
  first_nearest f is later = record {
    there = behind_first f.history f.card f.other is.there;
    first = none_before (c ∷ f.history) (λ history a b part early. is.first history a b part (earlier_tail c history f.history early)) later;
  }

  -- the place behind a later one
  later_nearest : (g : PartingValue) → IsFirstParting (Hear rs) (Hear ss) g
      → ((history : List ℕ) (a b : ℕ) → PartAfter p q history a b → IsEarlier (c ∷ history) g.history → ⊥)
      → IsFirstParting (Hear (Reply c p rs)) (Hear (Reply c q ss)) g
  later_nearest g is first = record {
    there = behind_later g.history g.card g.other is.there;
    first = none_before g.history first (λ d history a b after part early. is.first (d ∷ history) a b part early);
  }

  -- behind a later reply with a card more than the place has there is none that is earlier
  later_after : (f g : PartingValue) → length (c ∷ f.history) ≤ length g.history → IsFirstParting (Hear rs) (Hear ss) g
      → (d : ℕ) (history : List ℕ) (a b : ℕ) → c < d → PartAfter (Hear rs) (Hear ss) (d ∷ history) a b → IsEarlier (d ∷ history) (c ∷ f.history) → ⊥
  later_after f g short is d history a b after part (inl fewer) = is.first (d ∷ history) a b part (inl (omega arith))
  later_after f g short is d history a b after part (inr (many, inl before)) = omega arith
  later_after f g short is d history a b after part (inr (many, inr (same, before))) = omega arith

  first_after : (f g : PartingValue) → length g.history < length (c ∷ f.history) → IsFirstParting p q f
      → (history : List ℕ) (a b : ℕ) → PartAfter p q history a b → IsEarlier (c ∷ history) g.history → ⊥
  first_after f g short is history a b part (inl fewer) = is.first history a b part (inl (omega arith))
  first_after f g short is history a b part (inr (many, before)) = is.first history a b part (inl (omega arith))

  pub one_reply_more : (x y : Option PartingValue) → IsWhereTheyPart p q x → IsWhereTheyPart (Hear rs) (Hear ss) y
      → IsWhereTheyPart (Hear (Reply c p rs)) (Hear (Reply c q ss)) (nearer (option_map (with_card c) x) y)
  one_reply_more None None is_x is_y = let same : rs ≡ ss = cc in cc
  one_reply_more (Some f) None is_x is_y = first_nearest f is_x (λ d history a b after part early. never_from_itself (Hear rs) (Hear ss) (d ∷ history) a b is_y part)
  one_reply_more None (Some g) is_x is_y = later_nearest g is_y (λ history a b part early. never_from_itself p q history a b is_x part)
  one_reply_more (Some f) (Some g) is_x is_y = go (nat_le (length (c ∷ f.history)) (length g.history)) refl
    where
      go : (b : Bool) → nat_le (length (c ∷ f.history)) (length g.history) ≡ b → IsWhereTheyPart (Hear (Reply c p rs)) (Hear (Reply c q ss)) (cond b (Some (with_card c f)) (Some g))
      go true short = first_nearest f is_x (later_after f g (grind arith) is_y)
      go false long = later_nearest g is_y (first_after f g (grind arith) is_x)
