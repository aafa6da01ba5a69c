-- Plans that part, card by card.
use Rattle.std.proofs.Common.{◌≡◌, ◌∙◌, ℕ, Bool, cond, Option, Some, None, List, [], ◌∷◌, refl, sym, ap, subst, inl, inr, arith}
use Rattle.std.specs.Prelude.{◌≢◌, option_and_then}
use Rattle.std.specs.Option.{option_map}
use Rattle.std.proofs.lemmas.Bool.{cases_eq, eq-eqb, ne_eqb}
use Rattle.strategy_games.specs.Plans.{Plan, Play}
use Rattle.told_plans.specs.Follows.{Plays, rest_after, does_after}
use Rattle.line_partings.specs.Partings.{PartAfter, IsEarlier, PartingValue, IsFirstParting, IsWhereTheyPart}
use Rattle.line_partings.specs.Nearest.{with_card}

-- ---- histories

-- a card before both
pub earlier_tail : (c : ℕ) (history later : List ℕ) → IsEarlier (c ∷ history) (c ∷ later) → IsEarlier history later
earlier_tail c history later (inl fewer) = inl (omega arith)
earlier_tail c history later (inr (many, inl first)) = absurd (omega arith)
earlier_tail c history later (inr (many, inr (same, before))) = inr (omega arith, before)

none_earlier : (history : List ℕ) → IsEarlier history [] → ⊥
none_earlier history (inl fewer) = omega arith
none_earlier [] (inr (many, before)) = before
none_earlier (c ∷ cards) (inr (many, before)) = before

-- ---- plans that part nowhere

-- a plan does one thing after a history
pub one_action : (plan : Plan ℕ) (history : List ℕ) (a b : ℕ) → does_after history plan ≡ Some (Plays a) → does_after history plan ≡ Some (Plays b) → a ≡ b
one_action plan history a b is_a is_b = let same : Some (Plays a) ≡ Some (Plays b) = sym is_a ∙ is_b in cc

-- a plan doesn't part from itself
pub never_from_itself : (plan other : Plan ℕ) (history : List ℕ) (a b : ℕ) → plan ≡ other → PartAfter plan other history a b → ⊥
never_from_itself plan other history a b same part =
    part.differ (one_action other history a b (ap (λ p. does_after history p) (sym same) ∙ part.plays) part.other_plays)

-- ---- a card that both play

-- after the card, and nowhere else
after_same_card : (c d : ℕ) (p q : Plan ℕ) (history : List ℕ) (a b : ℕ) → PartAfter (Play c p) (Play c q) (d ∷ history) a b → (c ≡ d) × PartAfter p q history a b
after_same_card c d p q history a b part =
    elim (cases_eq c d) [
      | inl same ↦ (
        same,
        record {
          plays = sym (ap (λ (t : Bool). option_and_then (does_after history) (cond t (Some p) None)) (eq-eqb c d same)) ∙ part.plays;
          other_plays = sym (ap (λ (t : Bool). option_and_then (does_after history) (cond t (Some q) None)) (eq-eqb c d same)) ∙ part.other_plays;
          differ = part.differ;
        },
      )
      | inr other ↦
          (let none : None ≡ Some (Plays a) = sym (ap (λ (t : Bool). option_and_then (does_after history) (cond t (Some p) None)) (ne_eqb c d other)) ∙ part.plays in
          absurd cc)
    ]

itself : (c : ℕ) (p : Plan ℕ) → rest_after (Play c p) c ≡ Some p
itself c p = ap (λ (b : Bool). cond b (Some p) None) (eq-eqb c c refl)

same_card_first : (c : ℕ) (p q : Plan ℕ) (f : PartingValue) → IsFirstParting p q f → (history : List ℕ) (a b : ℕ) → PartAfter (Play c p) (Play c q) history a b → IsEarlier history (c ∷ f.history) → ⊥
same_card_first c p q f is [] a b part early =
    let mine : Some (Plays c) ≡ Some (Plays a) = part.plays in
    let others : Some (Plays c) ≡ Some (Plays b) = part.other_plays in
    let same : a ≡ b = cc in
    part.differ same
same_card_first c p q f is (d ∷ history) a b part early =
    let after = after_same_card c d p q history a b part in
    is.first history a b after.1 (earlier_tail c history f.history (subst (λ x. IsEarlier (x ∷ history) (c ∷ f.history)) (sym after.0) early))

pub same_card : (c : ℕ) (p q : Plan ℕ) (found : Option PartingValue) → IsWhereTheyPart p q found → IsWhereTheyPart (Play c p) (Play c q) (option_map (with_card c) found)
same_card c p q None is = ap (λ r. Play c r) is
same_card c p q (Some f) is = record {
  there = record {
    plays = ap (option_and_then (does_after f.history)) (itself c p) ∙ is.there.plays;
    other_plays = ap (option_and_then (does_after f.history)) (itself c q) ∙ is.there.other_plays;
    differ = is.there.differ;
  };
  first = same_card_first c p q f is;
}

-- ---- different cards

pub other_card : (c d : ℕ) (p q : Plan ℕ) → c ≢ d → IsFirstParting (Play c p) (Play d q) (record { history = []; card = c; other = d })
other_card c d p q differ = record {
  there = record { plays = refl; other_plays = refl; differ = differ };
  first = λ history a b part early. none_earlier history early;
}
