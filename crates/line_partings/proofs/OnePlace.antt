-- Two plans first part at one place at most.
use Rattle.std.proofs.Common.{◌≡◌, ◌∙◌, ◌<◌, ℕ, List, [], ◌∷◌, length, refl, sym, ap, inl, inr, arith}
use Rattle.std.specs.Prelude.{◌⊎◌}
use Rattle.std.proofs.lemmas.Bool.{cases_eq, cases_lt}
use Rattle.strategy_games.specs.Plans.{Plan}
use Rattle.told_plans.specs.Follows.{does_after}
use Rattle.line_partings.specs.Partings.{PartAfter, IsBefore, IsEarlier, PartingValue, IsFirstParting}
use Rattle.line_partings.proofs.Apart.{one_action, never_from_itself}

-- two histories of one length are the same, or one comes before the other
in_order : (history later : List ℕ) → length history ≡ length later → (history ≡ later) ⊎ (IsBefore history later ⊎ IsBefore later history)
in_order [] [] many = inl refl
in_order [] (d ∷ later) many = absurd (omega (arith, many))
in_order (c ∷ history) [] many = absurd (omega (arith, many))
in_order (c ∷ history) (d ∷ later) many =
    elim (cases_eq c d) [
      | inl same ↦ go same (in_order history later (omega (arith, many)))
      | inr other ↦ elim (cases_lt c d) [
        | inl below ↦ inr (inl (inl below))
        | inr above ↦ (let lower : d < c = omega (arith, above, other) in inr (inr (inl lower)))
      ]
    ]
  where
    go : c ≡ d → (history ≡ later) ⊎ (IsBefore history later ⊎ IsBefore later history) → (c ∷ history ≡ d ∷ later) ⊎ (IsBefore (c ∷ history) (d ∷ later) ⊎ IsBefore (d ∷ later) (c ∷ history))
    go same (inl e) = let whole : c ∷ history ≡ d ∷ later = cc in inl whole
    go same (inr (inl before)) = inr (inl (inr (same, before)))
    go same (inr (inr after)) = inr (inr (inr (sym same, after)))

-- of two histories one is earlier, if they aren't the same
one_earlier : (history later : List ℕ) → (history ≡ later) ⊎ (IsEarlier history later ⊎ IsEarlier later history)
one_earlier history later =
    elim (cases_lt (length history) (length later)) [
      | inl fewer ↦ inr (inl (inl fewer))
      | inr more ↦ elim (cases_lt (length later) (length history)) [
        | inl fewer ↦ inr (inr (inl fewer))
        | inr few ↦ (let many : length history ≡ length later = omega (arith, more, few) in go many (in_order history later many))
      ]
    ]
  where
    go : length history ≡ length later → (history ≡ later) ⊎ (IsBefore history later ⊎ IsBefore later history) → (history ≡ later) ⊎ (IsEarlier history later ⊎ IsEarlier later history)
    go many (inl same) = inl same
    go many (inr (inl before)) = inr (inl (inr (many, before)))
    go many (inr (inr after)) = inr (inr (inr (sym many, after)))

abbrev place_of : List ℕ → ℕ → ℕ → PartingValue
place_of history card other = record { history = history; card = card; other = other }

same_parts : (h k : List ℕ) (c d a b : ℕ) → h ≡ k → c ≡ d → a ≡ b → place_of h c a ≡ place_of k d b
same_parts h k c d a b is_history is_card is_other = cc

same_place : (here there : PartingValue) → here.history ≡ there.history → here.card ≡ there.card → here.other ≡ there.other → here ≡ there
same_place here there is_history is_card is_other = same_parts here.history there.history here.card there.card here.other there.other is_history is_card is_other

pub one_place : (plan other : Plan ℕ) (here there : PartingValue) → IsFirstParting plan other here → IsFirstParting plan other there → here ≡ there
one_place plan other here there is_here is_there = go (one_earlier here.history there.history)
  where
    go : (here.history ≡ there.history) ⊎ (IsEarlier here.history there.history ⊎ IsEarlier there.history here.history) → here ≡ there
    go (inl same) =
        same_place here there same
        (one_action plan there.history here.card there.card (ap (λ h. does_after h plan) (sym same) ∙ is_here.there.plays) is_there.there.plays)
        (one_action other there.history here.other there.other (ap (λ h. does_after h other) (sym same) ∙ is_here.there.other_plays) is_there.there.other_plays)
    go (inr (inl earlier)) = absurd (is_there.first here.history here.card here.other is_here.there earlier)
    go (inr (inr earlier)) = absurd (is_here.first there.history there.card there.other is_there.there earlier)

pub none_from_itself : (plan : Plan ℕ) (history : List ℕ) (card other_card : ℕ) → PartAfter plan plan history card other_card → ⊥
none_from_itself plan history card other_card part = never_from_itself plan plan history card other_card refl part
