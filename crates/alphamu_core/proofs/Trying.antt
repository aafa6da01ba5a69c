-- Which cards were tried, and which are left.
use Rattle.std.proofs.Common.{◌≡◌, ◌⊎◌, ◌++◌, ℕ, List, [], ◌∷◌, Contains, sym, subst, inl, inr, ⊎_elim}
use Rattle.trick_rules.specs.Nodes.{NodeValue, choices}
use Rattle.strategy_games.proofs.Lists.{Contains-here, Contains-nil, Contains-single, Contains-append, Contains-append_first, Contains-append_second}
use Rattle.equal_cards.specs.Equals.{ComeToTheSame}
use Rattle.alphamu_core.specs.Kept.{AreEnough, IsTaken}
use Rattle.alphamu_core.proofs.Standing.{StandForAll}

-- both are choices, and each choice comes to the same as one of them
pub record IsTrying (n : NodeValue) (tried cards : List ℕ) : Type 0 where
  pub within : (card : ℕ) → Contains tried card → Contains (choices n) card
  pub rest : (card : ℕ) → Contains cards card → Contains (choices n) card
  pub stand : (card : ℕ) → Contains (choices n) card → (kept : ℕ) × (Contains tried kept ⊎ Contains cards kept) × ComeToTheSame n kept card

module _ (n : NodeValue) where
  pub trying_none : (cards : List ℕ) → AreEnough n cards → IsTrying n [] cards
  trying_none cards enough = record {
    within = λ card among. absurd (Contains-nil card among);
    rest = enough.within;
    stand = λ card among. (let kept = enough.each card among in (kept.0, inr kept.1, kept.2));
  }

  pub trying_more : (tried cards : List ℕ) (card : ℕ) (rest : List ℕ) → IsTrying n tried cards → IsTaken cards card rest → IsTrying n (tried ++ card ∷ []) rest
  trying_more tried cards card rest so taken = record {
    within = λ other among. ⊎_elim
        (λ (old : Contains tried other). so.within other old)
        (λ (new : Contains (card ∷ []) other). subst (λ other. Contains (choices n) other) (Contains-single card other new) (so.rest card taken.among))
        (Contains-append tried (card ∷ []) other among);
    rest = λ other among. so.rest other (taken.part other among);
    stand = λ other among. (let kept = so.stand other among in (kept.0, moved kept.0 kept.1, kept.2));
  }
    where
      moved : (kept : ℕ) → Contains tried kept ⊎ Contains cards kept → Contains (tried ++ card ∷ []) kept ⊎ Contains rest kept
      moved kept (inl old) = inl (Contains-append_first tried (card ∷ []) kept old)
      moved kept (inr left) = ⊎_elim
          (λ (e : kept ≡ card). inl (subst (λ c. Contains (tried ++ card ∷ []) c) (sym e) (Contains-append_second tried (card ∷ []) card (Contains-here card []))))
          (λ (k : Contains rest kept). inr k)
          (taken.others kept left)

  pub trying_all : (tried cards : List ℕ) → IsTrying n tried cards → cards ≡ [] → StandForAll n tried
  trying_all tried cards so none = λ card among. (let kept = so.stand card among in (kept.0, now kept.0 kept.1, kept.2))
    where
      now : (kept : ℕ) → Contains tried kept ⊎ Contains cards kept → Contains tried kept
      now kept (inl old) = old
      now kept (inr left) = absurd (Contains-nil kept (subst (λ cards. Contains cards kept) none left))
