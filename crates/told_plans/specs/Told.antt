-- Told plans: cards of a defender whose replies agree are told together.
use Rattle.std.specs.Prelude.{◌≡◌, ◌⊎◌, ◌||◌, ◌==◌, ℕ, Some, is_some, List, [], ◌∷◌}
use Rattle.card_sets.specs.SetWords.{has_card, cards_where}
use Rattle.strategy_games.specs.Plans.{Plan, Replies, Stop, Play, Hear}
use Rattle.told_plans.specs.Follows.{answer_to, Agree, IsBoth}

mutual
  -- a plan as it is told
  pub data Told : Type 0 where
    ToldStop : Told
    ToldPlay : ℕ → Told → Told
    ToldHear : Branches → Told

  -- one plan for several cards of a defender
  pub data Branches : Type 0 where
    NoBranch : Branches
    Branch : List ℕ → Told → Branches → Branches

-- cards whose replies agree, and the plan that does what each of these replies does
pub record Group : Type 0 where
  pub cards : List ℕ
  pub plan : Plan ℕ

-- the cards that are replied to, in card order
abbrev pub answered : Replies ℕ → List ℕ
answered replies = cards_where (λ card. is_some (answer_to replies card))

-- a set of cards and one card more
abbrev pub and_card : List ℕ → ℕ → List ℕ
and_card cards card = cards_where (λ c. has_card cards c || c == card)

-- a reply joins the first group that it agrees with, or else begins a group after them: the groups before and after
abbrev pub HasJoined : ℕ → Plan ℕ → List Group → List Group → Type 0
HasJoined card plan [] after = after ≡ record { cards = and_card [] card; plan = plan } ∷ []
HasJoined card plan (group ∷ groups) after =
    ((both : Plan ℕ) × IsBoth group.plan plan both × (after ≡ record { cards = and_card group.cards card; plan = both } ∷ groups))
    ⊎ ((Agree group.plan plan → ⊥) × ((later : List Group) × HasJoined card plan groups later × (after ≡ group ∷ later)))

-- the replies to these cards join the groups, one after another
abbrev pub HaveJoined : Replies ℕ → List ℕ → List Group → List Group → Type 0
HaveJoined replies [] before after = before ≡ after
HaveJoined replies (card ∷ cards) before after =
    (plan : Plan ℕ) × (next : List Group) × (answer_to replies card ≡ Some plan) × HasJoined card plan before next × HaveJoined replies cards next after

-- the groups of a defender's cards, formed in card order
abbrev pub AreGroups : Replies ℕ → List Group → Type 0
AreGroups replies groups = HaveJoined replies (answered replies) [] groups

abbrev mutual
  -- the told plan of a plan: at each of a defender's turns there is one branch for each group
  pub IsTold : Told → Plan ℕ → Type 0
  IsTold ToldStop plan = plan ≡ Stop
  IsTold (ToldPlay card rest) plan = (q : Plan ℕ) × (plan ≡ Play card q) × IsTold rest q
  IsTold (ToldHear branches) plan = (replies : Replies ℕ) × (groups : List Group) × (plan ≡ Hear replies) × AreGroups replies groups × AreTold branches groups

  pub AreTold : Branches → List Group → Type 0
  AreTold NoBranch groups = groups ≡ []
  AreTold (Branch cards told branches) groups = (plan : Plan ℕ) × (later : List Group) × (groups ≡ record { cards = cards; plan = plan } ∷ later) × IsTold told plan × AreTold branches later
