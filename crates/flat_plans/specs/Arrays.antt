-- How an array of nodes is read as a plan. A node is a card that is played, and its replies are the nodes of the cards that come next.
use Rattle.std.specs.Prelude.{◌≡◌, ⊤, ℕ, suc, List, Some, length, slice_get}
use Rattle.strategy_games.specs.Plans.{Plan, Replies, Stop, Play, Hear, NoReply, Reply, cards_of}
use Rattle.flat_plans.specs.declared.node.PlanNode.{PlanNode}

-- the card of the first node, which stands for what has been played already
abbrev pub no_card : ℕ
no_card = 52

-- the node at this place has this card, and something holds of where its replies begin and how many they are
abbrev pub IsNodeAt : List PlanNode → ℕ → ℕ → (ℕ → ℕ → Type 0) → Type 0
IsNodeAt nodes place card Holds = (node : PlanNode) × (slice_get nodes place ≡ Some node) × (node.card ≡ card) × Holds node.first_reply node.replies

abbrev mutual
  -- this many nodes, from the first one on, are what the plan begins with: nothing if it stops, the card of declarer's side, or each card of a defender
  pub ShowsAt : List PlanNode → Plan ℕ → ℕ → ℕ → Type 0
  ShowsAt nodes Stop first count = count ≡ 0
  ShowsAt nodes (Play card rest) first count = (count ≡ 1) × IsNodeAt nodes first card (λ next many. ShowsAt nodes rest next many)
  ShowsAt nodes (Hear replies) first count = (count ≡ length (cards_of replies)) × ShowEachAt nodes replies first

  -- the replies' cards are at this place and those after it, each with its plan
  pub ShowEachAt : List PlanNode → Replies ℕ → ℕ → Type 0
  ShowEachAt nodes NoReply place = ⊤
  ShowEachAt nodes (Reply card plan later) place = IsNodeAt nodes place card (λ next many. ShowsAt nodes plan next many) × ShowEachAt nodes later (suc place)

-- the array is the plan: it begins with the replies of the first node
abbrev pub Shows : List PlanNode → Plan ℕ → Type 0
Shows nodes plan = IsNodeAt nodes 0 no_card (λ next many. ShowsAt nodes plan next many)
