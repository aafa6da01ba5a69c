-- The nodes of the replies to a defender, behind all nodes below them.
use Rattle.std.proofs.Common.{◌≡◌, ℕ, zero, suc, ◌<◌, ◌+◌, List, [], ◌∷◌, ◌++◌, length, take, get_or, ◌≤◌, refl, sym, ap, ◌∙◌, subst, arith}
use Rattle.std.specs.Prelude.{⊤, Some, slice_get}
use Rattle.std.specs.List.{AllZip}
use Rattle.std.proofs.lemmas.List.{take_more, take_all}
use Rattle.strategy_games.specs.Plans.{Plan, Play}
use Rattle.strategy_tree.specs.PlanMeaning.{plan_of, replies_of}
use Rattle.strategy_tree.specs.declared.plan.Reply.{Reply}
use Rattle.flat_plans.specs.declared.node.PlanNode.{PlanNode}
use Rattle.flat_plans.specs.Arrays.{ShowsAt, ShowEachAt}
use Rattle.flat_plans.proofs.Growing.{shows_still}

-- one item more on both sides
pub zip_next : {A B : Type 0} (R : A → B → Type 0) (xs : List A) (ys : List B) (place : ℕ) (x : A) (y : B) → place < length xs → x ≡ get_or xs place x → AllZip R (take place xs) ys → R x y → AllZip R (take (place + 1) xs) (ys ++ y ∷ [])
zip_next {A = A} {B = B} R xs ys place x y inside same zipped is =
    subst (λ taken. AllZip R taken (ys ++ y ∷ [])) (sym (take_more xs place x inside ∙ ap (λ e. take place xs ++ e ∷ []) (sym same))) (zipped_push (take place xs) ys zipped)
  where
    zipped_push : (us : List A) (vs : List B) → AllZip R us vs → AllZip R (us ++ x ∷ []) (vs ++ y ∷ [])
    zipped_push [] [] none = (is, tt)
    zipped_push (u ∷ us) (v ∷ vs) both = (both.0, zipped_push us vs both.1)
    zipped_push [] (v ∷ vs) none = absurd none
    zipped_push (u ∷ us) [] none = absurd none

-- the node has the card of the reply, and the array shows its plan
pub record IsNodeOf (nodes : List PlanNode) (reply : Reply) (node : PlanNode) : Type 0 where
  pub card : node.card ≡ reply.card
  pub plan : ShowsAt nodes (plan_of reply.plan) node.first_reply node.replies

-- one node for each reply
abbrev pub AreNodesOf : List PlanNode → List Reply → List PlanNode → Type 0
AreNodesOf nodes replies listed = AllZip (IsNodeOf nodes) replies listed

pub nodes_still : (nodes more : List PlanNode) (replies : List Reply) (listed : List PlanNode) → AreNodesOf nodes replies listed → AreNodesOf (nodes ++ more) replies listed
nodes_still nodes more [] [] none = tt
nodes_still nodes more (reply ∷ replies) (node ∷ listed) (is, rest) =
    (record { card = is.card; plan = shows_still nodes more (plan_of reply.plan) node.first_reply node.replies is.plan }, nodes_still nodes more replies listed rest)
nodes_still nodes more [] (node ∷ listed) none = absurd none
nodes_still nodes more (reply ∷ replies) [] none = absurd none

-- these nodes stand in the array, one after another
abbrev Stand : List PlanNode → ℕ → List PlanNode → Type 0
Stand nodes place [] = ⊤
Stand nodes place (node ∷ listed) = (slice_get nodes place ≡ Some node) × Stand nodes (suc place) listed

stand_after : (node : PlanNode) (nodes : List PlanNode) (place : ℕ) (listed : List PlanNode) → Stand nodes place listed → Stand (node ∷ nodes) (suc place) listed
stand_after node nodes place [] stand = tt
stand_after node nodes place (it ∷ listed) (here, rest) = (here, stand_after node nodes (suc place) listed rest)

stand_behind : (before listed : List PlanNode) → Stand (before ++ listed) (length before) listed
stand_behind [] [] = tt
stand_behind [] (node ∷ listed) = (refl, stand_after node listed 0 listed (stand_behind [] listed))
stand_behind (node ∷ before) listed = stand_after node (before ++ listed) (length before) listed (stand_behind before listed)

each_stands : (nodes : List PlanNode) (place : ℕ) (replies : List Reply) (listed : List PlanNode) → AreNodesOf nodes replies listed → Stand nodes place listed → ShowEachAt nodes (replies_of replies) place
each_stands nodes place [] [] none stand = tt
each_stands nodes place (reply ∷ replies) (node ∷ listed) (is, rest) (here, stand) = ((node, here, is.card, is.plan), each_stands nodes (suc place) replies listed rest stand)
each_stands nodes place [] (node ∷ listed) none stand = absurd none
each_stands nodes place (reply ∷ replies) [] none stand = absurd none

-- the node of one reply more, and what is below it
pub nodes_next : (first : PlanNode) (later added now : List PlanNode) (replies : List Reply) (nodes all : List PlanNode) (place : ℕ) (reply : Reply) (node : PlanNode)
    → now ≡ later ++ added → all ≡ nodes ++ node ∷ [] → place < length replies → reply ≡ get_or replies place reply
    → AreNodesOf (first ∷ later) (take place replies) nodes → IsNodeOf (first ∷ now) reply node → AreNodesOf (first ∷ now) (take (place + 1) replies) all
nodes_next first later added now replies nodes all place reply node grown pushed inside same are is =
    subst (λ listed. AreNodesOf (first ∷ now) (take (place + 1) replies) listed) (sym pushed) (zip_next (IsNodeOf (first ∷ now)) replies nodes place reply node inside same earlier is)
  where
    earlier : AreNodesOf (first ∷ now) (take place replies) nodes
    earlier = subst (λ below. AreNodesOf (first ∷ below) (take place replies) nodes) (sym grown) (nodes_still (first ∷ later) added (take place replies) nodes are)

one_more : (len : ℕ) (later : List PlanNode) → len ≡ length later → suc (length later) ≡ len + 1
one_more len later is = omega (arith, is)

-- the nodes of all replies, added to the array
pub all_shown : (first : PlanNode) (later listed slice now : List PlanNode) (replies : List Reply) (place len : ℕ) → slice ≡ listed → now ≡ later ++ slice → len ≡ length later → length replies ≤ place
    → AreNodesOf (first ∷ later) (take place replies) listed → ShowEachAt (first ∷ now) (replies_of replies) (len + 1)
all_shown first later listed slice now replies place len sliced grown counted whole are =
    subst (λ at. ShowEachAt (first ∷ now) (replies_of replies) at) (one_more len later counted)
    (subst (λ below. ShowEachAt (first ∷ below) (replies_of replies) (suc (length later))) (sym (grown ∙ ap (λ more. later ++ more) sliced))
    (each_stands (first ∷ (later ++ listed)) (suc (length later)) replies listed (nodes_still (first ∷ later) listed replies listed each) (stand_behind (first ∷ later) listed)))
  where
    each : AreNodesOf (first ∷ later) replies listed
    each = subst (λ taken. AreNodesOf (first ∷ later) taken listed) (take_all place replies whole) are

-- a card of declarer's side with the plan after it, added to the array
pub card_shown : (first : PlanNode) (later now : List PlanNode) (node : PlanNode) (card : ℕ) (plan whole : Plan ℕ) (len : ℕ) → node.card ≡ card → now ≡ later ++ node ∷ [] → len ≡ length later → whole ≡ Play card plan
    → ShowsAt (first ∷ later) plan node.first_reply node.replies → ShowsAt (first ∷ now) whole (len + 1) 1
card_shown first later now node card plan whole len named grown counted is shown =
    subst (λ p. ShowsAt (first ∷ now) p (len + 1) 1) (sym is)
    (subst (λ place. ShowsAt (first ∷ now) (Play card plan) place 1) (one_more len later counted) (subst (λ below. ShowsAt (first ∷ below) (Play card plan) (suc (length later)) 1) (sym grown) here))
  where
    here : ShowsAt (first ∷ (later ++ node ∷ [])) (Play card plan) (suc (length later)) 1
    here = (refl, (node, (stand_behind (first ∷ later) (node ∷ [])).0, named, shows_still (first ∷ later) (node ∷ []) plan node.first_reply node.replies shown))
