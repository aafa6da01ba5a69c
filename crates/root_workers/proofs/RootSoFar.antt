-- The first of the root cards: what they win, and which of them leads.
use Rattle.std.proofs.Common.{◌≡◌, ◌∙◌, ◌+◌, ◌<◌, ◌≤◌, ℕ, suc, true, false, Bool, Option, Some, None, Result, Err, List, [], ◌∷◌, ◌++◌, length, take, slice_get, Contains, refl, sym, ap, subst, inl, inr, arith, append_assoc, nat_lt, if◌then◌else◌}
use Rattle.std.proofs.lemmas.List.{append-nil, length-append}
use Rattle.std.proofs.Math.Seq.{take-append_seam}
use Rattle.std.proofs.lemmas.List.Elements.{Contains-push_cases}
use Rattle.std.proofs.lemmas.Bool.{ltb-true, ltb-false}
use Rattle.win_vectors.specs.Fronts.{Vector, CoversAll, IsFrontOf, IsReduced}
use Rattle.win_vectors.specs.Weights.{weight_of}
use Rattle.win_vectors.proofs.WeightLemmas.{weight_of-monotone}
use Rattle.pareto_fronts.specs.FrontValue.{FrontValue}
use Rattle.trick_rules.specs.Nodes.{NodeValue, IsNode, choices, child}
use Rattle.strategy_games.specs.Plans.{IsFront, IsBelow, tree_size}
use Rattle.strategy_games.specs.Joins.{WinsByCard}
use Rattle.strategy_games.specs.Choosing.{IsFirstOf, IsLeader, IsBestWeight, IsNamedByWeight}
use Rattle.strategy_games.specs.SearchLaws.{HasLeaders}
use Rattle.strategy_games.proofs.Lists.{Contains-here, Contains-nil, Contains-append_first, Contains-append_second}
use Rattle.strategy_games.proofs.Measures.{best_of}
use Rattle.cut_rules.specs.Stops.{IsGreatestWeight}
use Rattle.strategy_tree.specs.Bridge.{bridge}
use Rattle.strategy_tree.proofs.CardLists.{has_card-from_Contains}
use Rattle.strategy_tree.proofs.Rules.{lawful}
use Rattle.strategy_tree.proofs.BridgeLaws.{one_front, steps, cuts, leaders}
use Rattle.alphamu_core.proofs.OpenNodes.{length-our_child}
use Rattle.strategy_tree.specs.declared.root_fault.RootFault as root
use Rattle.front_table.specs.Proven.{IsFrontAt}
use Rattle.root_workers.specs.Leaders.{leader}

-- a fault names one card
pub spent_same : {A : Type 0} (result : Result A root.RootFault) (card other : ℕ) → result ≡ Err (root.TheVariants.Spent card) → result ≡ Err (root.TheVariants.Spent other) → card ≡ other
spent_same result card other one two = cc

-- a list that isn't empty has an element
some_from : (vectors : List Vector) → (vectors ≡ [] → ⊥) → 1 ≤ length vectors
some_from [] h = absurd (h refl)
some_from (v ∷ vs) h = omega arith

-- a list without elements is empty
none_from : (vectors : List Vector) → ((v : Vector) → Contains vectors v → ⊥) → vectors ≡ []
none_from [] h = refl
none_from (v ∷ vs) h = absurd (h v (Contains-here v vs))

-- the element after a list
pub get_seam : (xs : List ℕ) (x : ℕ) (ys : List ℕ) → slice_get (xs ++ x ∷ ys) (length xs) ≡ Some x
get_seam [] x ys = refl
get_seam (y ∷ xs) x ys = get_seam xs x ys

module _ (n : NodeValue) (below : ℕ) (ws : List ℕ) where
  law : HasLeaders bridge IsNode (weight_of ws)
  law = leaders (weight_of ws) (weight_of-monotone ws)

  -- the first of these cards that keeps the best weight, and that weight; none where there is no card
  abbrev pub Leads : Option (ℕ × ℕ) → List ℕ → Type 0
  Leads None tried = tried ≡ []
  Leads (Some best) tried = IsLeader bridge (weight_of ws) n below tried best.1 best.0

  -- the cards that were tried, the front of what they win, and the one that leads; where search is plain, the tree after each of them is small enough
  pub record RootSoFar (nodes : ℕ) (plain : Type 0) (cards : List ℕ) (front : FrontValue) (best : Option (ℕ × ℕ)) : Type 0 where
    pub tried : List ℕ
    pub split : choices n ≡ tried ++ cards
    pub won : IsFrontOf (WinsByCard bridge n below tried) front.vectors
    pub width : front.width ≡ length n.lefts
    pub fits : plain → (d : ℕ) → Contains tried d → tree_size bridge (child n d) below ≤ nodes
    pub leads : Leads best tried

  -- the same, if this many cards were tried
  abbrev pub RootAt : (nodes : ℕ) (plain : Type 0) (cards : List ℕ) (front : FrontValue) (best : Option (ℕ × ℕ)) → ℕ → Type 0
  RootAt nodes plain cards front best place = (so : RootSoFar nodes plain cards front best) × (place ≡ length so.tried)

  -- the best weight, and the card that is named by it
  abbrev pub IsBest : ℕ → ℕ × ℕ → Type 0
  IsBest moves lead = IsBestWeight bridge ws n moves lead.1 × IsNamedByWeight bridge ws n moves lead.0

  -- ---- who leads

  module _ (tried : List ℕ) (card k : ℕ) where
    -- what holds of the cards before and of one more holds of all
    each_more : (P : ℕ → Type 0) → ((d : ℕ) → Contains tried d → P d) → P card → (d : ℕ) → Contains (tried ++ card ∷ []) d → P d
    each_more P before here d inside = elim (Contains-push_cases tried card d inside) [
      | inl old ↦ before d old
      | inr e ↦ subst P e here
    ]

    -- one card more, by the test of the code
    leads_tested : (old : ℕ × ℕ) (t : Bool) → nat_lt old.1 k ≡ t → Leads (Some old) tried → IsBestWeight bridge ws (child n card) below k → Leads (Some (if t then (card, k) else old)) (tried ++ card ∷ [])
    leads_tested old true test leads best = law.better n below old.1 k tried old.0 card leads best (ltb-true old.1 k test)
    leads_tested old false test leads best = law.no_better n below old.1 k tried old.0 card leads best (ltb-false old.1 k test)

    leads_more : (old : Option (ℕ × ℕ)) → Leads old tried → IsBestWeight bridge ws (child n card) below k → Leads (Some (leader old card k)) (tried ++ card ∷ [])
    leads_more None none best = subst (λ (ds : List ℕ). Leads (Some (card, k)) (ds ++ card ∷ [])) (sym none) (law.first n below k card best)
    leads_more (Some old) leads best = leads_tested old (nat_lt old.1 k) refl leads best

  -- the greatest weight of a front is the best
  best_here_by : (m : NodeValue) (vectors : List Vector) (weight : ℕ) → IsFront bridge m below vectors → IsGreatestWeight ws vectors weight → IsBestWeight bridge ws m below weight
  best_here_by m vectors weight is greatest =
      subst (λ b. IsBestWeight bridge ws m below b) greatest.reached.2
      (best_of bridge (weight_of ws) m below vectors greatest.reached.0 is greatest.reached.1 (λ w among. let most = greatest.most w among in omega (arith, greatest.reached.2)))

  -- ---- the loop

  pub root_none : (nodes : ℕ) (plain : Type 0) (cards : List ℕ) (front : FrontValue) → cards ≡ choices n → front.vectors ≡ [] → front.width ≡ length n.lefts → RootSoFar nodes plain cards front None
  root_none nodes plain cards front e empty width = record {
    tried = [];
    split = sym e;
    won = subst (λ vectors. IsFrontOf (WinsByCard bridge n below []) vectors) (sym empty) (steps.no_card n below);
    width = width;
    fits = λ _ d inside. absurd (Contains-nil d inside);
    leads = refl;
  }

  pub root_none_at : (nodes : ℕ) (plain : Type 0) (cards : List ℕ) (front : FrontValue) → cards ≡ choices n → front.vectors ≡ [] → front.width ≡ length n.lefts → RootAt nodes plain cards front None 0
  unfolding root_none
  root_none_at nodes plain cards front e empty width = (root_none nodes plain cards front e empty width, refl)

  module _ {nodes : ℕ} {plain : Type 0} {cards : List ℕ} {front : FrontValue} {best : Option (ℕ × ℕ)} (so : RootSoFar nodes plain cards front best) where
    in_choices : (d : ℕ) → Contains so.tried d → Contains (choices n) d
    in_choices d inside = subst (λ ds. Contains ds d) (sym so.split) (Contains-append_first so.tried cards d inside)

    -- the cards that were tried are the first ones
    pub tried_first : (place : ℕ) → place ≡ length so.tried → so.tried ≡ take place (choices n)
    tried_first place counted = rw (so.split, counted) (sym (take-append_seam so.tried cards))

    pub tried_all : cards ≡ [] → length so.tried ≡ length (choices n)
    tried_all none_left = ap length (sym (so.split ∙ ap (λ ds. so.tried ++ ds) none_left ∙ append-nil so.tried))

    module _ {card : ℕ} {rest : List ℕ} (taken : cards ≡ card ∷ rest) where
      here : choices n ≡ so.tried ++ card ∷ rest
      here = so.split ∙ ap (λ ds. so.tried ++ ds) taken

      pub root_next : Contains (choices n) card
      root_next = subst (λ ds. Contains ds card) (sym here) (Contains-append_second so.tried (card ∷ rest) card (Contains-here card rest))

      sound_child : IsNode n → IsNode (child n card)
      sound_child sound = lawful.holds n card sound root_next

      -- the first tree that is too large
      pub root_spent : plain → (m : NodeValue) → m ≡ child n card → nodes < tree_size bridge m below → IsFirstOf (λ d. nodes < tree_size bridge (child n d) below) (choices n) card
      root_spent is_plain m is_child large = (so.tried, rest, here, (λ d inside more. let small : tree_size bridge (child n d) below ≤ nodes = so.fits is_plain d inside in omega arith), subst (λ m. nodes < tree_size bridge m below) is_child large)

      pub root_more : (m : NodeValue) (won more : FrontValue) (weight : ℕ) → m ≡ child n card → IsFrontAt m below won → (plain → tree_size bridge m below ≤ nodes)
          → IsGreatestWeight ws won.vectors weight → IsReduced (front.vectors ++ won.vectors) more.vectors → more.width ≡ front.width → RootSoFar nodes plain rest more (Some (leader best card weight))
      root_more m won more weight is_child found small greatest union width =
          let found_here : IsFrontAt (child n card) below won = subst (λ m. IsFrontAt m below won) is_child found in
          let best_here : IsBestWeight bridge ws (child n card) below weight = best_here_by (child n card) won.vectors weight found_here.front greatest in record {
            tried = so.tried ++ card ∷ [];
            split = here ∙ sym (append_assoc so.tried (card ∷ []) rest);
            won = steps.more_cards n below so.tried card front.vectors won.vectors more.vectors so.won found_here.front union;
            width = width ∙ so.width;
            fits = λ is_plain. each_more so.tried card 0 (λ d. tree_size bridge (child n d) below ≤ nodes) (so.fits is_plain) (subst (λ m. tree_size bridge m below ≤ nodes) is_child (small is_plain));
            leads = leads_more so.tried card weight best so.leads best_here;
          }

      -- the same, where the leader is said by the greatest weight of the front after the card
      pub root_with : (m : NodeValue) (won more : FrontValue) (lead : ℕ × ℕ) → m ≡ child n card → IsFrontAt m below won → (plain → tree_size bridge m below ≤ nodes)
          → (weight : ℕ) × IsGreatestWeight ws won.vectors weight × (lead ≡ leader best card weight)
          → IsReduced (front.vectors ++ won.vectors) more.vectors → more.width ≡ front.width → RootSoFar nodes plain rest more (Some lead)
      root_with m won more lead is_child found small (weight, greatest, leads) union width =
          subst (λ lead. RootSoFar nodes plain rest more (Some lead)) (sym leads) (root_more m won more weight is_child found small greatest union width)

      counted_more : (place : ℕ) → place ≡ length so.tried → place + 1 ≡ length (so.tried ++ card ∷ [])
      counted_more place counted = omega (arith, length-append so.tried (card ∷ []))

      -- the same, counted
      pub root_with_at : (m : NodeValue) (won more : FrontValue) (lead : ℕ × ℕ) (place : ℕ) → place ≡ length so.tried → m ≡ child n card → IsFrontAt m below won → (plain → tree_size bridge m below ≤ nodes)
          → (weight : ℕ) × IsGreatestWeight ws won.vectors weight × (lead ≡ leader best card weight)
          → IsReduced (front.vectors ++ won.vectors) more.vectors → more.width ≡ front.width → RootAt nodes plain rest more (Some lead) (place + 1)
      unfolding root_more
      root_with_at m won more lead place counted is_child found small (weight, greatest, leads) union width =
          subst (λ lead. RootAt nodes plain rest more (Some lead) (place + 1)) (sym leads)
          (root_more m won more weight is_child found small greatest union width, counted_more place counted)

      pub root_below : (place : ℕ) → place ≡ length so.tried → place < length (choices n)
      root_below place counted = omega (arith, ap length here, length-append so.tried (card ∷ rest))

      -- where the card stands
      pub root_here : (place : ℕ) → place ≡ length so.tried → slice_get (choices n) place ≡ Some card
      root_here place counted = rw (here, counted) (get_seam so.tried card rest)

      pub root_before : (place : ℕ) → place ≡ length so.tried → so.tried ≡ take place (choices n)
      root_before place counted = rw (here, counted) (sym (take-append_seam so.tried (card ∷ rest)))

      pub root_won : (place : ℕ) → place ≡ length so.tried → IsFrontOf (WinsByCard bridge n below (take place (choices n))) front.vectors
      root_won place counted = subst (λ ds. IsFrontOf (WinsByCard bridge n below ds) front.vectors) (root_before place counted) so.won

      -- a card that the cards before it cover neither adds to the front nor takes the lead
      covered_leads : IsNode n → IsBelow bridge (child n card) below front.vectors → (old : Option (ℕ × ℕ)) → Leads old so.tried → Leads old (so.tried ++ card ∷ [])
      covered_leads sound covered None none =
          let empty : front.vectors ≡ [] = none_from front.vectors (λ v inside. let by = so.won.reached v inside in Contains-nil by.0 (subst (λ ds. Contains ds by.0) none by.1)) in
          absurd (cuts.never (child n card) below (sound_child sound) (subst (λ vectors. IsBelow bridge (child n card) below vectors) empty covered))
      covered_leads sound covered (Some old) leads =
          law.covered n below old.1 so.tried old.0 card front.vectors sound in_choices leads so.won covered

      pub root_covered : IsNode n → (m : NodeValue) → m ≡ child n card → IsBelow bridge m below front.vectors → (plain → ⊥) → RootSoFar nodes plain rest front best
      root_covered sound m is_child covered cut_off =
          let covered_here : IsBelow bridge (child n card) below front.vectors = subst (λ m. IsBelow bridge m below front.vectors) is_child covered in record {
            tried = so.tried ++ card ∷ [];
            split = here ∙ sym (append_assoc so.tried (card ∷ []) rest);
            won = steps.covered_card n below so.tried card front.vectors so.won covered_here;
            width = so.width;
            fits = λ is_plain. absurd (cut_off is_plain);
            leads = covered_leads sound covered_here best so.leads;
          }

      pub root_covered_at : IsNode n → (m : NodeValue) (place : ℕ) → place ≡ length so.tried → m ≡ child n card → IsBelow bridge m below front.vectors → (plain → ⊥) → RootAt nodes plain rest front best (place + 1)
      unfolding root_covered
      root_covered_at sound m place counted is_child covered cut_off =
          (root_covered sound m is_child covered cut_off, counted_more place counted)

      -- what a search of the card, and a vector of the front after it, ask of the code
      pub child_width : (m : NodeValue) → bridge.is_ours n ≡ true → m ≡ child n card → front.width ≡ length m.lefts
      child_width m ours is_child =
          so.width ∙ sym (ap (λ (m : NodeValue). length m.lefts) is_child ∙ length-our_child n card ours (has_card-from_Contains (choices n) card root_next))

      pub root_width : (m : NodeValue) (won : FrontValue) → bridge.is_ours n ≡ true → m ≡ child n card → IsFrontAt m below won → won.width ≡ front.width
      root_width m won ours is_child found = found.width ∙ sym (child_width m ours is_child)

      pub root_filled : (m : NodeValue) (won : FrontValue) → IsNode n → m ≡ child n card → IsFrontAt m below won → 1 ≤ length won.vectors
      root_filled m won sound is_child found =
          some_from won.vectors (λ none. one_front.filled (child n card) below won.vectors (sound_child sound) (subst (λ m. IsFrontAt m below won) is_child found).front none)

    -- ---- the end of the loop

    module _ (sound : IsNode n) (over : bridge.is_over n ≡ false) (ours : bridge.is_ours n ≡ true) where
      -- the cards win the whole front where it covers the front with a move less
      pub whole_by_front : (less : List Vector) → IsFront bridge n below less → CoversAll front.vectors less → IsFront bridge n (suc below) front.vectors
      whole_by_front less is_less covers = cuts.same_front n below so.tried front.vectors less sound over ours in_choices so.won is_less covers

      module _ (lead : ℕ × ℕ) (is : best ≡ Some lead) where
        leads_now : Leads (Some lead) so.tried
        leads_now = subst (λ b. Leads b so.tried) is so.leads

        -- where what the cards win covers the front with a move less
        pub best_by_front : (less : List Vector) → IsFront bridge n below less → CoversAll front.vectors less → IsBest (suc below) lead
        best_by_front less is_less covers = law.same_front n below lead.1 so.tried cards lead.0 front.vectors less sound over ours so.split leads_now so.won is_less covers

        -- where the leader's weight is the best with a move less
        pub best_by_weight : (less : List Vector) → IsFront bridge n below less → IsGreatestWeight ws less lead.1 → IsBest (suc below) lead
        best_by_weight less is_less greatest = law.same_best n below lead.1 lead.1 so.tried cards lead.0 sound over ours so.split leads_now (best_here_by n less lead.1 is_less greatest) (omega arith)

        -- where no card is left
        pub best_of_all : cards ≡ [] → IsBest (suc below) lead
        best_of_all none_left =
            let all_tried : so.tried ≡ choices n = sym (so.split ∙ ap (λ ds. so.tried ++ ds) none_left ∙ append-nil so.tried) in
            law.all n below lead.1 lead.0 sound over ours (subst (λ (ds : List ℕ). IsLeader bridge (weight_of ws) n below ds lead.1 lead.0) all_tried leads_now)

      pub front_here : (moves : ℕ) → suc below ≡ moves → IsFront bridge n (suc below) front.vectors → IsFrontAt n moves front
      front_here moves e whole = subst (λ moves. IsFrontAt n moves front) e (record { front = whole; width = so.width })

      module _ (none_left : cards ≡ []) where
        all_tried : so.tried ≡ choices n
        all_tried = sym (so.split ∙ ap (λ ds. so.tried ++ ds) none_left ∙ append-nil so.tried)

        pub root_front : IsFront bridge n (suc below) front.vectors
        root_front = steps.all_cards n below front.vectors sound over ours (subst (λ cards. IsFrontOf (WinsByCard bridge n below cards) front.vectors) all_tried so.won)

        pub root_some : best ≡ None → ⊥
        root_some none = lawful.some_card n sound over (sym all_tried ∙ subst (λ b. Leads b so.tried) none so.leads)

        pub root_fits : plain → (d : ℕ) → Contains (choices n) d → tree_size bridge (child n d) below ≤ nodes
        root_fits is_plain d inside = so.fits is_plain d (subst (λ ds. Contains ds d) (sym all_tried) inside)
