-- Nodes that are twins, of which two equal cards exchange their names, have one front of what is assured.
use Rattle.std.proofs.Common.{◌≡◌, ◌∙◌, ◌<◌, ◌++◌, ◌&&◌, ◌||◌, ◌⊎◌, is_some, ℕ, zero, suc, Bool, true, false, List, [], ◌∷◌, map, length, replicate, get_or, Contains, append-nil, append_assoc, refl, sym, ap, ap₂, subst, inl, inr, ⊎_elim, arith}
use Rattle.std.specs.Prelude.{nat_eq}
use Rattle.std.specs.Cmp.Lexicographic.{pointwise}
use Rattle.std.specs.List.{AllZip}
use Rattle.std.proofs.lemmas.Bool.{cases_Bool}
use Rattle.std.proofs.lemmas.List.{map-append, length-map}
use Rattle.std.proofs.lemmas.Slice.Eq.{bytes_eq-Decides}
use Rattle.card_sets.specs.Cards.{suit_of}
use Rattle.card_sets.specs.SetWords.{has_card}
use Rattle.card_sets.proofs.Sets.{same_set}
use Rattle.win_vectors.specs.Fronts.{Vector, IsFrontOf, IsReduced, meets, spreads}
use Rattle.trick_rules.specs.Positions.{PositionValue, State, to_play}
use Rattle.trick_rules.specs.Play.{after, cards_left, decided, is_declarers, makes}
use Rattle.trick_rules.specs.Nodes.{NodeValue, IsNode, states, choices, child}
use Rattle.trick_rules.proofs.Soundness.{held_low}
use Rattle.trick_rules.proofs.States.{after-IsState}
use Rattle.trick_rules.proofs.PlayLaws.{a_choice_leads_to_a_node, a_choice_can_be_played}
use Rattle.double_dummy.specs.Equals.{AreEqual}
use Rattle.double_dummy.proofs.EqualCards.{mirrored-start, follows-start}
use Rattle.double_dummy.proofs.Swap.{swap, swap-swap}
use Rattle.strategy_games.specs.Games.{mask}
use Rattle.strategy_games.proofs.Lists.{Contains-here, Contains-there, Contains-map, Contains-of_map}
use Rattle.strategy_games.proofs.Wins.{states-child}
use Rattle.strategy_games.proofs.Moves.{our_card_legal}
use Rattle.strategy_games.proofs.Fronts.{front_same, reduced_exists}
use Rattle.strategy_tree.specs.Bridge.{bridge}
use Rattle.strategy_tree.proofs.CardLists.{has_card-from_Contains, Contains-from_has_card}
use Rattle.strategy_tree.proofs.Rules.{lawful, table_of}
use Rattle.equal_cards.specs.Equals.{AreEqualAt}
use Rattle.equal_cards.proofs.Twins.{AreTwins, twins-makes, twins-child, twins-mask}
use Rattle.equal_cards.proofs.TwinNodes.{TwinNodes, nodes-turn, nodes-decided, nodes-results, choice_there, choice_back}
use Rattle.assured_games.specs.Assured.{IsAssuredFront}
use Rattle.assured_games.specs.Steps.{AssuredByCard, AssuredByReply}
use Rattle.sure_nodes.specs.SureNodes.{is_sure_node}
use Rattle.sure_nodes.proofs.Cashed.{state_of}
use Rattle.assured_fronts.specs.AssuredAt.{claims, won_playing_for}
use Rattle.assured_fronts.proofs.Leaves.{steps, goes_on, ends_here, PlayedUpto, played_none, played_more, played_all}
use Rattle.assured_fronts.proofs.EqualSure.{same_answer, nodes-sure}

-- one front for both
abbrev HaveOneFront : NodeValue → NodeValue → ℕ → Type 0
HaveOneFront n o m = (f : List Vector) × IsAssuredFront bridge is_sure_node n m f × IsAssuredFront bridge is_sure_node o m f

-- the layouts that are played for, up to a place, have a front
played_front : (n : NodeValue) (i : ℕ) → (f : List Vector) × IsFrontOf (PlayedUpto n i) f
played_front n zero = ([], played_none n [] refl)
played_front n (suc i) =
    let f = played_front n i in
    let won = won_playing_for n (get_or n.lefts i []) in
    let r = reduced_exists (won ∷ f.0) in
    (r.0, subst (λ (k : ℕ). IsFrontOf (PlayedUpto n k) r.0) (omega arith) (played_more n i won f.0 r.0 refl f.1 r.1))

module _ (a b : ℕ) (suit : suit_of a ≡ suit_of b) (order : a < b) (low : b < 52) where
  -- the two states at a place
  twins_at : (t u : PositionValue) (ls os : List (List ℕ)) (j : ℕ) → j < length ls
      → AllZip (AreTwins a b) (map (λ left. record { position = t; left = left }) ls) (map (λ left. record { position = u; left = left }) os)
      → AreTwins a b (record { position = t; left = get_or ls j [] }) (record { position = u; left = get_or os j [] })
  twins_at t u [] os j inside r = absurd (omega arith)
  twins_at t u (l ∷ ls) [] j inside r = elim r [ ]
  twins_at t u (l ∷ ls) (o ∷ os) zero inside r = r.0
  twins_at t u (l ∷ ls) (o ∷ os) (suc j) inside r = twins_at t u ls os j (omega arith) r.1

  -- two layouts are one where their twins are
  same_left : (s t u v : State) → AreTwins a b s t → AreTwins a b u v → s.left ≡ u.left → t.left ≡ v.left
  same_left s t u v r q same = same_set t.left v.left r.twin.fits.set q.twin.fits.set
      (λ c under. r.mirrored.left c ∙ ap (λ (cards : List ℕ). has_card cards (swap a b c)) same ∙ sym (q.mirrored.left c))

  same_left_back : (s t u v : State) → AreTwins a b s t → AreTwins a b u v → t.left ≡ v.left → s.left ≡ u.left
  same_left_back s t u v r q same = same_set s.left u.left r.state.fits.set q.state.fits.set
      (λ c under.
      ap (has_card s.left) (sym (swap-swap a b c)) ∙ sym (r.mirrored.left (swap a b c)) ∙ ap (λ (cards : List ℕ). has_card cards (swap a b c)) same
      ∙ q.mirrored.left (swap a b c) ∙ ap (has_card u.left) (swap-swap a b c))

  -- what is won if the layout at a place is played for
  won_alike : (s t : State) → AreTwins a b s t → (ss ts : List State) → AllZip (AreTwins a b) ss ts
      → map (λ x. pointwise nat_eq s.left x.left && makes x) ss ≡ map (λ x. pointwise nat_eq t.left x.left && makes x) ts
  won_alike s t r [] [] z = refl
  won_alike s t r [] (y ∷ ts) z = elim z [ ]
  won_alike s t r (x ∷ ss) [] z = elim z [ ]
  won_alike s t r (x ∷ ss) (y ∷ ts) z =
      let equal : pointwise nat_eq s.left x.left ≡ pointwise nat_eq t.left y.left =
      same_answer (pointwise nat_eq s.left x.left) (pointwise nat_eq t.left y.left)
      (λ e. (bytes_eq-Decides t.left y.left).1 (same_left s t x y r z.0 ((bytes_eq-Decides s.left x.left).0 e)))
      (λ e. (bytes_eq-Decides s.left x.left).1 (same_left_back s t x y r z.0 ((bytes_eq-Decides t.left y.left).0 e))) in
      ap₂ (λ (k : Bool) (v : Vector). k ∷ v) (ap₂ (λ (k l : Bool). k && l) equal (sym (twins-makes a b suit order low x y z.0))) (won_alike s t r ss ts z.1)

  module _ (n o : NodeValue) (sound : IsNode n) (other : IsNode o) (r : TwinNodes a b n o) where
    same_width : length o.lefts ≡ length n.lefts
    same_width = sym (length-map o.lefts (λ left. record { position = o.position; left = left })) ∙ sym (ap (λ (v : Vector). length v) (nodes-results a b suit order low n o r) ∙ length-map (states o) (λ s. makes s))
        ∙ length-map (states n) (λ s. makes s) ∙ length-map n.lefts (λ left. record { position = n.position; left = left })

    won_same : (j : ℕ) → j < length n.lefts → won_playing_for n (get_or n.lefts j []) ≡ won_playing_for o (get_or o.lefts j [])
    won_same j inside = won_alike (record { position = n.position; left = get_or n.lefts j [] }) (record { position = o.position; left = get_or o.lefts j [] })
        (twins_at n.position o.position n.lefts o.lefts j inside r) (states n) (states o) r

    claims_same : claims n ≡ claims o
    claims_same = ap₂ (λ (x y : Bool). x || y) (nodes-decided a b n o sound r) (nodes-sure a b suit order low n o sound r)

    -- where a line of play ends
    one_at_claim : (m : ℕ) → claims n ≡ true → HaveOneFront n o m
    one_at_claim m ends = (
      map (λ s. makes s) (states n) ∷ [],
      steps.claimed n m sound (ends_here n ends),
      subst (λ (v : Vector). IsAssuredFront bridge is_sure_node o m (v ∷ [])) (sym (nodes-results a b suit order low n o r)) (steps.claimed o m other (ends_here o (sym claims_same ∙ ends))),
    )

    one_at_stop : claims n ≡ false → HaveOneFront n o 0
    one_at_stop off =
        let f = played_front n (length n.lefts) in (
          f.0,
          played_all n (length n.lefts) f.0 sound off (omega arith) f.1,
          played_all o (length n.lefts) f.0 other (sym claims_same ∙ off) (omega (arith, same_width))
              (front_same (PlayedUpto n (length n.lefts)) (PlayedUpto o (length n.lefts)) f.0
              (λ v w. (w.0, w.1, sym (won_same w.0 w.1) ∙ w.2)) (λ v w. (w.0, w.1, won_same w.0 w.1 ∙ w.2)) f.1),
        )

    there : (c : ℕ) → Contains (choices n) c → Contains (choices o) (swap a b c)
    there c k = Contains-from_has_card (choices o) (swap a b c) (choice_there a b suit order low n o r c other (has_card-from_Contains (choices n) c k))

    back : (d : ℕ) → Contains (choices o) d → Contains (map (swap a b) (choices n)) d
    back d k = subst (λ (c : ℕ). Contains (map (swap a b) (choices n)) c) (swap-swap a b d)
        (Contains-map (swap a b) (choices n) (swap a b d) (Contains-from_has_card (choices n) (swap a b d) (choice_back a b suit order low n o r d sound (has_card-from_Contains (choices o) d k))))

    there_all : (d : ℕ) → Contains (map (swap a b) (choices n)) d → Contains (choices o) d
    there_all d k = let c = Contains-of_map (swap a b) (choices n) d k in subst (λ (e : ℕ). Contains (choices o) e) c.2 (there c.0 c.1)

    masks : (c : ℕ) → mask bridge o (swap a b c) ≡ mask bridge n c
    masks c = twins-mask a b suit order low n o r c

    -- ---- the cards one after another

    -- what these cards give at the one node, and their twins at the other, has one front
    record HaveOneOver (By : NodeValue → List ℕ → Vector → Type 0) (cards : List ℕ) (f : List Vector) : Type 0 where
      first : IsFrontOf (By n cards) f
      second : IsFrontOf (By o (map (swap a b) cards)) f

    module _ (By : NodeValue → List ℕ → Vector → Type 0)
        (step : (done : List ℕ) (c : ℕ) (f : List Vector) → Contains (choices n) c → HaveOneOver By done f → (u : List Vector) × HaveOneOver By (done ++ c ∷ []) u) where
      over_each : (done rest : List ℕ) (f : List Vector) → ((c : ℕ) → Contains rest c → Contains (choices n) c) → HaveOneOver By done f → (g : List Vector) × HaveOneOver By (done ++ rest) g
      over_each done [] f within both = (f, subst (λ (cs : List ℕ). HaveOneOver By cs f) (sym (append-nil done)) both)
      over_each done (c ∷ rest) f within both =
          let u = step done c f (within c (Contains-here c rest)) both in
          let g = over_each (done ++ c ∷ []) rest u.0 (λ d k. within d (Contains-there c rest d k)) u.1 in
          (g.0, subst (λ (cs : List ℕ). HaveOneOver By cs g.0) (append_assoc done (c ∷ []) rest) g.1)

    -- the node after each card has one front with its twin
    abbrev Below : ℕ → Type 0
    Below m = (c : ℕ) → Contains (choices n) c → HaveOneFront (child n c) (child o (swap a b c)) m

    twins_of : (done : List ℕ) (c : ℕ) → map (swap a b) (done ++ c ∷ []) ≡ map (swap a b) done ++ swap a b c ∷ []
    twins_of done c = map-append (swap a b) done (c ∷ [])

    module _ (m : ℕ) (off : claims n ≡ false) where
      on : (is_some (decided n.position) ≡ false) × (is_sure_node n ≡ false)
      on = goes_on n off

      on_there : (is_some (decided o.position) ≡ false) × (is_sure_node o ≡ false)
      on_there = goes_on o (sym claims_same ∙ off)

      one_at_ours : Below m → is_declarers (to_play n.position) ≡ true → HaveOneFront n o (suc m)
      one_at_ours below ours =
          let By : NodeValue → List ℕ → Vector → Type 0 = λ p cs v. AssuredByCard bridge is_sure_node p m cs v in
          let g = over_each By
          (λ done c f choice both.
          let h = below c choice in
          let u = reduced_exists (f ++ h.0) in (
            u.0,
            record {
              first = steps.more_cards n m done c f h.0 u.0 both.first h.1 u.1;
              second = subst (λ (cs : List ℕ). IsFrontOf (By o cs) u.0) (sym (twins_of done c)) (steps.more_cards o m (map (swap a b) done) (swap a b c) f h.0 u.0 both.second h.2 u.1);
            },
          ))
          [] (choices n) [] (λ c k. k) (record { first = steps.no_card n m; second = steps.no_card o m }) in (
            g.0,
            steps.all_cards n m g.0 sound on.0 on.1 ours g.1.first,
            steps.all_cards o m g.0 other on_there.0 on_there.1 (sym (nodes-turn a b n o sound r) ∙ ours)
                (front_same (By o (map (swap a b) (choices n))) (By o (choices o)) g.0 (λ v w. (w.0, there_all w.0 w.1, w.2)) (λ v w. (w.0, back w.0 w.1, w.2)) g.1.second),
          )

      one_at_theirs : Below (suc m) → is_declarers (to_play n.position) ≡ false → HaveOneFront n o (suc m)
      one_at_theirs below theirs =
          let By : NodeValue → List ℕ → Vector → Type 0 = λ p cs v. AssuredByReply bridge is_sure_node p (suc m) cs v in
          let width : length (states o) ≡ length (states n) =
          length-map o.lefts (λ left. record { position = o.position; left = left }) ∙ same_width ∙ sym (length-map n.lefts (λ left. record { position = n.position; left = left })) in
          let g = over_each By
          (λ done c f choice both.
          let h = below c choice in
          let u = reduced_exists (meets f (spreads (mask bridge n c) h.0)) in
          let there_too = subst (λ (bits : Vector). IsReduced (meets f (spreads bits h.0)) u.0) (sym (masks c)) u.1 in (
            u.0,
            record {
              first = steps.more_replies n (suc m) done c f h.0 u.0 sound choice both.first h.1 u.1;
              second = subst (λ (cs : List ℕ). IsFrontOf (By o cs) u.0) (sym (twins_of done c))
                  (steps.more_replies o (suc m) (map (swap a b) done) (swap a b c) f h.0 u.0 other (there c choice) both.second h.2 there_too);
            },
          ))
          [] (choices n) (replicate (length (states n)) true ∷ []) (λ c k. k)
          (record { first = steps.no_reply n (suc m); second = subst (λ (k : ℕ). IsFrontOf (By o []) (replicate k true ∷ [])) width (steps.no_reply o (suc m)) }) in (
            g.0,
            steps.all_replies n m g.0 sound on.0 on.1 theirs g.1.first,
            steps.all_replies o m g.0 other on_there.0 on_there.1 (sym (nodes-turn a b n o sound r) ∙ theirs)
                (front_same (By o (map (swap a b) (choices n))) (By o (choices o)) g.0 (λ v w. (w.0, λ d k. w.1 d (back d k))) (λ v w. (w.0, λ d k. w.1 d (there_all d k))) g.1.second),
          )

  one_front : (k : ℕ) (n o : NodeValue) (m : ℕ) → cards_left n.position < k → IsNode n → IsNode o → TwinNodes a b n o → HaveOneFront n o m
  one_front zero n o m few sound other r = absurd (omega arith)
  one_front (suc k) n o zero few sound other r = ⊎_elim
      (λ (ends : claims n ≡ true). one_at_claim n o sound other r 0 ends)
      (λ (off : claims n ≡ false). one_at_stop n o sound other r off)
      (cases_Bool (claims n))
  one_front (suc k) n o (suc m) few sound other r = go
      (λ off j c choice.
      let less = lawful.falls n c sound (goes_on n off).0 choice in
      one_front k (child n c) (child o (swap a b c)) j (omega arith) (lawful.holds n c sound choice) (lawful.holds o (swap a b c) other (there n o sound other r c choice)) (twins-child a b suit order low n o r c))
      (cases_Bool (claims n)) (cases_Bool (is_declarers (to_play n.position)))
    where
      go : (claims n ≡ false → (j : ℕ) → Below n o sound other r j) → (claims n ≡ true) ⊎ (claims n ≡ false) → (is_declarers (to_play n.position) ≡ true) ⊎ (is_declarers (to_play n.position) ≡ false) → HaveOneFront n o (suc m)
      go below (inl ends) turn = one_at_claim n o sound other r (suc m) ends
      go below (inr off) (inl ours) = one_at_ours n o sound other r m off (below off m) ours
      go below (inr off) (inr theirs) = one_at_theirs n o sound other r m off (below off (suc m)) theirs

-- ---- after two equal cards of declarer's side

zip_maps : (R : State → State → Type 0) (f g : State → State) (ss : List State) → ((s : State) → Contains ss s → R (f s) (g s)) → AllZip R (map f ss) (map g ss)
zip_maps R f g [] each = tt
zip_maps R f g (s ∷ ss) each = (each s (Contains-here s ss), zip_maps R f g ss (λ t k. each t (Contains-there s ss t k)))

module _ (n : NodeValue) (a b : ℕ) (sound : IsNode n) (ours : is_declarers (to_play n.position) ≡ true) (eq : AreEqualAt n a b) where
  below_52 : b < 52
  below_52 = held_low n.position sound.sound b (to_play n.position) (a_choice_can_be_played n b sound eq.high_choice)

  low_choice : Contains (choices n) a
  low_choice = Contains-from_has_card (choices n) a eq.low_choice

  high_choice : Contains (choices n) b
  high_choice = Contains-from_has_card (choices n) b eq.high_choice

  twins_after : (s : State) → Contains (states n) s → AreTwins a b (after s a) (after s b)
  twins_after s k =
      let state = state_of n s sound k in
      let legal = our_card_legal bridge IsNode lawful n a s sound ours low_choice k in
      let legal_too = our_card_legal bridge IsNode lawful n b s sound ours high_choice k in
      let equal : AreEqual s a b = record {
        low_legal = legal;
        high_legal = legal_too;
        suit = eq.suit;
        order = eq.order;
        between = λ card above below. rw (table_of n s k) (eq.between card above below);
      } in
      record {
        state = after-IsState s state a legal;
        twin = after-IsState s state b legal_too;
        mirrored = mirrored-start s state a b equal below_52;
        follows = follows-start s state a b equal;
      }

  children : TwinNodes a b (child n a) (child n b)
  children =
      subst (λ (ss : List State). AllZip (AreTwins a b) ss (states (child n b))) (sym (states-child bridge IsNode lawful n a sound ours low_choice))
      (subst (λ (ss : List State). AllZip (AreTwins a b) (map (λ s. after s a) (states n)) ss) (sym (states-child bridge IsNode lawful n b sound ours high_choice))
      (zip_maps (AreTwins a b) (λ s. after s a) (λ s. after s b) (states n) twins_after))

  -- the nodes have one front of what is assured
  pub equal_fronts : (m : ℕ) → HaveOneFront (child n a) (child n b) m
  equal_fronts m = one_front a b eq.suit eq.order below_52 (suc (cards_left (child n a).position)) (child n a) (child n b) m (omega arith)
      (a_choice_leads_to_a_node n a sound eq.low_choice) (a_choice_leads_to_a_node n b sound eq.high_choice) children
