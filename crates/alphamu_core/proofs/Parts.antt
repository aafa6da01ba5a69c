-- What is won at a node and at the same node with some layouts left out.
use Rattle.std.proofs.Common.{◌≡◌, ◌∙◌, ◌≤◌, ◌&&◌, ℕ, suc, Bool, true, false, List, [], ◌∷◌, Contains, filter, length, map, sum_by, refl, sym, ap, subst, ⊎_elim, arith}
use Rattle.std.specs.List.{items_where_true, list_any}
use Rattle.std.proofs.lemmas.List.Elements.{All-contains}
use Rattle.std.proofs.lemmas.List.Folds.{Any-from_list_any}
use Rattle.card_sets.proofs.Sets.{cards_where-agree, filter-cards_where}
use Rattle.win_vectors.specs.Vectors.{ones_of, restrict_of}
use Rattle.win_vectors.specs.Fronts.{Vector, IsAtLeast, Dominates, IsReduced}
use Rattle.win_vectors.proofs.VectorLemmas.{ones_of-le}
use Rattle.trick_rules.specs.Positions.{PositionValue, State, FitsLeft}
use Rattle.trick_rules.specs.Play.{makes, cards_left, take_out, after_card}
use Rattle.trick_rules.specs.Nodes.{NodeValue, IsNode, states, choices, child, is_legal}
use Rattle.trick_rules.proofs.PlayLaws as play
use Rattle.strategy_games.specs.Plans.{Plan, Fits, wins, wins_vector, CanWin, IsFront, IsBelow, tree_size}
use Rattle.strategy_games.proofs.Lists.{Contains-here, Contains-there, Contains-nil, Contains-cons, Contains-map, Contains-of_map, Contains-filter, Contains-of_filter, All-from}
use Rattle.strategy_games.proofs.Vectors.{Dominates-refl, Dominates-trans, Dominates-antisym}
use Rattle.strategy_games.proofs.Masks.{Dominates-map}
use Rattle.strategy_games.proofs.Fronts.{front_level}
use Rattle.strategy_games.proofs.Moves.{made_by}
use Rattle.strategy_tree.specs.Bridge.{bridge}
use Rattle.strategy_tree.proofs.CardLists.{any_from, Contains-from_has_card}
use Rattle.strategy_tree.proofs.Rules.{lawful, double_dummy}
use Rattle.strategy_tree.proofs.BridgeLaws.{sizes}
use Rattle.alphamu_core.specs.Parts.{part_of, filled_of, AreSomeLayouts, PartsHaveTheirFront, LostLayoutsMayBeLeftOut}
use Rattle.alphamu_core.proofs.Judging.{dominates-length}
use Rattle.alphamu_core.proofs.Narrowed as game
use Rattle.alphamu_core.proofs.Narrowed.{IsLeftOutByPlay}
use Rattle.alphamu_core.proofs.Standing.{sum_by-filter}

-- ---- nodes

-- the first node is the second with some layouts left out
pub record IsPart (k n : NodeValue) : Type 0 where
  pub position : k.position ≡ n.position
  pub layouts : (left : List ℕ) → Contains k.lefts left → Contains n.lefts left

layout_of : (n : NodeValue) (s : State) → Contains (states n) s → (left : List ℕ) × Contains n.lefts left × (record { position = n.position; left = left } ≡ s)
layout_of n s among = Contains-of_map (λ left. record { position = n.position; left = left }) n.lefts s among

state_among : (n : NodeValue) (left : List ℕ) → Contains n.lefts left → Contains (states n) (record { position = n.position; left = left })
state_among n left among = Contains-map (λ left. record { position = n.position; left = left }) n.lefts left among

both_if : (a b : Bool) → (b ≡ true → a ≡ true) → (a && b) ≡ b
both_if true b h = refl
both_if false false h = refl
both_if false true h = h refl

legal_somewhere : NodeValue → ℕ → Bool
legal_somewhere n card = list_any (is_legal n.position card) n.lefts

-- the part's choices are some of the node's
part_choices : (k n : NodeValue) → IsPart k n → choices k ≡ filter (λ card. list_any (is_legal k.position card) k.lefts) (choices n)
part_choices k n part = sym (filter-cards_where (λ card. list_any (is_legal k.position card) k.lefts) (λ card. list_any (is_legal n.position card) n.lefts)
    ∙ cards_where-agree (λ card. list_any (is_legal n.position card) n.lefts && list_any (is_legal k.position card) k.lefts) (λ card. list_any (is_legal k.position card) k.lefts)
    (λ card low. both_if (list_any (is_legal n.position card) n.lefts) (list_any (is_legal k.position card) k.lefts)
    (λ h.
    let some = Any-from_list_any (is_legal k.position card) k.lefts h in
    any_from (is_legal n.position card) n.lefts some.1 (part.layouts some.1 (some.0, some.2, some.3)) (subst (λ (t : PositionValue). is_legal t card some.1 ≡ true) part.position some.4))))

part_child : (k n : NodeValue) (card : ℕ) → IsPart k n → IsPart (child k card) (child n card)
part_child k n card part = record {
  position = ap (λ (t : PositionValue). after_card t card) part.position;
  layouts = λ left among.
      let before = Contains-of_map (take_out card) (filter (is_legal k.position card) k.lefts) left among in
      let there = Contains-of_filter (is_legal k.position card) k.lefts before.0 before.1 in
      subst (λ left. Contains (child n card).lefts left) before.2
      (Contains-map (take_out card) (filter (is_legal n.position card) n.lefts) before.0
      (Contains-filter (is_legal n.position card) n.lefts before.0 (part.layouts before.0 there.0) (subst (λ (t : PositionValue). is_legal t card before.0 ≡ true) part.position there.1)));
}

first_layout : (n : NodeValue) → IsNode n → (s : State) × Contains (states n) s
first_layout n sound = go n.lefts sound.some
  where
    go : (lefts : List (List ℕ)) → 1 ≤ length lefts → (s : State) × Contains (map (λ left. record { position = n.position; left = left }) lefts) s
    go [] some = absurd (omega (arith, some))
    go (left ∷ lefts) some = (record { position = n.position; left = left }, Contains-here _ _)

-- the nodes without some layouts, by the rules of play
pub left_out : IsLeftOutByPlay bridge IsNode IsPart
left_out = record {
  turn = λ k n part. ap (λ (t : PositionValue). bridge.is_ours (record { position = t; lefts = [] })) part.position;
  decided = λ k n part. ap (λ (t : PositionValue). bridge.is_decided (record { position = t; lefts = [] })) part.position;
  cards = λ k n part. ap cards_left part.position;
  layouts = λ k n s part among.
      let layout = layout_of k s among in
      subst (λ s. Contains (states n) s) (ap (λ (t : PositionValue). record { position = t; left = layout.0 }) (sym part.position) ∙ layout.2) (state_among n layout.0 (part.layouts layout.0 layout.1));
  some_layout = first_layout;
  choice = λ n card s sound among legal. Contains-from_has_card (choices n) card (play.what_is_legal_is_a_choice n card s sound among legal);
  sums = λ k n size part. subst (λ cards. sum_by size cards ≤ sum_by size (choices n)) (sym (part_choices k n part)) (sum_by-filter size (λ card. list_any (is_legal k.position card) k.lefts) (choices n));
  child = part_child;
}

module _ (k n : NodeValue) (sound : IsNode k) (whole : IsNode n) (part : IsPart k n) where
  pub narrowed : (p : Plan ℕ) (m : ℕ) → Fits bridge p n m → (q : Plan ℕ) × Fits bridge q k m × ((s : State) → Contains (states k) s → wins bridge p s ≡ true → wins bridge q s ≡ true)
  narrowed = game.narrowed bridge IsNode lawful IsPart left_out k n sound whole part

  pub widened : (p : Plan ℕ) (m : ℕ) → Fits bridge p k m → (q : Plan ℕ) × Fits bridge q n m × ((s : State) → Contains (states k) s → wins bridge p s ≡ true → wins bridge q s ≡ true)
  widened = game.widened bridge IsNode lawful IsPart left_out k n sound whole part

  pub smaller : (m : ℕ) → tree_size bridge k m ≤ tree_size bridge n m
  smaller m = game.smaller bridge IsNode lawful IsPart left_out sizes k n m sound whole part

-- ---- the layouts at the ones of a vector

module _ {X : Type 0} where
  pub Contains-of_picked : (kept : Vector) (xs : List X) (x : X) → Contains (items_where_true kept xs) x → Contains xs x
  Contains-of_picked [] xs x h = absurd (Contains-nil x h)
  Contains-of_picked (b ∷ kept) [] x h = absurd (Contains-nil x h)
  Contains-of_picked (true ∷ kept) (y ∷ xs) x h = ⊎_elim
      (λ (e : y ≡ x). subst (λ x. Contains (y ∷ xs) x) e (Contains-here y xs))
      (λ (later : Contains (items_where_true kept xs) x). Contains-there y xs x (Contains-of_picked kept xs x later))
      (Contains-cons y (items_where_true kept xs) x h)
  Contains-of_picked (false ∷ kept) (y ∷ xs) x h = Contains-there y xs x (Contains-of_picked kept xs x h)

  pub length-picked : (kept : Vector) (xs : List X) → length kept ≡ length xs → length (items_where_true kept xs) ≡ ones_of kept
  length-picked [] xs e = refl
  length-picked (b ∷ kept) [] e = absurd (omega arith)
  length-picked (true ∷ kept) (x ∷ xs) e = let rest = length-picked kept xs (omega arith) in omega arith
  length-picked (false ∷ kept) (x ∷ xs) e = let rest = length-picked kept xs (omega arith) in omega arith

  pub restrict-picked : (F : X → Bool) (kept : Vector) (xs : List X) → restrict_of (map F xs) kept ≡ map F (items_where_true kept xs)
  restrict-picked F [] [] = refl
  restrict-picked F [] (x ∷ xs) = refl
  restrict-picked F (b ∷ kept) [] = refl
  restrict-picked F (true ∷ kept) (x ∷ xs) = ap (λ (v : Vector). F x ∷ v) (restrict-picked F kept xs)
  restrict-picked F (false ∷ kept) (x ∷ xs) = restrict-picked F kept xs

  -- what is picked at the ones of a test passes it
  pub picked_passes : (p : X → Bool) (xs : List X) (x : X) → Contains (items_where_true (map p xs) xs) x → p x ≡ true
  picked_passes p [] x h = absurd (Contains-nil x h)
  picked_passes p (y ∷ xs) x h = go (picked_passes p xs x) (p y) refl h
    where
      go : (Contains (items_where_true (map p xs) xs) x → p x ≡ true) → (b : Bool) → p y ≡ b → Contains (items_where_true (b ∷ map p xs) (y ∷ xs)) x → p x ≡ true
      go rest true is k = ⊎_elim (λ (e : y ≡ x). subst (λ x. p x ≡ true) e is) rest (Contains-cons y (items_where_true (map p xs) xs) x k)
      go rest false is k = rest k

pub states-part : (n : NodeValue) (kept : Vector) → states (part_of n kept) ≡ items_where_true kept (states n)
states-part n kept = go kept n.lefts
  where
    go : (kept : Vector) (lefts : List (List ℕ)) → map {B = State} (λ left. record { position = n.position; left = left }) (items_where_true kept lefts) ≡ items_where_true kept (map {B = State} (λ left. record { position = n.position; left = left }) lefts)
    go [] lefts = refl
    go (b ∷ kept) [] = refl
    go (true ∷ kept) (left ∷ lefts) = ap (λ (ss : List State). record { position = n.position; left = left } ∷ ss) (go kept lefts)
    go (false ∷ kept) (left ∷ lefts) = go kept lefts

module _ (n : NodeValue) (kept : Vector) where
  pub is_part : IsPart (part_of n kept) n
  is_part = record { position = refl; layouts = Contains-of_picked kept n.lefts }

  pub part_sound : AreSomeLayouts n kept → IsNode (part_of n kept)
  part_sound ok = record {
    sound = ok.a_node.sound;
    fits = All-from (FitsLeft n.position) (items_where_true kept n.lefts) (λ left among. All-contains (FitsLeft n.position) n.lefts left ok.a_node.fits (Contains-of_picked kept n.lefts left among));
    some = subst (λ width. 1 ≤ width) (sym (length-picked kept n.lefts ok.width)) ok.some;
    few = omega (arith, length-picked kept n.lefts ok.width, ones_of-le kept, ok.width, ok.a_node.few);
  }

  -- a vector of the node, cut down to the part
  pub restrict-part : (F : State → Bool) → restrict_of (map F (states n)) kept ≡ map F (states (part_of n kept))
  restrict-part F = restrict-picked F kept (states n) ∙ ap (map F) (sym (states-part n kept))

-- ---- vectors cut down and filled

Dominates-restrict : (u v kept : Vector) → Dominates u v → Dominates (restrict_of u kept) (restrict_of v kept)
Dominates-restrict [] [] kept h = tt
Dominates-restrict [] (b ∷ v) kept h = elim h [ ]
Dominates-restrict (a ∷ u) [] kept h = elim h [ ]
Dominates-restrict (a ∷ u) (b ∷ v) [] h = tt
Dominates-restrict (a ∷ u) (b ∷ v) (true ∷ kept) h = (h.0, Dominates-restrict u v kept h.1)
Dominates-restrict (a ∷ u) (b ∷ v) (false ∷ kept) h = Dominates-restrict u v kept h.1

pub length-restrict : (v kept : Vector) → length v ≡ length kept → length (restrict_of v kept) ≡ ones_of kept
length-restrict [] [] e = refl
length-restrict [] (b ∷ kept) e = absurd (omega arith)
length-restrict (a ∷ v) [] e = absurd (omega arith)
length-restrict (a ∷ v) (true ∷ kept) e = let rest = length-restrict v kept (omega arith) in omega arith
length-restrict (a ∷ v) (false ∷ kept) e = let rest = length-restrict v kept (omega arith) in omega arith

at_least_either : (a b : Bool) → IsAtLeast a b → IsAtLeast a (b && true)
at_least_either a true h = h
at_least_either a false h = h

at_least_whole : (a b : Bool) → IsAtLeast b a → IsAtLeast (b && true) a
at_least_whole a true h = h
at_least_whole a false h = h

at_least_none : (a : Bool) → IsAtLeast a false
at_least_none true = tt
at_least_none false = tt

-- what dominates a vector where it is kept dominates it with 0 elsewhere
above_filled : (u v kept : Vector) → length u ≡ length kept → Dominates (restrict_of u kept) v → Dominates u (filled_of v kept)
above_filled [] v [] e h = tt
above_filled [] v (b ∷ kept) e h = absurd (omega arith)
above_filled (a ∷ u) v [] e h = absurd (omega arith)
above_filled (a ∷ u) [] (true ∷ kept) e h = elim h [ ]
above_filled (a ∷ u) (b ∷ v) (true ∷ kept) e h = (at_least_either a b h.0, above_filled u v kept (omega arith) h.1)
above_filled (a ∷ u) v (false ∷ kept) e h = (at_least_none a, above_filled u v kept (omega arith) h)

-- and that dominates what has no 1 elsewhere
filled_above : (u v kept : Vector) → Dominates kept u → Dominates v (restrict_of u kept) → Dominates (filled_of v kept) u
filled_above [] v [] out h = tt
filled_above [] v (b ∷ kept) out h = elim out [ ]
filled_above (a ∷ u) v [] out h = elim out [ ]
filled_above (a ∷ u) [] (true ∷ kept) out h = elim h [ ]
filled_above (a ∷ u) (b ∷ v) (true ∷ kept) out h = (at_least_whole a b h.0, filled_above u v kept out.1 h.1)
filled_above (a ∷ u) v (false ∷ kept) out h = (out.0, filled_above u v kept out.1 h)

pub filled_same : (u kept : Vector) → Dominates kept u → filled_of (restrict_of u kept) kept ≡ u
filled_same u kept out = Dominates-antisym (filled_of (restrict_of u kept) kept) u
    (filled_above u (restrict_of u kept) kept out (Dominates-refl (restrict_of u kept)))
    (above_filled u (restrict_of u kept) kept (sym (dominates-length kept u out)) (Dominates-refl (restrict_of u kept)))

-- ---- fronts

-- no strategy wins what double dummy loses
pub results_above : (n : NodeValue) (p : Plan ℕ) (m : ℕ) → IsNode n → Fits bridge p n m → Dominates (map (λ s. makes s) (states n)) (wins_vector bridge p n)
results_above n p m sound fit = Dominates-map (λ s. makes s) (λ s. wins bridge p s) (states n) (λ s among won. made_by bridge IsNode lawful double_dummy p n m s sound fit among won)

module _ (n : NodeValue) (kept : Vector) (ok : AreSomeLayouts n kept) where
  k : NodeValue
  k = part_of n kept

  vector_width : (p : Plan ℕ) → length (wins_vector bridge p n) ≡ length kept
  vector_width p = dominates-length (wins_vector bridge p n) (map (λ s. wins bridge p s) (states n)) (Dominates-refl (wins_vector bridge p n)) ∙ width_of n.lefts ∙ sym ok.width
    where
      width_of : (lefts : List (List ℕ)) → length (map (λ s. wins bridge p s) (map (λ left. record { position = n.position; left = left }) lefts)) ≡ length lefts
      width_of [] = refl
      width_of (left ∷ lefts) = ap (λ i. suc i) (width_of lefts)

  -- the part of what a plan wins
  pub part_wins : (p : Plan ℕ) → restrict_of (wins_vector bridge p n) kept ≡ wins_vector bridge p (part_of n kept)
  part_wins p = restrict-part n kept (λ s. wins bridge p s)

  module _ (m : ℕ) where
    cut : (p : Plan ℕ) → Fits bridge p n m → (q : Plan ℕ) × Fits bridge q (part_of n kept) m × Dominates (wins_vector bridge q (part_of n kept)) (restrict_of (wins_vector bridge p n) kept)
    cut p fit =
        let q = narrowed (part_of n kept) n (part_sound n kept ok) ok.a_node (is_part n kept) p m fit in
        (q.0, q.1, subst (λ v. Dominates (wins_vector bridge q.0 (part_of n kept)) v) (sym (part_wins p)) (Dominates-map (λ s. wins bridge q.0 s) (λ s. wins bridge p s) (states (part_of n kept)) q.2))

    whole : (p : Plan ℕ) → Fits bridge p (part_of n kept) m → (q : Plan ℕ) × Fits bridge q n m × Dominates (restrict_of (wins_vector bridge q n) kept) (wins_vector bridge p (part_of n kept))
    whole p fit =
        let q = widened (part_of n kept) n (part_sound n kept ok) ok.a_node (is_part n kept) p m fit in
        (q.0, q.1, subst (λ v. Dominates v (wins_vector bridge p (part_of n kept))) (sym (part_wins q.0)) (Dominates-map (λ s. wins bridge q.0 s) (λ s. wins bridge p s) (states (part_of n kept)) q.2))

    pub part_front : (front part : List Vector) → IsFront bridge n m front → IsReduced (map (λ v. restrict_of v kept) front) part → IsFront bridge (part_of n kept) m part
    part_front front part f reduced = front_level (Contains (map (λ v. restrict_of v kept) front)) (CanWin bridge (part_of n kept) m) part
        (λ v among.
        let u = Contains-of_map (λ v. restrict_of v kept) front v among in
        let p = f.reached u.0 u.1 in
        let q = cut p.0 p.1 in
        let same : restrict_of (wins_vector bridge p.0 n) kept ≡ v = ap (λ (w : Vector). restrict_of w kept) p.2 ∙ u.2 in
        (wins_vector bridge q.0 (part_of n kept), (q.0, q.1, refl), subst (λ w. Dominates (wins_vector bridge q.0 (part_of n kept)) w) same q.2))
        (λ v can.
        let q = whole can.0 can.1 in
        let u = f.covered (wins_vector bridge q.0 n) (q.0, q.1, refl) in
        let above : Dominates (restrict_of u.0 kept) (wins_vector bridge can.0 (part_of n kept)) =
        Dominates-trans (restrict_of u.0 kept) (restrict_of (wins_vector bridge q.0 n) kept) (wins_vector bridge can.0 (part_of n kept)) (Dominates-restrict u.0 (wins_vector bridge q.0 n) kept u.2) q.2 in
        (restrict_of u.0 kept, Contains-map (λ v. restrict_of v kept) front u.0 u.1, subst (λ w. Dominates (restrict_of u.0 kept) w) can.2 above))
        reduced

    -- where only lost layouts are left out
    module _ (lost : Dominates kept (map (λ s. makes s) (states n))) where
      nothing_else : (p : Plan ℕ) → Fits bridge p n m → Dominates kept (wins_vector bridge p n)
      nothing_else p fit = Dominates-trans kept (map (λ s. makes s) (states n)) (wins_vector bridge p n) lost (results_above n p m ok.a_node fit)

      pub whole_front : (part front : List Vector) → IsFront bridge (part_of n kept) m part → IsReduced (map (λ v. filled_of v kept) part) front → IsFront bridge n m front
      whole_front part front f reduced = front_level (Contains (map (λ v. filled_of v kept) part)) (CanWin bridge n m) front
          (λ v among.
          let u = Contains-of_map (λ v. filled_of v kept) part v among in
          let p = f.reached u.0 u.1 in
          let q = whole p.0 p.1 in
          let above : Dominates (wins_vector bridge q.0 n) (filled_of u.0 kept) =
          above_filled (wins_vector bridge q.0 n) u.0 kept (vector_width q.0) (subst (λ w. Dominates (restrict_of (wins_vector bridge q.0 n) kept) w) p.2 q.2) in
          (wins_vector bridge q.0 n, (q.0, q.1, refl), subst (λ w. Dominates (wins_vector bridge q.0 n) w) u.2 above))
          (λ v can.
          let q = cut can.0 can.1 in
          let u = f.covered (wins_vector bridge q.0 (part_of n kept)) (q.0, q.1, refl) in
          let part_above : Dominates u.0 (restrict_of (wins_vector bridge can.0 n) kept) =
          Dominates-trans u.0 (wins_vector bridge q.0 (part_of n kept)) (restrict_of (wins_vector bridge can.0 n) kept) u.2 q.2 in
          let above = filled_above (wins_vector bridge can.0 n) u.0 kept (nothing_else can.0 can.1) part_above in
          (filled_of u.0 kept, Contains-map (λ v. filled_of v kept) part u.0 u.1, subst (λ w. Dominates (filled_of u.0 kept) w) can.2 above))
          reduced

      -- what covers the part's strategies covers the node's
      pub below_part : (alpha part : List Vector) → ((v : Vector) → Contains alpha v → length v ≡ length kept) → ((v : Vector) → Contains part v → Contains (map (λ v. restrict_of v kept) alpha) v)
          → IsBelow bridge (part_of n kept) m part → IsBelow bridge n m alpha
      below_part alpha part wide within below p fit =
          let q = cut p fit in
          let u = below q.0 q.1 in
          let a = Contains-of_map (λ v. restrict_of v kept) alpha u.0 (within u.0 u.1) in
          let part_above : Dominates (restrict_of a.0 kept) (restrict_of (wins_vector bridge p n) kept) =
          Dominates-trans (restrict_of a.0 kept) (wins_vector bridge q.0 (part_of n kept)) (restrict_of (wins_vector bridge p n) kept) (subst (λ w. Dominates w (wins_vector bridge q.0 (part_of n kept))) (sym a.2) u.2) q.2 in (
            a.0,
            a.1,
            Dominates-trans a.0 (filled_of (restrict_of (wins_vector bridge p n) kept) kept) (wins_vector bridge p n)
                (above_filled a.0 (restrict_of (wins_vector bridge p n) kept) kept (wide a.0 a.1) part_above)
                (filled_above (wins_vector bridge p n) (restrict_of (wins_vector bridge p n) kept) kept (nothing_else p fit) (Dominates-refl (restrict_of (wins_vector bridge p n) kept))),
          )

-- ---- the laws

pub parts_have_their_front : PartsHaveTheirFront
parts_have_their_front n moves kept front part ok f reduced = part_front n kept ok moves front part f reduced

pub lost_layouts_may_be_left_out : LostLayoutsMayBeLeftOut
lost_layouts_may_be_left_out n moves kept part front ok lost f reduced = whole_front n kept ok moves lost part front f reduced
