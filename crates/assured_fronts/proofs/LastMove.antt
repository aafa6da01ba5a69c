-- One move left at declarer's turn: what is assured with no move, or claimed after a card.
use Rattle.std.proofs.Common.{◌≡◌, ◌⊎◌, ◌∙◌, ◌++◌, ℕ, true, false, List, [], ◌∷◌, length, Contains, append-nil, append_assoc, refl, sym, ap, ap₂, subst, true≢false, inl, inr, ⊎_elim}
use Rattle.std.proofs.lemmas.Bool.{false_from_ne_true}
use Rattle.card_sets.specs.SetWords.{has_card}
use Rattle.card_sets.specs.declared.seat.Seat.{Seat}
use Rattle.card_sets.specs.declared.seat.Seat.TheVariants.{Declarer, Left, Dummy, Right}
use Rattle.card_sets.proofs.SetCounts.{take_out-absent}
use Rattle.win_vectors.specs.Fronts.{Vector, Dominates, IsFrontOf, IsReduced}
use Rattle.pareto_fronts.specs.FrontValue.{FrontValue}
use Rattle.trick_rules.specs.Positions.{PositionValue, State, IsSound, to_play}
use Rattle.trick_rules.specs.Play.{after, held_by, is_declarers, makes, take_out}
use Rattle.trick_rules.specs.Nodes.{NodeValue, IsNode, states, choices, child}
use Rattle.trick_rules.proofs.PlayLaws.{a_choice_can_be_played}
use Rattle.strategy_games.proofs.Lists.{Contains-here, Contains-nil, Contains-single, Contains-append, Contains-append_first, Contains-append_second, All-at}
use Rattle.strategy_games.proofs.Fronts.{front_grows, front_same}
use Rattle.strategy_games.proofs.Wins.{states-child}
use Rattle.strategy_tree.specs.Bridge.{bridge}
use Rattle.strategy_tree.proofs.CardLists.{has_card-from_Contains}
use Rattle.strategy_tree.proofs.Rules.{table_of, lawful}
use Rattle.plain_fronts.proofs.CardByCard.{member}
use Rattle.assured_games.specs.Assured.{Line, Claim, PlayFor, Move, Wait, Secures, IsLine, IsAssured}
use Rattle.assured_games.specs.Steps.{AssuredByCard}
use Rattle.assured_games.proofs.Zips.{AtOnes, zip_map, zip_of_map}
use Rattle.assured_games.proofs.Lines.{carried}
use Rattle.sure_nodes.specs.SureNodes.{is_sure_node}
use Rattle.sure_nodes.proofs.Cashed.{state_of}
use Rattle.sure_nodes.proofs.SureBridge.{bracketed}
use Rattle.assured_fronts.specs.AssuredAt.{IsAssuredAt, AllMade, claims}
use Rattle.assured_fronts.proofs.Leaves.{steps, goes_on}

-- assured with no move, or by one of these cards
abbrev pub ByLastMove : NodeValue → List ℕ → Vector → Type 0
ByLastMove n cards v = IsAssured bridge is_sure_node n 0 v ⊎ AssuredByCard bridge is_sure_node n 0 cards v

-- these cards are left, and the front is over the others
pub record LastLeft (n : NodeValue) (cards : List ℕ) (front : FrontValue) : Type 0 where
  pub earlier : List ℕ
  pub are : choices n ≡ earlier ++ cards
  pub width : front.width ≡ length n.lefts
  pub so_far : IsFrontOf (ByLastMove n earlier) front.vectors

-- ---- a card of declarer's side

-- isn't unseen,
not_unseen : (t : PositionValue) (card : ℕ) → IsSound t → (seat : Seat) → is_declarers seat ≡ true → has_card (held_by t seat) card ≡ true → has_card t.unseen card ≡ false
not_unseen t card sound Declarer ours held = sound.declarer_unseen card held
not_unseen t card sound Dummy ours held = sound.dummy_unseen card held
not_unseen t card sound Left ours held = absurd (true≢false (sym ours))
not_unseen t card sound Right ours held = absurd (true≢false (sym ours))

module _ (n : NodeValue) (sound : IsNode n) (ours : is_declarers (to_play n.position) ≡ true) where
  -- so Left's hand stays as it is
  left_kept : (card : ℕ) (s : State) → Contains (choices n) card → Contains (states n) s → take_out card s.left ≡ s.left
  left_kept card s choice among = take_out-absent s.left card (false_from_ne_true (has_card s.left card) (λ held.
      let at = table_of n s among in
      let unseen : has_card s.position.unseen card ≡ true = (state_of n s sound among).fits.part card held in
      let off = not_unseen n.position card sound.sound (to_play n.position) ours (a_choice_can_be_played n card sound (has_card-from_Contains (choices n) card choice)) in
      true≢false (sym unseen ∙ ap (λ (t : PositionValue). has_card t.unseen card) at ∙ off)))

  -- a layout that is played for after it can be played for before it
  before : (card : ℕ) → AllMade n → Contains (choices n) card → claims (child n card) ≡ false → (v : Vector) (p : Line State ℕ) → IsLine bridge is_sure_node p (child n card) 0
      → AtOnes (λ s. Secures bridge p s) v (states (child n card)) → IsAssured bridge is_sure_node n 0 v
  before card made choice off v Claim fit won =
      let on = goes_on (child n card) off in
      absurd (⊎_elim (λ over. true≢false (sym over ∙ on.0)) (λ sure. true≢false (sym sure ∙ on.1)) fit)
  before card made choice off v (PlayFor t) fit won = (
    PlayFor (record { position = n.position; left = t.left }),
    tt,
    carried (λ s. Secures bridge (PlayFor t) (after s card)) (λ s. Secures bridge (PlayFor (record { position = n.position; left = t.left })) s) v (states n)
        (zip_of_map (λ s. after s card) (λ s. Secures bridge (PlayFor t) s) v (states n)
        (subst (λ (ss : List State). AtOnes (λ s. Secures bridge (PlayFor t) s) v ss) (states-child bridge IsNode lawful n card sound ours choice) won))
        (λ s among both. (
          ap₂ (λ (p : PositionValue) (l : List ℕ). record { position = p; left = l }) (sym (table_of n s among)) (ap (λ (x : State). x.left) both.0 ∙ left_kept card s choice among),
          All-at (λ s. makes s ≡ true) (states n) made s among,
        )),
  )
  before card made choice off v (Move c p) fit won = absurd fit
  before card made choice off v (Wait bs) fit won = absurd (true≢false fit.0)

  -- what is assured with one move is assured by a card
  by_card : claims n ≡ false → (v : Vector) (p : Line State ℕ) → IsLine bridge is_sure_node p n 1 → AtOnes (λ s. Secures bridge p s) v (states n) → AssuredByCard bridge is_sure_node n 0 (choices n) v
  by_card off v Claim fit won =
      let on = goes_on n off in
      absurd (⊎_elim (λ over. true≢false (sym over ∙ on.0)) (λ sure. true≢false (sym sure ∙ on.1)) fit)
  by_card off v (PlayFor t) fit won = absurd fit
  by_card off v (Move c p) fit won = (
    c,
    fit.2,
    (
      p,
      fit.3,
      subst (λ (ss : List State). AtOnes (λ s. Secures bridge p s) v ss) (sym (states-child bridge IsNode lawful n c sound ours fit.2))
          (zip_map (λ s. after s c) (λ s. Secures bridge p s) v (states n) won),
    ),
  )
  by_card off v (Wait bs) fit won = absurd (true≢false (sym ours ∙ fit.1))

-- ---- one card after another

pub last_none : (n : NodeValue) (cards : List ℕ) (front : FrontValue) → cards ≡ choices n → IsAssuredAt n 0 front → LastLeft n cards front
last_none n cards front all found = record {
  earlier = [];
  are = sym all;
  width = found.width;
  so_far = front_same (IsAssured bridge is_sure_node n 0) (ByLastMove n []) front.vectors (λ v a. inl a) back found.front;
}
  where
    back : (v : Vector) → ByLastMove n [] v → IsAssured bridge is_sure_node n 0 v
    back v (inl a) = a
    back v (inr w) = absurd (Contains-nil w.0 w.1)

more_by : (n : NodeValue) (cards : List ℕ) (card : ℕ) (v : Vector) → ByLastMove n cards v → ByLastMove n (cards ++ card ∷ []) v
more_by n cards card v (inl a) = inl a
more_by n cards card v (inr w) = inr (w.0, Contains-append_first cards (card ∷ []) w.0 w.1, w.2)

-- by a card of the first ones, or by the last
one_of : (n : NodeValue) (cards : List ℕ) (card : ℕ) (v : Vector) → AssuredByCard bridge is_sure_node n 0 (cards ++ card ∷ []) v
    → AssuredByCard bridge is_sure_node n 0 cards v ⊎ IsAssured bridge is_sure_node (child n card) 0 v
one_of n cards card v w = ⊎_elim
    (λ (l : Contains cards w.0). inl (w.0, l, w.2))
    (λ (l : Contains (card ∷ []) w.0). inr (subst (λ c. IsAssured bridge is_sure_node (child n c) 0 v) (sym (Contains-single card w.0 l)) w.2))
    (Contains-append cards (card ∷ []) w.0 w.1)

module _ {n : NodeValue} {card : ℕ} {cards rest : List ℕ} {front : FrontValue} (left : LastLeft n cards front) (first : cards ≡ card ∷ rest) where
  pub all_are : choices n ≡ left.earlier ++ card ∷ rest
  all_are = left.are ∙ ap (λ cards. left.earlier ++ cards) first

  pub last_choice : Contains (choices n) card
  last_choice = member (choices n) left.earlier rest card all_are

  one_more : (next : FrontValue) → next.width ≡ front.width → IsFrontOf (ByLastMove n (left.earlier ++ card ∷ [])) next.vectors → LastLeft n rest next
  one_more next width is = record {
    earlier = left.earlier ++ card ∷ [];
    are = all_are ∙ sym (append_assoc left.earlier (card ∷ []) rest);
    width = width ∙ left.width;
    so_far = is;
  }

  -- declarer's side claims after the card
  pub last_claimed : (won next : FrontValue) → IsAssuredAt (child n card) 0 won → next.width ≡ front.width → IsReduced (front.vectors ++ won.vectors) next.vectors → LastLeft n rest next
  last_claimed won next found width reduced = one_more next width (front_grows (Contains (front.vectors ++ won.vectors)) (ByLastMove n (left.earlier ++ card ∷ [])) next.vectors within above reduced)
    where
      within : (v : Vector) → Contains (front.vectors ++ won.vectors) v → ByLastMove n (left.earlier ++ card ∷ []) v
      within v k = ⊎_elim
          (λ (l : Contains front.vectors v). more_by n left.earlier card v (left.so_far.reached v l))
          (λ (l : Contains won.vectors v). inr (card, Contains-append_second left.earlier (card ∷ []) card (Contains-here card []), found.front.reached v l))
          (Contains-append front.vectors won.vectors v k)

      earlier_one : (v : Vector) → ByLastMove n left.earlier v → (u : Vector) × Contains (front.vectors ++ won.vectors) u × Dominates u v
      earlier_one v by = let u = left.so_far.covered v by in (u.0, Contains-append_first front.vectors won.vectors u.0 u.1, u.2)

      above : (v : Vector) → ByLastMove n (left.earlier ++ card ∷ []) v → (u : Vector) × Contains (front.vectors ++ won.vectors) u × Dominates u v
      above v (inl a) = earlier_one v (inl a)
      above v (inr w) = ⊎_elim
          (λ (by : AssuredByCard bridge is_sure_node n 0 left.earlier v). earlier_one v (inr by))
          (λ (a : IsAssured bridge is_sure_node (child n card) 0 v). let u = found.front.covered v a in (u.0, Contains-append_second front.vectors won.vectors u.0 u.1, u.2))
          (one_of n left.earlier card v w)

  -- it goes on after the card
  pub last_open : IsNode n → is_declarers (to_play n.position) ≡ true → AllMade n → claims (child n card) ≡ false → LastLeft n rest front
  last_open sound ours made off = one_more front refl (front_same (ByLastMove n left.earlier) (ByLastMove n (left.earlier ++ card ∷ [])) front.vectors (more_by n left.earlier card) back left.so_far)
    where
      back : (v : Vector) → ByLastMove n (left.earlier ++ card ∷ []) v → ByLastMove n left.earlier v
      back v (inl a) = inl a
      back v (inr w) = ⊎_elim
          (λ (by : AssuredByCard bridge is_sure_node n 0 left.earlier v). inr by)
          (λ (a : IsAssured bridge is_sure_node (child n card) 0 v). inl (before n sound ours card made last_choice off v a.0 a.1 a.2))
          (one_of n left.earlier card v w)

-- after all cards
pub last_all : {n : NodeValue} {cards : List ℕ} {front : FrontValue} (left : LastLeft n cards front) → IsNode n → claims n ≡ false → is_declarers (to_play n.position) ≡ true → cards ≡ [] → IsAssuredAt n 1 front
last_all {n} {cards} {front} left sound off ours none =
    let on = goes_on n off in
    let all : left.earlier ≡ choices n = sym (left.are ∙ ap (λ cards. left.earlier ++ cards) none ∙ append-nil left.earlier) in
    record {
      front = steps.all_cards n 0 front.vectors sound on.0 on.1 ours
          (front_same (ByLastMove n (choices n)) (AssuredByCard bridge is_sure_node n 0 (choices n)) front.vectors by (λ v w. inr w)
          (subst (λ cards. IsFrontOf (ByLastMove n cards) front.vectors) all left.so_far));
      width = left.width;
    }
  where
    by : (v : Vector) → ByLastMove n (choices n) v → AssuredByCard bridge is_sure_node n 0 (choices n) v
    by v (inl a) = let more = bracketed.rises n 0 1 v sound a in by_card n sound ours off v more.0 more.1 more.2
    by v (inr w) = w
