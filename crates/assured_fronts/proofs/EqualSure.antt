-- A position is sure where its twin is, in which two equal cards exchange their names.
use Rattle.std.proofs.Common.{◌≡◌, ◌≢◌, ◌∙◌, ◌+◌, ◌<◌, ◌≤◌, ◌==◌, ℕ, Bool, true, false, not, ◌&&◌, ◌||◌, if◌then◌else◌, nat_lt, min, List, [], ◌∷◌, filter, length, Contains, refl, sym, ap, ap₂, subst, inl, inr, ⊎_elim, arith}
use Rattle.std.specs.List.{list_all}
use Rattle.std.proofs.lemmas.Bool.{false≢true, cases_Bool, cases_eq, cases_lt, lt-ltb, le-ltb, and_parts, and_from, false_from_ne_true}
use Rattle.card_sets.specs.declared.card.Suit.{Suit}
use Rattle.card_sets.specs.declared.card.Suit.TheVariants.{Spades, Hearts, Diamonds, Clubs}
use Rattle.card_sets.specs.declared.seat.Seat.{Seat}
use Rattle.card_sets.specs.declared.seat.Seat.TheVariants.{Declarer, Left, Dummy, Right}
use Rattle.card_sets.specs.Cards.{suit_of, same_suit}
use Rattle.card_sets.specs.SetWords.{has_card, IsCardSet}
use Rattle.card_sets.proofs.Sets.{has_card-filter, IsCardSet-filter, same_set}
use Rattle.trick_rules.specs.declared.trump.Trump.{Trump}
use Rattle.trick_rules.specs.declared.trump.Trump.TheVariants.{NoTrump, Suit as Suited}
use Rattle.trick_rules.specs.Positions.{State, seat_after, to_play}
use Rattle.trick_rules.specs.Play.{of_suit, held_by, is_declarers, is_trump}
use Rattle.trick_rules.specs.Nodes.{NodeValue, IsNode, states}
use Rattle.double_dummy.proofs.Swap.{swap, swap-swap, swap-second, swap-other, swap-suit}
use Rattle.double_dummy.proofs.Mirror.{Renamed, renamed_back, turn-mirrored, count-mirrored, in_play-held}
use Rattle.dd_solver.proofs.MovedUp.{move_card, up-IsCardSet, up-renamed, up-length}
use Rattle.equal_cards.proofs.Twins.{AreTwins}
use Rattle.equal_cards.proofs.TwinNodes.{TwinNodes}
use Rattle.strategy_games.proofs.Lists.{Contains-nil, Contains-cons, AllZip-at}
use Rattle.strategy_tree.proofs.CardLists.{has_card-from_Contains, Contains-from_has_card, all_from}
use Rattle.strategy_tree.proofs.Rules.{table_of}
use Rattle.sure_tricks.specs.Sure.{high_count, top_count, trumps_of, is_suit}
use Rattle.sure_nodes.specs.SureNodes.{own, partners, tops_in, drawn, none_ruffs, sure_tops, is_sure, is_sure_node}
use Rattle.sure_nodes.proofs.Cashed.{some_state}

-- two tests with one answer
pub same_answer : (x y : Bool) → (x ≡ true → y ≡ true) → (y ≡ true → x ≡ true) → x ≡ y
same_answer true y to from = sym (to refl)
same_answer false true to from = from refl
same_answer false false to from = refl

-- a test that each item passes
all_of : (p : ℕ → Bool) (xs : List ℕ) → list_all p xs ≡ true → (x : ℕ) → Contains xs x → p x ≡ true
all_of p [] all x k = absurd (Contains-nil x k)
all_of p (y ∷ xs) all x k =
    let both = and_parts (p y) (list_all p xs) all in
    ⊎_elim (λ (same : y ≡ x). subst (λ z. p z ≡ true) same both.0) (λ (later : Contains xs x). all_of p xs both.1 x later) (Contains-cons y xs x k)

-- a hand without card a, and the hand in which that is the name of card b; no card of it lies between the two
pub record AreRenamed (a b : ℕ) (xs ys : List ℕ) : Type 0 where
  pub set : IsCardSet xs
  pub other_set : IsCardSet ys
  pub gone : has_card xs a ≡ false
  pub none : (c : ℕ) → has_card xs c ≡ true → a < c → c < b → ⊥
  pub renamed : Renamed a b xs ys

-- a card of such a hand
abbrev IsApart : ℕ → ℕ → ℕ → Type 0
IsApart a b c = (c ≢ a) × (a < c → c < b → ⊥)

apart : (a b : ℕ) (xs ys : List ℕ) → AreRenamed a b xs ys → (c : ℕ) → has_card xs c ≡ true → IsApart a b c
apart a b xs ys r c k = ((λ same. false≢true (sym r.gone ∙ ap (has_card xs) (sym same) ∙ k)), r.none c k)

-- whether a card is higher than each of some cards
abbrev above : List ℕ → ℕ → Bool
above theirs c = list_all (λ d. nat_lt d c) theirs

module _ (a b : ℕ) (suit : suit_of a ≡ suit_of b) (order : a < b) (low : b < 52) where
  -- there are as many cards
  as_many : (xs ys : List ℕ) → AreRenamed a b xs ys → length ys ≡ length xs
  as_many xs ys r =
      let free : has_card ys b ≡ false = r.renamed b ∙ ap (has_card xs) (swap-second a b) ∙ r.gone in
      let back : Renamed a b ys xs = λ c. sym (renamed_back a b xs ys r.renamed c) in
      let same : xs ≡ move_card a b ys =
      same_set xs (move_card a b ys) r.set (up-IsCardSet a b order low ys r.other_set free) (λ c under. back c ∙ sym (up-renamed a b order low ys r.other_set free c)) in
      sym (ap (λ (cards : List ℕ). length cards) same ∙ up-length a b order low ys r.other_set free)

  -- those that pass a test
  part : (p q : ℕ → Bool) (xs ys : List ℕ) → AreRenamed a b xs ys → ((c : ℕ) → has_card xs c ≡ true → q (swap a b c) ≡ p c) → AreRenamed a b (filter p xs) (filter q ys)
  part p q xs ys r same = record {
    set = IsCardSet-filter p xs r.set;
    other_set = IsCardSet-filter q ys r.other_set;
    gone = has_card-filter p xs a ∙ ap (λ (k : Bool). k && p a) r.gone;
    none = λ c k. r.none c (and_parts (has_card xs c) (p c) (sym (has_card-filter p xs c) ∙ k)).0;
    renamed = λ c. has_card-filter q ys c ∙ each c ∙ sym (has_card-filter p xs (swap a b c));
  }
    where
      each : (c : ℕ) → (has_card ys c && q c) ≡ (has_card xs (swap a b c) && p (swap a b c))
      each c = ⊎_elim
          (λ (k : has_card xs (swap a b c) ≡ true). ap₂ (λ (x y : Bool). x && y) (r.renamed c) (ap q (sym (swap-swap a b c)) ∙ same (swap a b c) k))
          (λ (k : has_card xs (swap a b c) ≡ false). ap (λ (x : Bool). x && q c) (r.renamed c ∙ k) ∙ sym (ap (λ (x : Bool). x && p (swap a b c)) k))
          (cases_Bool (has_card xs (swap a b c)))

  of_the_suit : (u : Suit) (xs ys : List ℕ) → AreRenamed a b xs ys → AreRenamed a b (of_suit u xs) (of_suit u ys)
  of_the_suit u xs ys r = part (λ c. same_suit (suit_of c) u) (λ c. same_suit (suit_of c) u) xs ys r (λ c k. ap (λ (v : Suit). same_suit v u) (swap-suit a b suit c))

  same_trump : (trump : Trump) (c : ℕ) → is_trump trump (swap a b c) ≡ is_trump trump c
  same_trump NoTrump c = refl
  same_trump (Suited u) c = ap (λ (v : Suit). same_suit v u) (swap-suit a b suit c)

  of_trumps : (trump : Trump) (xs ys : List ℕ) → AreRenamed a b xs ys → AreRenamed a b (trumps_of trump xs) (trumps_of trump ys)
  of_trumps trump xs ys r = part (is_trump trump) (is_trump trump) xs ys r (λ c k. same_trump trump c)

  -- ---- which of two cards is higher

  past_both : (c : ℕ) → IsApart a b c → c ≢ b → nat_lt a c ≡ nat_lt b c
  past_both c is other = ⊎_elim
      (λ (l : a < c). ⊎_elim
      (λ (m : b < c). lt-ltb a c l ∙ sym (lt-ltb b c m))
      (λ (g : c ≤ b). absurd (is.1 l (omega arith)))
      (cases_lt b c))
      (λ (g : c ≤ a). le-ltb a c g ∙ sym (le-ltb b c (omega arith)))
      (cases_lt a c)

  before_both : (c : ℕ) → IsApart a b c → c ≢ b → nat_lt c a ≡ nat_lt c b
  before_both c is other = ⊎_elim
      (λ (l : c < a). lt-ltb c a l ∙ sym (lt-ltb c b (omega arith)))
      (λ (g : a ≤ c). ⊎_elim
      (λ (m : c < b). (let differs = is.0 in let between : a < c = omega arith in absurd (is.1 between m)))
      (λ (h : b ≤ c). le-ltb c a g ∙ sym (le-ltb c b h))
      (cases_lt c b))
      (cases_lt c a)

  in_order : (d c : ℕ) → IsApart a b d → IsApart a b c → nat_lt (swap a b d) (swap a b c) ≡ nat_lt d c
  in_order d c at_d at_c =
      elim (cases_eq d b) as (λ _. nat_lt (swap a b d) (swap a b c) ≡ nat_lt d c) [
        | inl is_d ↦ elim (cases_eq c b) as (λ _. nat_lt (swap a b d) (swap a b c) ≡ nat_lt d c) [
          | inl is_c ↦
              ap (λ (x : ℕ). nat_lt (swap a b x) (swap a b c)) (is_d ∙ sym is_c) ∙ le-ltb (swap a b c) (swap a b c) (omega arith)
              ∙ sym (ap (λ (x : ℕ). nat_lt x c) (is_d ∙ sym is_c) ∙ le-ltb c c (omega arith))
          | inr other ↦
              ap₂ nat_lt (ap (swap a b) is_d ∙ swap-second a b) (swap-other a b c at_c.0 other)
              ∙ past_both c at_c other ∙ ap (λ (x : ℕ). nat_lt x c) (sym is_d)
        ]
        | inr other ↦ elim (cases_eq c b) as (λ _. nat_lt (swap a b d) (swap a b c) ≡ nat_lt d c) [
          | inl is_c ↦
              ap₂ nat_lt (swap-other a b d at_d.0 other) (ap (swap a b) is_c ∙ swap-second a b)
              ∙ before_both d at_d other ∙ ap (λ (x : ℕ). nat_lt d x) (sym is_c)
          | inr either ↦ ap₂ nat_lt (swap-other a b d at_d.0 other) (swap-other a b c at_c.0 either)
        ]
      ]

  same_above : (ts us : List ℕ) → AreRenamed a b ts us → (c : ℕ) → IsApart a b c → above us (swap a b c) ≡ above ts c
  same_above ts us r c at = same_answer (above us (swap a b c)) (above ts c)
      (λ all. all_from (λ d. nat_lt d c) ts (λ d k.
      let h = has_card-from_Contains ts d k in
      sym (in_order d c (apart a b ts us r d h) at)
      ∙ all_of (λ e. nat_lt e (swap a b c)) us all (swap a b d) (Contains-from_has_card us (swap a b d) (renamed_back a b ts us r.renamed d ∙ h))))
      (λ all. all_from (λ d. nat_lt d (swap a b c)) us (λ d k.
      let h : has_card ts (swap a b d) ≡ true = sym (r.renamed d) ∙ has_card-from_Contains us d k in
      ap (λ (x : ℕ). nat_lt x (swap a b c)) (sym (swap-swap a b d))
      ∙ in_order (swap a b d) c (apart a b ts us r (swap a b d) h) at
      ∙ all_of (λ e. nat_lt e c) ts all (swap a b d) (Contains-from_has_card ts (swap a b d) h)))

  -- ---- how many are high

  abbrev count : ℕ → ℕ → ℕ → ℕ
  count tops theirs all = if nat_lt tops theirs then tops else all

  same_high : (xs ys ts us : List ℕ) → AreRenamed a b xs ys → AreRenamed a b ts us → high_count ys us ≡ high_count xs ts
  same_high xs ys ts us r q =
      let tops : top_count ys us ≡ top_count xs ts =
      as_many (filter (above ts) xs) (filter (above us) ys) (part (above ts) (above us) xs ys r (λ c k. same_above ts us q c (apart a b xs ys r c k))) in
      ap (λ (n : ℕ). count n (length us) (length ys)) tops
      ∙ ap (λ (n : ℕ). count (top_count xs ts) n (length ys)) (as_many ts us q)
      ∙ ap (λ (n : ℕ). count (top_count xs ts) (length ts) n) (as_many xs ys r)

  -- ---- two states that are twins

  module _ (s m : State) (t : AreTwins a b s m) where
    none_between : (seat : Seat) (c : ℕ) → has_card (held_by s.position seat) c ≡ true → a < c → c < b → ⊥
    none_between seat c k over under = false≢true (sym (t.follows.none c over under) ∙ in_play-held s.position seat c k)

    none_unseen : has_card s.position.unseen a ≡ false
    none_unseen = false_from_ne_true (has_card s.position.unseen a) (λ k.
        false≢true (sym (t.follows.gone Right) ∙ has_card-filter (λ d. not (has_card s.left d)) s.position.unseen a
        ∙ and_from (has_card s.position.unseen a) (not (has_card s.left a)) k (ap not (t.follows.gone Left))))

    unseen : AreRenamed a b s.position.unseen m.position.unseen
    unseen = record { set = t.state.sound.unseen_set; other_set = t.twin.sound.unseen_set; gone = none_unseen; none = none_between Left; renamed = t.mirrored.unseen }

    held : (seat : Seat) → AreRenamed a b (held_by s.position seat) (held_by m.position seat)
    held Declarer = record { set = t.state.sound.declarer_set; other_set = t.twin.sound.declarer_set; gone = t.follows.gone Declarer; none = none_between Declarer; renamed = t.mirrored.declarer }
    held Dummy = record { set = t.state.sound.dummy_set; other_set = t.twin.sound.dummy_set; gone = t.follows.gone Dummy; none = none_between Dummy; renamed = t.mirrored.dummy }
    held Left = unseen
    held Right = unseen

    turn : to_play m.position ≡ to_play s.position
    turn = turn-mirrored a b s m t.mirrored

    mine : AreRenamed a b (own s.position) (own m.position)
    mine = subst (λ (seat : Seat). AreRenamed a b (own s.position) (held_by m.position seat)) (sym turn) (held (to_play s.position))

    his : AreRenamed a b (partners s.position) (partners m.position)
    his = subst (λ (seat : Seat). AreRenamed a b (partners s.position) (held_by m.position (seat_after 2 seat))) (sym turn) (held (seat_after 2 (to_play s.position)))

    same_tops : (u : Suit) → tops_in m.position u ≡ tops_in s.position u
    same_tops u =
        let ours = of_the_suit u (own s.position) (own m.position) mine in
        ap₂ min
        (same_high (of_suit u (own s.position)) (of_suit u (own m.position)) (of_suit u (partners s.position)) (of_suit u (partners m.position)) ours (of_the_suit u (partners s.position) (partners m.position) his))
        (same_high (of_suit u (own s.position)) (of_suit u (own m.position)) (of_suit u s.position.unseen) (of_suit u m.position.unseen) ours (of_the_suit u s.position.unseen m.position.unseen unseen))

    drawn_with : (trump : Trump) → drawn m.position trump ≡ drawn s.position trump
    drawn_with NoTrump = refl
    drawn_with (Suited u) = same_tops u

    same_drawn : drawn m.position m.position.trump ≡ drawn s.position s.position.trump
    same_drawn = ap (drawn m.position) t.mirrored.trump ∙ drawn_with s.position.trump

    -- as many trumps
    trumps : (xs ys : List ℕ) → AreRenamed a b xs ys → length (trumps_of m.position.trump ys) ≡ length (trumps_of s.position.trump xs)
    trumps xs ys r = ap (λ (k : Trump). length (trumps_of k ys)) t.mirrored.trump ∙ as_many (trumps_of s.position.trump xs) (trumps_of s.position.trump ys) (of_trumps s.position.trump xs ys r)

    same_ruffs : none_ruffs m.position ≡ none_ruffs s.position
    same_ruffs = ap₂ (λ (x y : Bool). not x && not y)
        (ap₂ nat_lt same_drawn (trumps (partners s.position) (partners m.position) his))
        (ap₂ nat_lt same_drawn (trumps s.position.unseen m.position.unseen unseen))

    same_tops_of : (u : Suit) → sure_tops m.position u ≡ sure_tops s.position u
    same_tops_of u = ap₂ (λ (k : Bool) (n : ℕ). if k then n else 0)
        (ap₂ (λ (x y : Bool). x || y) (ap (λ (k : Trump). is_suit k u) t.mirrored.trump) same_ruffs) (same_tops u)

    pub twins-sure : is_sure m.position ≡ is_sure s.position
    twins-sure =
        let plus : ℕ → ℕ → ℕ = λ x y. x + y in
        let tops = ap₂ plus (ap₂ plus (ap₂ plus (same_tops_of Spades) (same_tops_of Hearts)) (same_tops_of Diamonds)) (same_tops_of Clubs) in
        ap₂ (λ (x y : Bool). x && y)
        (ap₂ (λ (x y : Bool). x && y) (ap is_declarers turn) (ap (λ (n : ℕ). n == 0) (count-mirrored a b s m t.mirrored)))
        (ap not (ap₂ nat_lt tops t.mirrored.need))

  pub nodes-sure : (n o : NodeValue) → IsNode n → TwinNodes a b n o → is_sure_node n ≡ is_sure_node o
  nodes-sure n o sound r =
      let first = some_state n sound in
      let twin = AllZip-at (AreTwins a b) (states n) (states o) r first.0 first.1 in
      ap is_sure (sym (table_of n first.0 first.1)) ∙ sym (twins-sure first.0 twin.0 twin.2) ∙ ap is_sure (table_of o twin.0 twin.1)
