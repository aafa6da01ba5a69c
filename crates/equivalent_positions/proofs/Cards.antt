-- Cards played in alike states.
use Rattle.std.proofs.Common.{◌≡◌, ℕ, ◌+◌, ◌-◌, ◌<◌, Bool, true, false, not, ◌&&◌, eqb, cond, List, [], ◌∷◌, ◌++◌, length, filter, get_or, refl, sym, ap, ap₂, subst, ◌∙◌, inl, inr, arith}
use Rattle.std.proofs.lemmas.Bool.{both_ways, cases_Bool, cases_eq, cases_lt, ne_eqb, and_parts, not-true}
use Rattle.std.proofs.lemmas.List.{length_push}
use Rattle.std.proofs.lemmas.List.Filters.{length-filter_both}
use Rattle.std.proofs.Math.ListN.{get_or-append}
use Rattle.std.proofs.Math.Seq.{get_or-append_seam}
use Rattle.card_sets.specs.declared.card.Suit.{Suit}
use Rattle.card_sets.specs.declared.seat.Seat.{Seat}
use Rattle.card_sets.specs.Cards.{suit_of, same_suit}
use Rattle.card_sets.specs.SetWords.{has_card, IsCardSet}
use Rattle.card_sets.proofs.Sets.{has_card-filter, IsCardSet-filter, same_set}
use Rattle.card_sets.proofs.SetCounts.{has_card-length, some_card}
use Rattle.card_sets.proofs.Suits.{same_suit-true, same_suit-refl}
use Rattle.trick_rules.specs.declared.trump.Trump.{Trump}
use Rattle.trick_rules.specs.Positions.{PositionValue, State, to_play, IsState}
use Rattle.trick_rules.specs.Play.{of_suit, or_whole, legal_cards, legal_in, hand_of, take_out, put_card, end_trick, after_card, after, winner_of, is_declarers}
use Rattle.trick_rules.proofs.CardLists.{has_card-take_out}
use Rattle.trick_rules.proofs.Soundness.{with_card, with_card-low, with_card-differ, after_short, after_third}
use Rattle.trick_rules.proofs.States.{legal_cards-low, legal_can_play}
use Rattle.sure_tricks.proofs.Counting.{count_in, count_out}
use Rattle.sure_tricks.proofs.Hands.{seat_cases, hand_after, hand_stays, hand_set}
use Rattle.equivalent_positions.specs.Alike.{IsClosedUp, IsLike, AreAlike, SettlesEnd}
use Rattle.equivalent_positions.proofs.Likes.{like_suit, alike_turn}
use Rattle.equivalent_positions.proofs.Trick.{winner_alike}

-- ---- a card that is like one

-- of a suit the two hands have as many cards that don't count
like_out : (counting xs ys : List ℕ) → IsCardSet xs → IsCardSet ys → ((c : ℕ) → has_card counting c ≡ true → has_card xs c ≡ has_card ys c)
    → ((suit : Suit) → length (of_suit suit xs) ≡ length (of_suit suit ys)) → (c : ℕ) → has_card xs c ≡ true → has_card counting c ≡ false
    → (d : ℕ) × (has_card ys d ≡ true) × IsLike counting c d
like_out counting xs ys x_set y_set same lengths c held out =
    let suit = suit_of c in
    let of_x = of_suit suit xs in
    let of_y = of_suit suit ys in
    let counts = λ (x : ℕ). has_card counting x in
    let rest = λ (x : ℕ). not (has_card counting x) in
    let both_x : length (filter counts of_x) + length (filter rest of_x) ≡ length of_x = length-filter_both counts rest (λ x. refl) of_x in
    let both_y : length (filter counts of_y) + length (filter rest of_y) ≡ length of_y = length-filter_both counts rest (λ x. refl) of_y in
    let kept : filter counts of_x ≡ filter counts of_y =
    same_set (filter counts of_x) (filter counts of_y)
    (IsCardSet-filter counts of_x (IsCardSet-filter (λ x. same_suit (suit_of x) suit) xs x_set))
    (IsCardSet-filter counts of_y (IsCardSet-filter (λ x. same_suit (suit_of x) suit) ys y_set))
    (λ x low. has_card-filter counts of_x x ∙ agree x (has_card counting x) refl ∙ sym (has_card-filter counts of_y x)) in
    let some : 0 < length (filter rest of_x) = has_card-length (filter rest of_x) c
    (has_card-filter rest of_x c ∙ rw (has_card-filter (λ x. same_suit (suit_of x) suit) xs c, held, same_suit-refl (suit_of c), out) refl) in
    let as_many = ap (length {A = ℕ}) kept in
    let found : (d : ℕ) × (has_card (filter rest of_y) d ≡ true) = some_card (filter rest of_y) (omega (arith, both_x, both_y, as_many, lengths suit, some)) in
    let d = found.0 in
    let parts = and_parts (has_card of_y d) (not (has_card counting d)) (sym (has_card-filter rest of_y d) ∙ found.1) in
    let inside = and_parts (has_card ys d) (same_suit (suit_of d) suit) (sym (has_card-filter (λ x. same_suit (suit_of x) suit) ys d) ∙ parts.0) in
    (d, inside.0, inr (out, not-true (has_card counting d) parts.1, sym (same_suit-true (suit_of d) suit inside.1)))
  where
    none : (a : Bool) → (a && false) ≡ false
    none true = refl
    none false = refl

    agree : (x : ℕ) (b : Bool) → has_card counting x ≡ b → (has_card (of_suit (suit_of c) xs) x && b) ≡ (has_card (of_suit (suit_of c) ys) x && b)
    agree x true e =
        ap (λ b. b && true) (has_card-filter (λ y. same_suit (suit_of y) (suit_of c)) xs x ∙ ap (λ b. b && same_suit (suit_of x) (suit_of c)) (same x e)
        ∙ sym (has_card-filter (λ y. same_suit (suit_of y) (suit_of c)) ys x))
    agree x false e = none (has_card (of_suit (suit_of c) xs) x) ∙ sym (none (has_card (of_suit (suit_of c) ys) x))

pub like_held : (counting xs ys : List ℕ) → IsCardSet xs → IsCardSet ys → ((c : ℕ) → has_card counting c ≡ true → has_card xs c ≡ has_card ys c)
    → ((suit : Suit) → length (of_suit suit xs) ≡ length (of_suit suit ys)) → (c : ℕ) → has_card xs c ≡ true
    → (d : ℕ) × (has_card ys d ≡ true) × IsLike counting c d
like_held counting xs ys x_set y_set same lengths c held =
    elim (cases_Bool (has_card counting c)) as (λ _. (d : ℕ) × (has_card ys d ≡ true) × IsLike counting c d) [
      | inl counts ↦ (c, sym (same c counts) ∙ held, inl refl)
      | inr out ↦ like_out counting xs ys x_set y_set same lengths c held out
    ]

-- ---- legal cards

suit_kept : (suit : Suit) (old new : List ℕ) → length (of_suit suit old) ≡ length (of_suit suit new) → (c d : ℕ) → suit_of c ≡ suit_of d
    → has_card (or_whole (of_suit suit old) old) c ≡ true → has_card new d ≡ true → has_card (or_whole (of_suit suit new) new) d ≡ true
suit_kept suit old new same c d kind legal held = go (of_suit suit old) (of_suit suit new) refl refl same legal
  where
    go : (p q : List ℕ) → of_suit suit old ≡ p → of_suit suit new ≡ q → length p ≡ length q → has_card (or_whole p old) c ≡ true → has_card (or_whole q new) d ≡ true
    go p [] e f n h = held
    go [] (y ∷ ys) e f n h = absurd (omega arith)
    go (x ∷ xs) (y ∷ ys) e f n h =
        let both = and_parts (has_card old c) (same_suit (suit_of c) suit) (sym (has_card-filter (λ z. same_suit (suit_of z) suit) old c) ∙ ap (λ (l : List ℕ). has_card l c) e ∙ h) in
        let suited : same_suit (suit_of d) suit ≡ true = ap (λ z. same_suit z suit) (sym kind) ∙ both.1 in
        sym (ap (λ (l : List ℕ). has_card l d) f) ∙ has_card-filter (λ z. same_suit (suit_of z) suit) new d ∙ rw (held, suited) refl

legal_kept : (trick other : List ℕ) → length trick ≡ length other → (0 < length trick → suit_of (get_or trick 0 0) ≡ suit_of (get_or other 0 0)) → (old new : List ℕ)
    → ((suit : Suit) → length (of_suit suit old) ≡ length (of_suit suit new)) → (c d : ℕ) → suit_of c ≡ suit_of d
    → has_card (legal_cards trick old) c ≡ true → has_card new d ≡ true → has_card (legal_cards other new) d ≡ true
legal_kept [] [] n led old new same c d kind legal held = held
legal_kept [] (y ∷ ys) n led old new same c d kind legal held = absurd (omega arith)
legal_kept (x ∷ xs) [] n led old new same c d kind legal held = absurd (omega arith)
legal_kept (x ∷ xs) (y ∷ ys) n led old new same c d kind legal held =
    suit_kept (suit_of y) old new (same (suit_of y)) c d kind (subst (λ s. has_card (or_whole (of_suit s old) old) c ≡ true) (led (omega arith)) legal) held

pub legal_alike : (counting : List ℕ) (s t : State) → AreAlike counting s t → (c d : ℕ) → suit_of c ≡ suit_of d
    → has_card (legal_in s) c ≡ true → has_card (hand_of t (to_play t.position)) d ≡ true → has_card (legal_in t) d ≡ true
legal_alike counting s t a c d kind legal held =
    legal_kept s.position.trick.cards t.position.trick.cards a.played
    (λ some. like_suit counting (get_or s.position.trick.cards 0 0) (get_or t.position.trick.cards 0 0) (a.trick 0 some))
    (hand_of s (to_play s.position)) (hand_of t (to_play t.position))
    (λ suit. (a.hands (to_play s.position)).lengths suit ∙ ap (λ seat. length (of_suit suit (hand_of t seat))) (alike_turn counting s t a)) c d kind legal held

pub legal_held : (s : State) (c : ℕ) → has_card (legal_in s) c ≡ true → has_card (hand_of s (to_play s.position)) c ≡ true
legal_held s c h = legal_cards-low s.position.trick.cards (hand_of s (to_play s.position)) c h

-- for each legal card of the one state there is one of the other that is like it
pub a_like_card_is_legal : (counting : List ℕ) (s t : State) (c : ℕ) → IsState s → IsState t → AreAlike counting s t → has_card (legal_in s) c ≡ true
    → (d : ℕ) × (has_card (legal_in t) d ≡ true) × IsLike counting c d
a_like_card_is_legal counting s t c ok ok' a legal =
    let turn = to_play s.position in
    let found : (d : ℕ) × (has_card (hand_of t turn) d ≡ true) × IsLike counting c d =
    like_held counting (hand_of s turn) (hand_of t turn) (hand_set s ok turn) (hand_set t ok' turn) ((a.hands turn).same) ((a.hands turn).lengths) c (legal_held s c legal) in
    let held : has_card (hand_of t (to_play t.position)) found.0 ≡ true = subst (λ seat. has_card (hand_of t seat) found.0 ≡ true) (alike_turn counting s t a) found.1 in
    (found.0, legal_alike counting s t a c found.0 (like_suit counting c found.0 found.2) legal held, found.2)

-- ---- the hands after two cards that are like each other

like_eqb : (counting : List ℕ) (c d x : ℕ) → has_card counting x ≡ true → IsLike counting c d → eqb x c ≡ eqb x d
like_eqb counting c d x counts h = elim h as (λ _. eqb x c ≡ eqb x d) [
  | inl e ↦ ap (eqb x) e
  | inr e ↦ ne_eqb x c (λ f. both_ways (has_card counting c) e.0 (subst (λ y. has_card counting y ≡ true) f counts))
      ∙ sym (ne_eqb x d (λ f. both_ways (has_card counting d) e.1 (subst (λ y. has_card counting y ≡ true) f counts)))
]

one_fewer : (suit : Suit) (xs ys : List ℕ) (c d : ℕ) → IsCardSet xs → IsCardSet ys → suit_of c ≡ suit_of d → has_card xs c ≡ true → has_card ys d ≡ true
    → length (of_suit suit xs) ≡ length (of_suit suit ys) → length (of_suit suit (take_out c xs)) ≡ length (of_suit suit (take_out d ys))
one_fewer suit xs ys c d x_set y_set kind held held' same =
    let p = λ (x : ℕ). same_suit (suit_of x) suit in
    let other : p d ≡ p c = ap (λ z. same_suit z suit) (sym kind) in
    elim (cases_Bool (p c)) as (λ _. length (of_suit suit (take_out c xs)) ≡ length (of_suit suit (take_out d ys))) [
      | inl e ↦ omega (arith, count_in p xs c x_set held e, count_in p ys d y_set held' (other ∙ e), same)
      | inr e ↦ ap (length {A = ℕ}) (count_out p xs c e) ∙ same ∙ sym (ap (length {A = ℕ}) (count_out p ys d (other ∙ e)))
    ]

module _ (counting : List ℕ) (s t : State) (ok : IsState s) (ok' : IsState t) (a : AreAlike counting s t) (c d : ℕ)
    (legal : has_card (legal_in s) c ≡ true) (legal' : has_card (legal_in t) d ≡ true) (like : IsLike counting c d) where
  hands_after : (seat : Seat) (x : ℕ) → has_card counting x ≡ true → has_card (hand_of (after s c) seat) x ≡ has_card (hand_of (after t d) seat) x
  hands_after seat x counts =
      ap (λ (l : List ℕ). has_card l x) (hand_after s c seat)
      ∙ has_card-take_out c (hand_of s seat) x
      ∙ ap₂ (λ p q. p && not q) ((a.hands seat).same x counts) (like_eqb counting c d x counts like)
      ∙ sym (has_card-take_out d (hand_of t seat) x)
      ∙ sym (ap (λ (l : List ℕ). has_card l x) (hand_after t d seat))

  lengths_after : (seat : Seat) (suit : Suit) → length (of_suit suit (hand_of (after s c) seat)) ≡ length (of_suit suit (hand_of (after t d) seat))
  lengths_after seat suit =
      let held = legal_held s c legal in
      let held' = legal_held t d legal' in
      let turn = alike_turn counting s t a in
      let count = λ (l : List ℕ). length (of_suit suit l) in
      elim (seat_cases seat (to_play s.position)) as (λ _. count (hand_of (after s c) seat) ≡ count (hand_of (after t d) seat)) [
        | inl e ↦ ap count (hand_after s c seat)
            ∙ one_fewer suit (hand_of s seat) (hand_of t seat) c d (hand_set s ok seat) (hand_set t ok' seat) (like_suit counting c d like)
            (subst (λ y. has_card (hand_of s y) c ≡ true) (sym e) held) (subst (λ y. has_card (hand_of t y) d ≡ true) (sym (e ∙ turn)) held') ((a.hands seat).lengths suit)
            ∙ sym (ap count (hand_after t d seat))
        | inr other ↦ ap count (hand_stays s c seat ok held other) ∙ (a.hands seat).lengths suit ∙ sym (ap count (hand_stays t d seat ok' held' (λ e. other (e ∙ sym turn))))
      ]

-- ---- the table after them

record AreLikeTables (counting : List ℕ) (t u : PositionValue) : Type 0 where
  pub leader : t.trick.leader ≡ u.trick.leader
  pub trump : t.trump ≡ u.trump
  pub need : t.need ≡ u.need
  pub played : length t.trick.cards ≡ length u.trick.cards
  pub trick : (place : ℕ) → place < length t.trick.cards → IsLike counting (get_or t.trick.cards place 0) (get_or u.trick.cards place 0)

push_likes : (counting xs ys : List ℕ) (c d : ℕ) → length xs ≡ length ys → ((k : ℕ) → k < length xs → IsLike counting (get_or xs k 0) (get_or ys k 0)) → IsLike counting c d
    → (k : ℕ) → k < length (xs ++ c ∷ []) → IsLike counting (get_or (xs ++ c ∷ []) k 0) (get_or (ys ++ d ∷ []) k 0)
push_likes counting xs ys c d as_many likes like k h =
    elim (cases_lt k (length xs)) as (λ _. IsLike counting (get_or (xs ++ c ∷ []) k 0) (get_or (ys ++ d ∷ []) k 0)) [
      | inl before ↦
          (let first : get_or xs k 0 ≡ get_or (xs ++ c ∷ []) k 0 = sym (get_or-append xs (c ∷ []) 0 k before) in
          let second : get_or ys k 0 ≡ get_or (ys ++ d ∷ []) k 0 = sym (get_or-append ys (d ∷ []) 0 k (omega arith)) in
          subst (λ x. IsLike counting x (get_or (ys ++ d ∷ []) k 0)) first (subst (λ y. IsLike counting (get_or xs k 0) y) second (likes k before)))
      | inr past ↦
          (let at_x : length xs ≡ k = omega (arith, length_push xs c) in
          let at_y : length ys ≡ k = omega (arith, as_many, at_x) in
          let first : c ≡ get_or (xs ++ c ∷ []) k 0 = sym (ap (λ n. get_or (xs ++ c ∷ []) n 0) (sym at_x) ∙ get_or-append_seam xs c [] 0) in
          let second : d ≡ get_or (ys ++ d ∷ []) k 0 = sym (ap (λ n. get_or (ys ++ d ∷ []) n 0) (sym at_y) ∙ get_or-append_seam ys d [] 0) in
          subst (λ x. IsLike counting x (get_or (ys ++ d ∷ []) k 0)) first (subst (λ y. IsLike counting c y) second like))
    ]

module _ (counting : List ℕ) (closed : IsClosedUp counting) (s t : State) (ok : IsState s) (ok' : IsState t) (a : AreAlike counting s t) (c d : ℕ)
    (legal : has_card (legal_in s) c ≡ true) (legal' : has_card (legal_in t) d ≡ true) (like : IsLike counting c d) where
  likes : (k : ℕ) → k < length (with_card s.position c) → IsLike counting (get_or (with_card s.position c) k 0) (get_or (with_card t.position d) k 0)
  likes = push_likes counting s.position.trick.cards t.position.trick.cards c d a.played a.trick like

  as_many : length (with_card s.position c) ≡ length (with_card t.position d)
  as_many = omega (arith, length_push s.position.trick.cards c, length_push t.position.trick.cards d, a.played)

  tables_put : AreLikeTables counting (put_card s.position c) (put_card t.position d)
  tables_put = record {
    leader = a.leader;
    trump = a.trump;
    need = a.need;
    played = as_many;
    trick = likes;
  }

  tables_end : length s.position.trick.cards ≡ 3 → SettlesEnd counting s c → AreLikeTables counting (end_trick (put_card s.position c)) (end_trick (put_card t.position d))
  tables_end third settles =
      let can = legal_can_play s ok c legal in
      let can' = legal_can_play t ok' d legal' in
      let won : winner_of s.position.trump (record { leader = s.position.trick.leader; cards = with_card s.position c })
      ≡ winner_of t.position.trump (record { leader = t.position.trick.leader; cards = with_card t.position d }) =
      winner_alike counting closed s.position.trump (with_card s.position c) (with_card t.position d) as_many likes
      (with_card-low s.position c ok.sound can) (with_card-low t.position d ok'.sound can')
      s.position.trick.leader (omega (arith, length_push s.position.trick.cards c))
      (with_card-differ s.position c ok.sound can) (with_card-differ t.position d ok'.sound can') (settles third)
      ∙ ap₂ (λ (trump : Trump) (leader : Seat). winner_of trump (record { leader = leader; cards = with_card t.position d })) a.trump a.leader in
      record {
        leader = won;
        trump = a.trump;
        need = ap₂ (λ (w : Seat) (n : ℕ). cond (is_declarers w) (n - 1) n) won a.need;
        played = refl;
        trick = λ place h. absurd (omega arith);
      }

  tables_after : SettlesEnd counting s c → AreLikeTables counting (after_card s.position c) (after_card t.position d)
  tables_after settles =
      elim (cases_eq (length s.position.trick.cards) 3) as (λ _. AreLikeTables counting (after_card s.position c) (after_card t.position d)) [
        | inl third ↦
            (let third' : length t.position.trick.cards ≡ 3 = sym a.played ∙ third in
            rw (after_third s.position c third, after_third t.position d third') (tables_end third settles))
        | inr other ↦
            (let short : length s.position.trick.cards < 3 = omega (arith, ok.sound.trick_short, other) in
            let short' : length t.position.trick.cards < 3 = omega (arith, a.played) in
            rw (after_short s.position c short, after_short t.position d short') tables_put)
      ]

  -- cards that are like each other leave alike states
  pub alike_after : SettlesEnd counting s c → AreAlike counting (after s c) (after t d)
  alike_after settles =
      let tables = tables_after settles in
      record {
        leader = tables.leader;
        trump = tables.trump;
        need = tables.need;
        played = tables.played;
        trick = tables.trick;
        hands = λ seat. record {
          same = hands_after counting s t ok ok' a c d legal legal' like seat;
          lengths = lengths_after counting s t ok ok' a c d legal legal' like seat;
        };
      }
