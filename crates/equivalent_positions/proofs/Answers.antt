-- What double dummy says of alike states.
use Rattle.std.proofs.Common.{◌≡◌, ◌⊎◌, ℕ, ◌+◌, ◌<◌, ◌≤◌, Bool, true, false, List, [], length, min, Some, refl, sym, ap, subst, ◌∙◌, inl, inr, arith}
use Rattle.std.proofs.lemmas.Bool.{cases_Bool, ne_eqb}
use Rattle.std.proofs.lemmas.List.{nil_from_length}
use Rattle.card_sets.specs.declared.card.Suit.{Suit}
use Rattle.card_sets.specs.declared.seat.Seat.{Seat}
use Rattle.card_sets.specs.Cards.{suit_of, same_suit}
use Rattle.card_sets.specs.SetWords.{has_card, IsSubset}
use Rattle.card_sets.proofs.Sets.{has_card-below, filter-none}
use Rattle.card_sets.proofs.SetCounts.{has_card-length}
use Rattle.card_sets.proofs.Suits.{same_suit-true}
use Rattle.trick_rules.specs.declared.trump.Trump.{Trump}
use Rattle.trick_rules.specs.declared.trump.Trump.TheVariants.{NoTrump, Suit as Suited}
use Rattle.trick_rules.specs.Positions.{State, seat_after, to_play, tricks_left, IsState}
use Rattle.trick_rules.specs.Play.{of_suit, is_declarers, is_over, is_trump, decided, hand_of, legal_in, after, makes}
use Rattle.trick_rules.proofs.States.{after-IsState, hand_length}
use Rattle.trick_rules.proofs.PlayLaws.{makes_where_decided}
use Rattle.sure_tricks.specs.Sure.{above, trumps_of, AreHigh, AreSafe, AreSure, AreTopTrumps}
use Rattle.sure_tricks.proofs.Holding.{two_trumps}
use Rattle.sure_tricks.proofs.Hands.{by_card, by_each, hand_set}
use Rattle.sure_tricks.proofs.Cash.{our_sure_cards_win, their_sure_cards_win}
use Rattle.sure_tricks.proofs.Together.{our_cards_win_together, their_cards_win_together}
use Rattle.sure_tricks.proofs.TopTrumps.{our_top_trumps_win, their_top_trumps_win}
use Rattle.equivalent_positions.specs.Alike.{IsClosedUp, IsLike, AreAlike, HasAnswer, GivesAnswer}
use Rattle.equivalent_positions.proofs.Likes.{like_suit, like_back, like_on, like_less, below_counting, alike_back, alike_on, alike_less, alike_turn, alike_tricks, alike_decided, alike_over}
use Rattle.equivalent_positions.proofs.Cards.{legal_held, like_held, a_like_card_is_legal, alike_after}

-- ---- answers passed on

pub a_decided_state_answers : (counting : List ℕ) (s : State) (made : Bool) → decided s.position ≡ Some made → HasAnswer counting s made
a_decided_state_answers counting s made h = λ t ok a. makes_where_decided t made ok (sym (alike_decided counting s t a) ∙ h)

pub an_alike_state_answers : (counting : List ℕ) (s t : State) (made : Bool) → AreAlike counting s t → HasAnswer counting s made → HasAnswer counting t made
an_alike_state_answers counting s t made a answer = λ u ok b. answer u ok (alike_on counting s t u a b)

pub more_cards_answer : (part counting : List ℕ) (s : State) (made : Bool) → IsSubset part counting → HasAnswer part s made → HasAnswer counting s made
more_cards_answer part counting s made within answer = λ t ok a. answer t ok (alike_less part counting s t within a)

-- a like card gives the answer, by more cards too
gives_the_answer : (part counting : List ℕ) (s : State) (card other : ℕ) (made : Bool) → IsSubset part counting → IsLike part card other → GivesAnswer part s card made → GivesAnswer counting s other made
gives_the_answer part counting s card other made within like g = record {
  part = g.part;
  within = λ c h. within c (g.within c h);
  closed = g.closed;
  tried = g.tried;
  legal = g.legal;
  like = like_on g.part g.tried card other g.like (like_less g.part part card other g.within like);
  settles = g.settles;
  answer = g.answer;
}

pub more_cards_give_the_answer : (part counting : List ℕ) (s : State) (card : ℕ) (made : Bool) → IsSubset part counting → GivesAnswer part s card made → GivesAnswer counting s card made
more_cards_give_the_answer part counting s card made within = gives_the_answer part counting s card card made within (inl refl)

pub like_cards_give_the_answer : (counting : List ℕ) (s : State) (card other : ℕ) (made : Bool) → IsLike counting card other → GivesAnswer counting s card made → GivesAnswer counting s other made
like_cards_give_the_answer counting s card other made = gives_the_answer counting counting s card other made (λ c h. h)

-- ---- answers from those after a card

-- where there is a legal card the play isn't over
pub going : (s : State) (c : ℕ) → IsState s → has_card (legal_in s) c ≡ true → is_over s.position ≡ false
going s c ok legal =
    let some = has_card-length (hand_of s (to_play s.position)) c (legal_held s c legal) in
    let hand = hand_length s ok (to_play s.position) in
    ne_eqb (tricks_left s.position) 0 (λ e. omega arith)

-- a card that is like one which gives an answer comes to that answer
pub like_cards_answer : (counting : List ℕ) (s t : State) (made : Bool) (c d : ℕ) → IsState s → IsState t → AreAlike counting s t
    → has_card (legal_in t) d ≡ true → IsLike counting c d → GivesAnswer counting s c made → makes (after t d) ≡ made
like_cards_answer counting s t made c d ok ok' a legal' like g =
    g.answer (after t d) (after-IsState t ok' d legal')
    (alike_after g.part g.closed s t ok ok' (alike_less g.part counting s t g.within a) g.tried d g.legal legal'
    (like_on g.part g.tried c d g.like (like_less g.part counting c d g.within like)) g.settles)

pub one_card_answers : (counting : List ℕ) (s : State) (c : ℕ) (made : Bool) → IsState s → has_card (legal_in s) c ≡ true → is_declarers (to_play s.position) ≡ made
    → GivesAnswer counting s c made → HasAnswer counting s made
one_card_answers counting s c made ok legal side g = λ t ok' a.
    let like = a_like_card_is_legal counting s t c ok ok' a legal in
    by_card t made like.0 ok' (going t like.0 ok' like.1) (ap is_declarers (sym (alike_turn counting s t a)) ∙ side) like.1
    (like_cards_answer counting s t made c like.0 ok ok' a like.1 like.2 g)

pub all_cards_answer : (counting : List ℕ) (s : State) (made : Bool) → IsState s → is_over s.position ≡ false
    → ((c : ℕ) → has_card (legal_in s) c ≡ true → GivesAnswer counting s c made) → HasAnswer counting s made
all_cards_answer counting s made ok on each = λ t ok' a.
    by_each t made ok' (sym (alike_over counting s t a) ∙ on) (λ d legal'.
    let back = a_like_card_is_legal counting t s d ok' ok (alike_back counting s t a) legal' in
    like_cards_answer counting s t made back.0 d ok ok' a legal' (like_back counting d back.0 back.2) (each back.0 back.1))

-- ---- sure cards

module _ (counting : List ℕ) (closed : IsClosedUp counting) (sure xs ys : List ℕ) (within : IsSubset sure counting)
    (same : (c : ℕ) → has_card counting c ≡ true → has_card xs c ≡ has_card ys c) (lengths : (suit : Suit) → length (of_suit suit xs) ≡ length (of_suit suit ys))
    (low : (c : ℕ) → has_card ys c ≡ true → c < 52) where
  pub high_alike : AreHigh sure xs → AreHigh sure ys
  high_alike high card among = elim (high card among) as (λ _. ((c : ℕ) → has_card ys c ≡ true → same_suit (suit_of c) (suit_of card) ≡ true → c < card) ⊎ (length (of_suit (suit_of card) ys) ≤ length (above card sure))) [
    | inl lower ↦ inl (λ c held suit. elim (cases_Bool (has_card counting c)) as (λ _. c < card) [
      | inl counts ↦ lower c (same c counts ∙ held) suit
      | inr out ↦ below_counting counting closed card c (within card among) out (sym (same_suit-true (suit_of c) (suit_of card) suit)) (low c held)
    ])
    | inr few ↦ inr (let n = lengths (suit_of card) in omega arith)
  ]

  trumps_alike : (trump : Trump) → length (trumps_of trump xs) ≡ length (trumps_of trump ys)
  trumps_alike NoTrump = ap (length {A = ℕ}) (filter-none (λ c. false) xs (λ c h. refl) ∙ sym (filter-none (λ c. false) ys (λ c h. refl)))
  trumps_alike (Suited suit) = lengths suit

  pub safe_alike : (trump : Trump) → AreSafe trump sure xs → AreSafe trump sure ys
  safe_alike trump safe = elim safe as (λ _. AreSafe trump sure ys) [
    | inl few ↦ inl (let n = trumps_alike trump in omega arith)
    | inr follows ↦ inr (λ card among plain. let n = lengths (suit_of card) in let m = follows card among plain in omega arith)
  ]

pub sure_cards_stay_sure : (counting : List ℕ) (s t : State) (x : Seat) (sure : List ℕ) → IsClosedUp counting → IsState t → AreAlike counting s t
    → IsSubset sure counting → AreSure s x sure → AreSure t x sure
sure_cards_stay_sure counting s t x sure closed ok a within are = record {
  set = are.set;
  held = λ c h. sym ((a.hands x).same c (within c h)) ∙ are.held c h;
  high = λ seat differ. high_alike counting closed sure (hand_of s seat) (hand_of t seat) within ((a.hands seat).same) ((a.hands seat).lengths)
      (λ c h. has_card-below (hand_of t seat) c (hand_set t ok seat) h) (are.high seat differ);
  safe = λ seat differ. subst (λ trump. AreSafe trump sure (hand_of t seat)) a.trump
      (safe_alike counting closed sure (hand_of s seat) (hand_of t seat) within ((a.hands seat).same) ((a.hands seat).lengths)
      (λ c h. has_card-below (hand_of t seat) c (hand_set t ok seat) h) s.position.trump (are.safe seat differ));
}

-- the sure cards of the hand on lead, in an alike state
sure_there : (counting : List ℕ) (s t : State) (sure : List ℕ) → IsClosedUp counting → IsState t → AreAlike counting s t → IsSubset sure counting
    → AreSure s (to_play s.position) sure → AreSure t (to_play t.position) sure
sure_there counting s t sure closed ok a within are =
    subst (λ x. AreSure t x sure) (alike_turn counting s t a) (sure_cards_stay_sure counting s t (to_play s.position) sure closed ok a within are)

pub none_there : (counting : List ℕ) (s t : State) → AreAlike counting s t → s.position.trick.cards ≡ [] → t.position.trick.cards ≡ []
none_there counting s t a none = nil_from_length t.position.trick.cards (sym a.played ∙ ap (length {A = ℕ}) none)

pub our_sure_cards_answer : (counting : List ℕ) (s : State) (sure : List ℕ) → IsClosedUp counting → IsSubset sure counting → s.position.trick.cards ≡ []
    → AreSure s (to_play s.position) sure → is_declarers (to_play s.position) ≡ true → s.position.need ≤ length sure → HasAnswer counting s true
our_sure_cards_answer counting s sure closed within none are side few = λ t ok a.
    our_sure_cards_win t sure ok (none_there counting s t a none) (sure_there counting s t sure closed ok a within are)
    (ap is_declarers (sym (alike_turn counting s t a)) ∙ side) (let need = a.need in omega arith)

pub their_sure_cards_answer : (counting : List ℕ) (s : State) (sure : List ℕ) → IsClosedUp counting → IsSubset sure counting → s.position.trick.cards ≡ []
    → AreSure s (to_play s.position) sure → is_declarers (to_play s.position) ≡ false → tricks_left s.position < s.position.need + length sure → HasAnswer counting s false
their_sure_cards_answer counting s sure closed within none are side many = λ t ok a.
    their_sure_cards_win t sure ok (none_there counting s t a none) (sure_there counting s t sure closed ok a within are)
    (ap is_declarers (sym (alike_turn counting s t a)) ∙ side) (let need = a.need in let tricks = alike_tricks counting s t a in omega arith)

-- ---- sure cards of both hands, at no trump

-- a card that leads over, in an alike state
pub link_there : (counting : List ℕ) (s t : State) (link card : ℕ) → IsState s → IsState t → AreAlike counting s t → has_card (hand_of s (to_play s.position)) link ≡ true → suit_of card ≡ suit_of link
    → (there : ℕ) × (has_card (hand_of t (to_play t.position)) there ≡ true) × (suit_of card ≡ suit_of there)
link_there counting s t link card ok ok' a held suit =
    let turn = to_play s.position in
    let found : (d : ℕ) × (has_card (hand_of t turn) d ≡ true) × IsLike counting link d =
    like_held counting (hand_of s turn) (hand_of t turn) (hand_set s ok turn) (hand_set t ok' turn) ((a.hands turn).same) ((a.hands turn).lengths) link held in
    (found.0, subst (λ seat. has_card (hand_of t seat) found.0 ≡ true) (alike_turn counting s t a) found.1, suit ∙ like_suit counting link found.0 found.2)

module _ (counting : List ℕ) (s : State) (sure partners : List ℕ) (link card : ℕ) (closed : IsClosedUp counting) (within : IsSubset sure counting) (more : IsSubset partners counting)
    (ok : IsState s) (none : s.position.trick.cards ≡ []) (no_trump : s.position.trump ≡ NoTrump) (are : AreSure s (to_play s.position) sure)
    (theirs : AreSure s (seat_after 2 (to_play s.position)) partners) (held : has_card (hand_of s (to_play s.position)) link ≡ true)
    (over : has_card partners card ≡ true) (suit : suit_of card ≡ suit_of link) where
  -- the partner's sure cards, in an alike state
  partners_there : (t : State) → IsState t → AreAlike counting s t → AreSure t (seat_after 2 (to_play t.position)) partners
  partners_there t ok' a =
      subst (λ x. AreSure t (seat_after 2 x) partners) (alike_turn counting s t a) (sure_cards_stay_sure counting s t (seat_after 2 (to_play s.position)) partners closed ok' a more theirs)

  pub our_cards_answer_together : is_declarers (to_play s.position) ≡ true → s.position.need ≤ min (tricks_left s.position) (length sure + length partners) → HasAnswer counting s true
  our_cards_answer_together side few = λ t ok' a.
      let linked = link_there counting s t link card ok ok' a held suit in
      our_cards_win_together t sure partners linked.0 card ok' (none_there counting s t a none) (sym a.trump ∙ no_trump) (sure_there counting s t sure closed ok' a within are) (partners_there t ok' a)
      linked.1 over linked.2 (ap is_declarers (sym (alike_turn counting s t a)) ∙ side)
      (subst (λ n. t.position.need ≤ min n (length sure + length partners)) (alike_tricks counting s t a) (subst (λ n. n ≤ min (tricks_left s.position) (length sure + length partners)) a.need few))

  pub their_cards_answer_together : is_declarers (to_play s.position) ≡ false → tricks_left s.position < s.position.need + min (tricks_left s.position) (length sure + length partners) → HasAnswer counting s false
  their_cards_answer_together side many = λ t ok' a.
      let linked = link_there counting s t link card ok ok' a held suit in
      their_cards_win_together t sure partners linked.0 card ok' (none_there counting s t a none) (sym a.trump ∙ no_trump) (sure_there counting s t sure closed ok' a within are) (partners_there t ok' a)
      linked.1 over linked.2 (ap is_declarers (sym (alike_turn counting s t a)) ∙ side)
      (subst (λ n. n < t.position.need + min n (length sure + length partners)) (alike_tricks counting s t a)
      (subst (λ n. tricks_left s.position < n + min (tricks_left s.position) (length sure + length partners)) a.need many))

-- ---- top trumps

pub top_trumps_stay : (counting : List ℕ) (s t : State) (x : Seat) (top : List ℕ) → IsClosedUp counting → IsState t → AreAlike counting s t
    → IsSubset top counting → AreTopTrumps s x top → AreTopTrumps t x top
top_trumps_stay counting s t x top closed ok a within are = record {
  set = are.set;
  held = λ c h. sym ((a.hands x).same c (within c h)) ∙ are.held c h;
  trumps = trumps;
  highest = λ card higher seat among held is more.
      let counts = closed card higher (within card among) (two_trumps t.position.trump card higher (trumps card among) is) more
      (has_card-below (hand_of t seat) higher (hand_set t ok seat) held) in
      are.highest card higher seat among ((a.hands seat).same higher counts ∙ held) (ap (λ trump. is_trump trump higher) a.trump ∙ is) more;
}
  where
    trumps : (c : ℕ) → has_card top c ≡ true → is_trump t.position.trump c ≡ true
    trumps c h = ap (λ trump. is_trump trump c) (sym a.trump) ∙ are.trumps c h

pub our_top_trumps_answer : (counting : List ℕ) (s : State) (x : Seat) (top : List ℕ) → IsClosedUp counting → IsSubset top counting → s.position.trick.cards ≡ []
    → AreTopTrumps s x top → is_declarers x ≡ true → s.position.need ≤ length top → HasAnswer counting s true
our_top_trumps_answer counting s x top closed within none are side few = λ t ok a.
    our_top_trumps_win t x top ok (none_there counting s t a none) (top_trumps_stay counting s t x top closed ok a within are) side (let need = a.need in omega arith)

pub their_top_trumps_answer : (counting : List ℕ) (s : State) (x : Seat) (top : List ℕ) → IsClosedUp counting → IsSubset top counting → s.position.trick.cards ≡ []
    → AreTopTrumps s x top → is_declarers x ≡ false → tricks_left s.position < s.position.need + length top → HasAnswer counting s false
their_top_trumps_answer counting s x top closed within none are side many = λ t ok a.
    their_top_trumps_win t x top ok (none_there counting s t a none) (top_trumps_stay counting s t x top closed ok a within are) side
    (let need = a.need in let tricks = alike_tricks counting s t a in omega arith)
