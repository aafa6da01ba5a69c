-- Sure cards of declarer's side, cashed one after another whatever the layout is.
use Rattle.std.proofs.Common.{◌≡◌, ◌∙◌, ◌<◌, ◌≤◌, ℕ, suc, Bool, true, false, ◌==◌, is_some, List, [], ◌∷◌, length, map, filter, replicate, Contains, refl, sym, ap, subst, ⊎_elim, arith}
use Rattle.std.proofs.lemmas.Bool.{cases_eq, false≢true, le-ltb}
use Rattle.std.proofs.lemmas.List.Elements.{All-contains}
use Rattle.card_sets.specs.declared.seat.Seat.{Seat}
use Rattle.card_sets.specs.SetWords.{has_card}
use Rattle.card_sets.proofs.Sets.{has_card-below}
use Rattle.card_sets.proofs.SetCounts.{length-take_out, length-IsSubset}
use Rattle.trick_rules.specs.declared.trump.Trump.{Trump}
use Rattle.trick_rules.specs.Positions.{PositionValue, State, IsState, seat_after, to_play, tricks_left}
use Rattle.trick_rules.specs.Play.{after, take_out, legal_in, hand_of, is_declarers, put_card, winner_of, decided}
use Rattle.trick_rules.specs.Nodes.{NodeValue, IsNode, states, choices, child}
use Rattle.trick_rules.proofs.PlayLaws as play
use Rattle.trick_rules.proofs.States.{hand_length}
use Rattle.strategy_games.proofs.Lists.{Contains-here, Contains-of_map, Contains-of_filter, filled_or_nil}
use Rattle.strategy_games.specs.Plans.{CanWin}
use Rattle.strategy_tree.specs.Bridge.{bridge}
use Rattle.strategy_tree.proofs.CardLists.{Contains-from_has_card, has_card-from_Contains}
use Rattle.strategy_tree.proofs.Rules.{table_of, lawful, double_dummy, settled}
use Rattle.sure_tricks.specs.Sure.{AreSure}
use Rattle.sure_tricks.proofs.Holding.{IsLead}
use Rattle.sure_tricks.proofs.Hands.{hand_set, tricks_within, suffices_within, suffices_after}
use Rattle.sure_tricks.proofs.Cash.{IsLeading, IsFollowed, lead_of, lead_legal, led, stepped, ended, wins, leading}
use Rattle.sure_nodes.proofs.Kept.{IsKept, kept_wins}

-- ---- nodes in the course of cashing

-- between two tricks
record Leads (n : NodeValue) (x : Seat) (trump : Trump) (sure : List ℕ) : Type 0 where
  each : (s : State) → Contains (states n) s → IsLeading x trump s sure
  need : n.position.need ≤ length sure

-- and within one
record Follows (n : NodeValue) (x : Seat) (trump : Trump) (sure : List ℕ) (w j : ℕ) : Type 0 where
  lead : IsLead trump sure w
  low : w < 52
  past : 1 ≤ j
  short : j < 4
  each : (s : State) → Contains (states n) s → IsFollowed x trump sure w s j
  need : n.position.need ≤ length sure
  room : n.position.need ≤ tricks_left n.position

data Phase (n : NodeValue) (x : Seat) (trump : Trump) (sure : List ℕ) : Type 0 where
  leads : Leads n x trump sure → Phase n x trump sure
  follows : (w j : ℕ) → Follows n x trump sure w j → Phase n x trump sure

record IsCashing (n : NodeValue) : Type 0 where
  sound : IsNode n
  x : Seat
  side : is_declarers x ≡ true
  trump : Trump
  sure : List ℕ
  phase : Phase n x trump sure

-- ---- states of a node and of its child

pub state_of : (n : NodeValue) (s : State) → IsNode n → Contains (states n) s → IsState s
state_of n s sound among = All-contains (λ s. IsState s) (states n) s (play.a_layout_gives_a_state n sound) among

pub some_state : (n : NodeValue) → IsNode n → (s : State) × Contains (states n) s
some_state n sound = go n.lefts sound.some
  where
    go : (lefts : List (List ℕ)) → 1 ≤ length lefts → (s : State) × Contains (map (λ left. record { position = n.position; left = left }) lefts) s
    go [] h = absurd (omega arith)
    go (left ∷ lefts) h = (record { position = n.position; left = left }, Contains-here (record { position = n.position; left = left }) (map (λ left. record { position = n.position; left = left }) lefts))

state_before : (n : NodeValue) (c : ℕ) (t : State) → Contains (states (child n c)) t → (s : State) × Contains (states n) s × (has_card (legal_in s) c ≡ true) × (after s c ≡ t)
state_before n c t mem =
    let kept = subst (λ l. Contains l t) (play.a_child_keeps_the_states n c) mem in
    let s = Contains-of_map (λ s. after s c) (filter (λ s. has_card (legal_in s) c) (states n)) t kept in
    let parts = Contains-of_filter (λ s. has_card (legal_in s) c) (states n) s.0 s.1 in
    (s.0, parts.0, parts.1, s.2)

-- ---- within a trick

module _ (n : NodeValue) (sound : IsNode n) (x : Seat) (side : is_declarers x ≡ true) (trump : Trump) (sure : List ℕ) (w j : ℕ) (f : Follows n x trump sure w j) (c : ℕ) (choice : Contains (choices n) c) where
  below : IsNode (child n c)
  below = lawful.holds n c sound choice

  cards : length n.position.trick.cards ≡ j
  cards = let s = some_state n sound in subst (λ t. length t.trick.cards ≡ j) (table_of n s.0 s.1) (f.each s.0 s.1).count

  playable : has_card (choices n) c ≡ true
  playable = has_card-from_Contains (choices n) c choice

  going_on : j < 3 → IsCashing (child n c)
  going_on more = record {
    sound = below;
    x = x;
    side = side;
    trump = trump;
    sure = sure;
    phase = follows w (suc j) (record {
      lead = f.lead;
      low = f.low;
      past = omega arith;
      short = omega arith;
      each = λ t mem.
          let s = state_before n c t mem in
          subst (λ z. IsFollowed x trump sure w z (suc j)) s.3 (stepped x trump sure w f.lead f.low s.0 j (f.each s.0 s.1) f.past f.short c s.2 more);
      need = suffices_within true n.position c (length sure) sound.sound (play.a_choice_can_be_played n c sound playable) (omega (arith, cards)) f.need;
      room = let same = tricks_within n.position c sound.sound (play.a_choice_can_be_played n c sound playable) (omega (arith, cards)) in
          let less = suffices_within true n.position c (tricks_left n.position) sound.sound (play.a_choice_can_be_played n c sound playable) (omega (arith, cards)) f.room in
          omega arith;
    });
  }

  ending : j ≡ 3 → IsCashing (child n c)
  ending last = record {
    sound = below;
    x = x;
    side = side;
    trump = trump;
    sure = take_out w sure;
    phase = leads (record {
      each = λ t mem.
          let s = state_before n c t mem in
          subst (λ z. IsLeading x trump z (take_out w sure)) s.3 (ended x trump sure w f.lead f.low s.0 j (f.each s.0 s.1) f.past f.short c s.2 last);
      need =
          let first = some_state (child n c) below in
          let s = state_before n c first.0 first.1 in
          let won : winner_of n.position.trump (put_card n.position c).trick ≡ x = subst (λ t. winner_of t.trump (put_card t c).trick ≡ x) (table_of n s.0 s.1) (wins x trump sure w f.lead f.low s.0 j (f.each s.0 s.1) f.past f.short c s.2) in
          let one = length-take_out sure w f.lead.set f.lead.among in
          let need = f.need in
          suffices_after true n.position c (length (take_out w sure)) sound.sound (play.a_choice_can_be_played n c sound playable) (cards ∙ last) (ap is_declarers won ∙ side) (omega arith);
    });
  }

  next : IsCashing (child n c)
  next = ⊎_elim (λ (last : j ≡ 3). ending last) (λ (differ : j ≡ 3 → ⊥). going_on (let short = f.short in omega (arith, differ))) (cases_eq j 3)

-- ---- between two tricks

module _ (n : NodeValue) (sound : IsNode n) (x : Seat) (side : is_declarers x ≡ true) (trump : Trump) (sure : List ℕ) (l : Leads n x trump sure) where
  first : (s : State) × Contains (states n) s
  first = some_state n sound

  here : first.0.position ≡ n.position
  here = table_of n first.0 first.1

  room : n.position.need ≤ tricks_left n.position
  room =
      let s = first.0 in
      let at = l.each s first.1 in
      let hand = hand_length s at.ok x in
      let part = length-IsSubset (hand_of s x) sure (hand_set s at.ok x) at.set at.held in
      let tricks : tricks_left s.position ≡ tricks_left n.position = ap tricks_left here in
      let need = l.need in
      omega arith

  lead_one : 1 ≤ n.position.need → (c : ℕ) × Contains (choices n) c × IsCashing (child n c)
  lead_one some =
      let at = l.each first.0 first.1 in
      let need = l.need in
      let lead = lead_of trump sure at.set (omega arith) in
      let w = lead.0 in
      let low = has_card-below sure w at.set lead.1.among in
      let choice = Contains-from_has_card (choices n) w (play.what_is_legal_is_a_choice n w first.0 sound first.1 (lead_legal x trump sure w lead.1 low first.0 at)) in
      let none : length n.position.trick.cards ≡ 0 = ap (λ (t : PositionValue). length t.trick.cards) (sym here) ∙ ap (length {A = ℕ}) at.none in
      let can = play.a_choice_can_be_played n w sound (has_card-from_Contains (choices n) w choice) in
      let same = tricks_within n.position w sound.sound can (omega arith) in
      let space = room in (
        w,
        choice,
        record {
          sound = lawful.holds n w sound choice;
          x = x;
          side = side;
          trump = trump;
          sure = sure;
          phase = follows w 1 (record {
            lead = lead.1;
            low = low;
            past = omega arith;
            short = omega arith;
            each = λ t mem.
                let s = state_before n w t mem in
                subst (λ z. IsFollowed x trump sure w z 1) s.3 (led x trump sure w lead.1 low s.0 (l.each s.0 s.1));
            need = suffices_within true n.position w (length sure) sound.sound can (omega arith) need;
            room = let less = suffices_within true n.position w (tricks_left n.position) sound.sound can (omega arith) space in omega arith;
          });
        },
      )

  turn : is_declarers (to_play n.position) ≡ true
  turn =
      let at = l.each first.0 first.1 in
      subst (λ t. is_declarers (to_play t) ≡ true) here (ap is_declarers (ap (λ (k : ℕ). seat_after k first.0.position.trick.leader) (ap (length {A = ℕ}) at.none) ∙ at.leads) ∙ side)

-- ---- cashing is kept

decided_made : (t : PositionValue) → t.need ≤ tricks_left t → is_some (decided t) ≡ true → (t.need == 0) ≡ true
decided_made t room h = go (t.need == 0) refl
  where
    go : (b : Bool) → (t.need == 0) ≡ b → (t.need == 0) ≡ true
    go true is = is
    go false is = absurd (false≢true (rw (is, le-ltb (tricks_left t) t.need room) at h))

open_need : (t : PositionValue) → is_some (decided t) ≡ false → 1 ≤ t.need
open_need t h = ⊎_elim (λ (e : t.need ≡ 0). absurd (false≢true (sym h ∙ rw e refl))) (λ (differ : t.need ≡ 0 → ⊥). omega (arith, differ)) (cases_eq t.need 0)

room_of : (n : NodeValue) → IsCashing n → n.position.need ≤ tricks_left n.position
room_of n c = go c.phase
  where
    go : Phase n c.x c.trump c.sure → n.position.need ≤ tricks_left n.position
    go (leads l) = room n c.sound c.x c.side c.trump c.sure l
    go (follows w j f) = f.room

cashing_kept : IsKept bridge IsNode IsCashing
cashing_kept = record {
  sound = λ n c. c.sound;
  made = λ n c over. decided_made n.position (room_of n c) over;
  ours = λ n c live ours. by_card n c live c.phase;
  theirs = λ n d c live theirs choice. by_reply n c theirs d choice c.phase;
}
  where
    by_card : (n : NodeValue) (c : IsCashing n) → is_some (decided n.position) ≡ false → Phase n c.x c.trump c.sure → (d : ℕ) × Contains (choices n) d × IsCashing (child n d)
    by_card n c live (leads l) = lead_one n c.sound c.x c.side c.trump c.sure l (open_need n.position live)
    by_card n c live (follows w j f) = ⊎_elim
        (λ (none : choices n ≡ []). absurd (lawful.some_card n c.sound (lawful.ended n c.sound live) none))
        (λ (some : (d : ℕ) × Contains (choices n) d). (some.0, some.1, next n c.sound c.x c.side c.trump c.sure w j f some.0 some.1))
        (filled_or_nil (choices n))

    by_reply : (n : NodeValue) (c : IsCashing n) → is_declarers (to_play n.position) ≡ false → (d : ℕ) → Contains (choices n) d → Phase n c.x c.trump c.sure → IsCashing (child n d)
    by_reply n c theirs d choice (leads l) = absurd (false≢true (sym theirs ∙ turn n c.sound c.x c.side c.trump c.sure l))
    by_reply n c theirs d choice (follows w j f) = next n c.sound c.x c.side c.trump c.sure w j f d choice

-- cards of the hand on lead that are sure in each layout, as many as are needed, win each layout
pub cashed : (n : NodeValue) (m : ℕ) (sure : List ℕ) → IsNode n → is_declarers (to_play n.position) ≡ true → n.position.trick.cards ≡ []
    → ((s : State) → Contains (states n) s → AreSure s (to_play n.position) sure) → n.position.need ≤ length sure → CanWin bridge n m (replicate (length (states n)) true)
cashed n m sure sound ours none are need = kept_wins bridge IsNode lawful double_dummy settled IsCashing cashing_kept n m (record {
  sound = sound;
  x = n.position.trick.leader;
  side = subst (λ (l : List ℕ). is_declarers (seat_after (length l) n.position.trick.leader) ≡ true) none ours;
  trump = n.position.trump;
  sure = sure;
  phase = leads (record {
    each = λ s mem.
        let at = table_of n s mem in
        subst (λ t. IsLeading t.trick.leader t.trump s sure) at
        (leading s sure (state_of n s sound mem) (ap (λ (t : PositionValue). t.trick.cards) at ∙ none)
        (subst (λ t. AreSure s (to_play t) sure) (sym at) (are s mem)));
    need = need;
  });
})
