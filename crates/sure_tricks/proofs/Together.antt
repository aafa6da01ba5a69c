-- The sure cards of the hand on lead and of its partner, as far as there are tricks.
use Rattle.std.proofs.Common.{◌≡◌, ◌≢◌, ◌⊎◌, ℕ, zero, suc, ◌+◌, ◌-◌, ◌<◌, ◌≤◌, Bool, true, false, not, eqb, List, [], length, min, refl, sym, ap, ◌∙◌, subst, inl, inr, arith}
use Rattle.std.proofs.lemmas.Bool.{cases_Bool, cases_eq, cases_lt, ne_eqb, eqb-false, and_parts, not-true}
use Rattle.card_sets.specs.Cards.{suit_of}
use Rattle.card_sets.specs.SetWords.{has_card, IsSubset}
use Rattle.card_sets.proofs.Sets.{IsCardSet-filter}
use Rattle.card_sets.proofs.SetCounts.{length-take_out, length-IsSubset, has_card-length}
use Rattle.trick_rules.specs.declared.trump.Trump.TheVariants.{NoTrump}
use Rattle.trick_rules.specs.Positions.{State, seat_after, to_play, tricks_left, IsState}
use Rattle.trick_rules.specs.Play.{take_out, hand_of, is_declarers, makes}
use Rattle.trick_rules.proofs.CardLists.{has_card-take_out, take_out-low}
use Rattle.trick_rules.proofs.States.{hand_length}
use Rattle.sure_tricks.specs.Sure.{AreHigh, AreSure}
use Rattle.sure_tricks.proofs.Counting.{least_of}
use Rattle.sure_tricks.proofs.Holding.{IsLead}
use Rattle.sure_tricks.proofs.Hands.{seats_differ, hand_set, Suffices}
use Rattle.sure_tricks.proofs.Cash.{IsLeading, leading, sure_cards}
use Rattle.sure_tricks.proofs.Joint.{high-without, top_of_suit, apart_suits}
use Rattle.sure_tricks.proofs.Both.{IsJoint, joint}

-- ---- fewer of the partner's cards

-- some of the cards, the top of one suit among them, high against whatever they are high against
record IsFewer (theirs : List ℕ) (t m : ℕ) (fewer : List ℕ) : Type 0 where
  lead : IsLead NoTrump fewer t
  part : IsSubset fewer theirs
  count : length fewer ≡ m
  high : (hand : List ℕ) → AreHigh theirs hand → AreHigh fewer hand

fewer_of : (e : ℕ) (theirs : List ℕ) (t m : ℕ) → IsLead NoTrump theirs t → length theirs ≡ m + e → 1 ≤ m → (fewer : List ℕ) × IsFewer theirs t m fewer
fewer_of zero theirs t m lead count some = (theirs, record { lead = lead; part = λ c h. h; count = omega arith; high = λ hand h. h })
fewer_of (suc e) theirs t m lead count some =
    let without = length-take_out theirs t lead.set lead.among in
    let u = least_of (take_out t theirs) (omega arith) in
    let both = and_parts (has_card theirs u.0) (not (eqb u.0 t)) (sym (has_card-take_out t theirs u.0) ∙ u.1) in
    let differ : u.0 ≢ t = eqb-false u.0 t (not-true (eqb u.0 t) both.1) in
    let less = length-take_out theirs u.0 lead.set both.0 in
    let lowest : (v : ℕ) → has_card theirs v ≡ true → suit_of v ≡ suit_of u.0 → u.0 ≤ v
    = λ v held suit. elim (cases_eq v t) as (λ _. u.0 ≤ v) [
      | inl e ↦ (let top = lead.top u.0 both.0 (sym suit ∙ ap suit_of e) in omega arith)
      | inr e ↦ u.2 v (has_card-take_out t theirs v ∙ rw (held, ne_eqb v t e) refl)
    ] in
    let lead' : IsLead NoTrump (take_out u.0 theirs) t = record {
      set = IsCardSet-filter (λ c. not (eqb c u.0)) theirs lead.set;
      among = has_card-take_out u.0 theirs t ∙ rw (lead.among, ne_eqb t u.0 (λ i. differ (sym i))) refl;
      top = λ v held suit. lead.top v (take_out-low u.0 theirs v held) suit;
      first = inr (λ v held. refl);
    } in
    let r = fewer_of e (take_out u.0 theirs) t m lead' (omega arith) some in (
      r.0,
      record {
        lead = r.1.lead;
        part = λ c h. take_out-low u.0 theirs c (r.1.part c h);
        count = r.1.count;
        high = λ hand h. r.1.high hand (high-without theirs hand u.0 lowest h);
      },
    )

-- ---- both hands' cards

module _ (s : State) (sure partners : List ℕ) (link card : ℕ) (ok : IsState s) (none : s.position.trick.cards ≡ []) (no_trump : s.position.trump ≡ NoTrump)
    (ours : AreSure s (to_play s.position) sure) (theirs : AreSure s (seat_after 2 (to_play s.position)) partners)
    (linked : has_card (hand_of s (to_play s.position)) link ≡ true) (there : has_card partners card ≡ true) (suit : suit_of card ≡ suit_of link) where
  x_not_z : to_play s.position ≢ seat_after 2 (to_play s.position)
  x_not_z = seats_differ 0 2 (to_play s.position) (omega arith) (omega arith) (λ e. omega arith)

  new_card : has_card sure link ≡ false
  new_card = elim (cases_Bool (has_card sure link)) as (λ _. has_card sure link ≡ false) [
    | inl e ↦ absurd (apart_suits sure partners (hand_of s (to_play s.position)) (hand_of s (seat_after 2 (to_play s.position))) link card ours.set theirs.set ours.held theirs.held
        (ours.high (seat_after 2 (to_play s.position)) (λ i. x_not_z (sym i))) (theirs.high (to_play s.position) x_not_z) e there (sym suit))
    | inr e ↦ e
  ]

  hand_is : length (hand_of s (to_play s.position)) ≤ tricks_left s.position
  hand_is = let all = hand_length s ok (to_play s.position) in omega arith

  pub together : (b : Bool) → is_declarers (to_play s.position) ≡ b → Suffices b s.position (min (tricks_left s.position) (length sure + length partners)) → makes s ≡ b
  together b side h = go (cases_lt (length sure) (tricks_left s.position))
    where
      most : length sure ≤ tricks_left s.position
      most =
          let part = length-IsSubset (hand_of s (to_play s.position)) sure (hand_set s ok (to_play s.position)) ours.set ours.held in
          let full = hand_is in
          omega arith

      turn : to_play s.position ≡ s.position.trick.leader
      turn = ap (λ (t : List ℕ). seat_after (length t) s.position.trick.leader) none

      go : (length sure < tricks_left s.position) ⊎ (tricks_left s.position ≤ length sure) → makes s ≡ b
      go (inr all) = let few = most in sure_cards s sure b ok none ours side (subst (λ n. Suffices b s.position n) (omega arith) h)
      go (inl less) =
          let m = min (length partners) (tricks_left s.position - length sure) in
          let some = has_card-length partners card there in
          let t = top_of_suit partners card theirs.set there in
          let r = fewer_of (length partners - m) partners t.0 m t.2 (omega arith) (omega arith) in
          let count = r.1.count in
          let j : IsJoint (to_play s.position) s sure r.0 link t.0 = record {
            lead = subst (λ seat. IsLeading seat NoTrump s sure) (sym turn) (subst (λ u. IsLeading s.position.trick.leader u s sure) no_trump (leading s sure ok none ours));
            kept = record {
              held = λ c k. theirs.held c (r.1.part c k);
              high = λ y differ. r.1.high (hand_of s y) (theirs.high y differ);
              linked = linked;
            };
            new = new_card;
            set = r.1.lead.set;
            there = r.1.lead.among;
            suit = t.1 ∙ suit;
            room = omega arith;
          } in
          joint (length sure) (to_play s.position) s sure r.0 link t.0 j refl
          (subst (λ c. Suffices c s.position (length sure + length r.0)) (sym side) (subst (λ n. Suffices b s.position n) (omega arith) h)) ∙ side

pub our_cards_win_together : (s : State) (sure partners : List ℕ) (link card : ℕ) → IsState s → s.position.trick.cards ≡ [] → s.position.trump ≡ NoTrump → AreSure s (to_play s.position) sure
    → AreSure s (seat_after 2 (to_play s.position)) partners → has_card (hand_of s (to_play s.position)) link ≡ true → has_card partners card ≡ true → suit_of card ≡ suit_of link
    → is_declarers (to_play s.position) ≡ true → s.position.need ≤ min (tricks_left s.position) (length sure + length partners) → makes s ≡ true
our_cards_win_together s sure partners link card ok none no_trump ours theirs linked there suit side h = together s sure partners link card ok none no_trump ours theirs linked there suit true side h

pub their_cards_win_together : (s : State) (sure partners : List ℕ) (link card : ℕ) → IsState s → s.position.trick.cards ≡ [] → s.position.trump ≡ NoTrump → AreSure s (to_play s.position) sure
    → AreSure s (seat_after 2 (to_play s.position)) partners → has_card (hand_of s (to_play s.position)) link ≡ true → has_card partners card ≡ true → suit_of card ≡ suit_of link
    → is_declarers (to_play s.position) ≡ false → tricks_left s.position < s.position.need + min (tricks_left s.position) (length sure + length partners) → makes s ≡ false
their_cards_win_together s sure partners link card ok none no_trump ours theirs linked there suit side h = together s sure partners link card ok none no_trump ours theirs linked there suit false side h
