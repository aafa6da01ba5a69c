-- At no trump, the sure cards of the hand on lead are led first, and then one to those of its partner.
use Rattle.std.proofs.Common.{◌≡◌, ◌≢◌, ℕ, zero, suc, ◌+◌, ◌<◌, ◌≤◌, true, false, not, List, length, filter, refl, sym, ap, ap₂, ◌∙◌, subst, inl, inr, ⊎_elim, arith}
use Rattle.std.proofs.lemmas.Bool.{cases_Bool, false≢true, and_parts, not-true}
use Rattle.card_sets.specs.declared.seat.Seat.{Seat}
use Rattle.card_sets.specs.Cards.{suit_of, same_suit}
use Rattle.card_sets.specs.SetWords.{has_card, IsCardSet, IsSubset}
use Rattle.card_sets.proofs.Sets.{has_card-filter, has_card-below, filter-none}
use Rattle.card_sets.proofs.SetCounts.{length-take_out, length-minus, some_card, has_card-length}
use Rattle.trick_rules.specs.declared.trump.Trump.TheVariants.{NoTrump}
use Rattle.trick_rules.specs.Positions.{State, seat_after, to_play, played_count, tricks_left}
use Rattle.trick_rules.specs.Play.{take_out, after, hand_of, legal_in, legal_cards, or_whole, is_declarers, makes}
use Rattle.trick_rules.proofs.CardLists.{has_card-take_out}
use Rattle.trick_rules.proofs.States.{legal_can_play, legal_cards-low, hand_length, some_legal}
use Rattle.trick_rules.proofs.Turns.{count_in-turn}
use Rattle.sure_tricks.proofs.Holding.{IsLead, may_follow}
use Rattle.sure_tricks.proofs.Hands.{seats_differ, hand_set, by_card, by_each, Suffices, tricks_within, tricks_last, suffices_within, suffices_after}
use Rattle.sure_tricks.proofs.Cash.{IsLeading, IsFollowed, lead_of, going, turn, in_hand, stepped, ended, wins, at_turn, lead_legal, some_left, in_short, led}
use Rattle.sure_tricks.proofs.Joint.{IsKept, top_of_suit, apart_suits, kept_after, spare_card, other_card, kept_by_other, partners_side}
use Rattle.sure_tricks.proofs.Crossing.{crossing}

pub record IsJoint (x : Seat) (s : State) (ours theirs : List ℕ) (link v : ℕ) : Type 0 where
  pub lead : IsLeading x NoTrump s ours
  pub kept : IsKept x s theirs link
  pub new : has_card ours link ≡ false
  pub set : IsCardSet theirs
  pub there : has_card theirs v ≡ true
  pub suit : suit_of v ≡ suit_of link
  pub room : length ours + length theirs ≤ tricks_left s.position

-- ---- the partner keeps its sure cards

module _ (x : Seat) (ours theirs : List ℕ) (w link : ℕ) (set : IsCardSet theirs) (differ : (d : ℕ) → has_card theirs d ≡ true → suit_of d ≢ suit_of w) where
  discard : (s : State) → IsFollowed x NoTrump ours w s 2 → to_play s.position ≡ seat_after 2 x → IsKept x s theirs link → length theirs < tricks_left s.position
      → (d : ℕ) × (has_card (legal_in s) d ≡ true) × (has_card theirs d ≡ false)
  discard s f at kept room = go (some_legal s f.trick.ok (going s.position f.trick.on))
    where
      held : IsSubset theirs (hand_of s (to_play s.position))
      held d h = ap (λ seat. has_card (hand_of s seat) d) at ∙ kept.held d h

      hand_full : length (hand_of s (to_play s.position)) ≡ tricks_left s.position
      hand_full =
          let all = hand_length s f.trick.ok (to_play s.position) in
          let none : played_count s.position (to_play s.position) ≡ 0 = count_in-turn (length s.position.trick.cards) s.position.trick.leader f.trick.ok.sound.trick_short in
          omega arith

      whole : ((d : ℕ) → has_card (hand_of s (to_play s.position)) d ≡ true → same_suit (suit_of d) (suit_of w) ≡ false) → legal_in s ≡ hand_of s (to_play s.position)
      whole none = ap (λ (l : List ℕ). legal_cards l (hand_of s (to_play s.position))) f.trick.are
          ∙ ap (λ (l : List ℕ). or_whole l (hand_of s (to_play s.position))) (filter-none (λ d. same_suit (suit_of d) (suit_of w)) (hand_of s (to_play s.position)) none)

      other : ((d : ℕ) → has_card (hand_of s (to_play s.position)) d ≡ true → same_suit (suit_of d) (suit_of w) ≡ false) → (d : ℕ) × (has_card (legal_in s) d ≡ true) × (has_card theirs d ≡ false)
      other none =
          let rest = length-minus (hand_of s (to_play s.position)) theirs (hand_set s f.trick.ok (to_play s.position)) set held in
          let full = hand_full in
          let d = some_card (filter (λ c. not (has_card theirs c)) (hand_of s (to_play s.position))) (omega arith) in
          let both = and_parts (has_card (hand_of s (to_play s.position)) d.0) (not (has_card theirs d.0)) (sym (has_card-filter (λ c. not (has_card theirs c)) (hand_of s (to_play s.position)) d.0) ∙ d.1) in
          (d.0, ap (λ (l : List ℕ). has_card l d.0) (whole none) ∙ both.0, not-true (has_card theirs d.0) both.1)

      go : (c : ℕ) × (has_card (legal_in s) c ≡ true) → (d : ℕ) × (has_card (legal_in s) d ≡ true) × (has_card theirs d ≡ false)
      go c =
          let may = may_follow w f.others (hand_of s (to_play s.position)) c.0 (subst (λ (l : List ℕ). has_card (legal_cards l (hand_of s (to_play s.position))) c.0 ≡ true) f.trick.are c.1) in
          ⊎_elim
          (λ (same : suit_of c.0 ≡ suit_of w). (
            c.0,
            c.1,
            elim (cases_Bool (has_card theirs c.0)) as (λ _. has_card theirs c.0 ≡ false) [
              | inl e ↦ absurd (differ c.0 e same)
              | inr e ↦ e
            ],
          ))
          (λ (none : (d : ℕ) → has_card (hand_of s (to_play s.position)) d ≡ true → same_suit (suit_of d) (suit_of w) ≡ false). other none)
          may.suit

-- ---- one trick after another

pub joint : (k : ℕ) (x : Seat) (s : State) (ours theirs : List ℕ) (link v : ℕ) → IsJoint x s ours theirs link v → length ours ≡ k
    → Suffices (is_declarers x) s.position (k + length theirs) → makes s ≡ is_declarers x
joint zero x s ours theirs link v j few h =
    let t = top_of_suit theirs v j.set j.there in
    let some = has_card-length theirs v j.there in
    let room = j.room in
    crossing x theirs t.0 t.2 link (sym (t.1 ∙ j.suit)) s
    (record { ok = j.lead.ok; on = omega arith; leads = j.lead.leads; trumps = j.lead.trumps; are = j.lead.none })
    j.kept.held j.kept.high j.kept.linked (subst (λ n. Suffices (is_declarers x) s.position n) (omega arith) h)
joint (suc k) x s ours theirs link v j few h = go (lead_of NoTrump ours j.lead.set (omega arith)) (λ s' w j' few' h'. joint k x s' (take_out w ours) theirs link v j' few' h')
  where
    go : (w : ℕ) × IsLead NoTrump ours w
        → ((s' : State) (w : ℕ) → IsJoint x s' (take_out w ours) theirs link v → length (take_out w ours) ≡ k → Suffices (is_declarers x) s'.position (k + length theirs) → makes s' ≡ is_declarers x)
        → makes s ≡ is_declarers x
    go (w, lead) again =
        let b = is_declarers x in
        let l = j.lead in
        let n = k + length theirs in
        let low_w = has_card-below ours w l.set lead.among in
        let x_not_z : x ≢ seat_after 2 x = seats_differ 0 2 x (omega arith) (omega arith) (λ e. omega arith) in
        let differ : (d : ℕ) → has_card theirs d ≡ true → suit_of d ≢ suit_of w
        = λ d held e. apart_suits ours theirs (hand_of s x) (hand_of s (seat_after 2 x)) w d l.set j.set l.held j.kept.held
        (l.high (seat_after 2 x) (λ i. x_not_z (sym i))) (j.kept.high x x_not_z) lead.among held (sym e) in
        let legal = lead_legal x NoTrump ours w lead low_w s l in
        let short = in_short x NoTrump ours w lead low_w s l in
        let h0 : Suffices b s.position (suc n) = subst (λ i. Suffices b s.position i) (omega arith) h in
        let w_held : has_card (hand_of s x) w ≡ true = l.held w lead.among in
        let w_link : w ≢ link = λ e. false≢true (sym j.new ∙ ap (has_card ours) (sym e) ∙ lead.among) in
        let k1 = kept_after x s theirs link w j.kept (spare_card s l.ok x (seat_after 2 x) theirs w x_not_z w_held j.kept.held) w_link in
        let f1 = led x NoTrump ours w lead low_w s l in
        let r1 = tricks_within s.position w l.ok.sound (legal_can_play s l.ok w legal) short in
        let h1 = suffices_within b s.position w (suc n) l.ok.sound (legal_can_play s l.ok w legal) short h0 in
        by_card s b w l.ok (going s.position (some_left x NoTrump ours w lead low_w s l)) (ap is_declarers (at_turn x NoTrump ours w lead low_w s l)) legal
        (by_each (after s w) b f1.trick.ok (going (after s w).position f1.trick.on) (λ c1 l1.
        let s1 = after s w in
        let count1 = f1.count in
        let can1 = legal_can_play s1 f1.trick.ok c1 l1 in
        let f2 = stepped x NoTrump ours w lead low_w s1 1 f1 (omega arith) (omega arith) c1 l1 (omega arith) in
        let r2 = tricks_within s1.position c1 f1.trick.ok.sound can1 (omega arith) in
        let h2 = suffices_within b s1.position c1 (suc n) f1.trick.ok.sound can1 (omega arith) h1 in
        let held1 : has_card (hand_of s1 (seat_after 1 x)) c1 ≡ true = subst (λ seat. has_card (hand_of s1 seat) c1 ≡ true) (turn x NoTrump ours w lead low_w s1 1 f1 (omega arith) (omega arith) c1 l1)
        (in_hand x NoTrump ours w lead low_w s1 1 f1 (omega arith) (omega arith) c1 l1) in
        let k2 = kept_by_other x s1 theirs link c1 1 f1.trick.ok k1 (omega arith) (λ e. omega arith) (λ e. omega arith) held1 in
        let s2 = after s1 c1 in
        let at2 : to_play s2.position ≡ seat_after 2 x = ap₂ (λ (i : ℕ) (seat : Seat). seat_after i seat) f2.count f2.trick.leads in
        let room = j.room in
        let d = discard x ours theirs w link j.set differ s2 f2 at2 k2 (omega arith) in
        let can2 = legal_can_play s2 f2.trick.ok d.0 d.1 in
        let count2 = f2.count in
        let f3 = stepped x NoTrump ours w lead low_w s2 2 f2 (omega arith) (omega arith) d.0 d.1 (omega arith) in
        let r3 = tricks_within s2.position d.0 f2.trick.ok.sound can2 (omega arith) in
        let h3 = suffices_within b s2.position d.0 (suc n) f2.trick.ok.sound can2 (omega arith) h2 in
        let held2 : has_card (hand_of s2 (seat_after 2 x)) d.0 ≡ true = subst (λ seat. has_card (hand_of s2 seat) d.0 ≡ true) at2 (legal_cards-low s2.position.trick.cards (hand_of s2 (to_play s2.position)) d.0 d.1) in
        let k3 = kept_after x s2 theirs link d.0 k2 d.2 (other_card s2 f2.trick.ok (seat_after 2 x) x d.0 link (λ e. x_not_z (sym e)) held2 k2.linked) in
        by_card s2 b d.0 f2.trick.ok (going s2.position f2.trick.on) (ap is_declarers at2 ∙ partners_side x) d.1
        (by_each (after s2 d.0) b f3.trick.ok (going (after s2 d.0).position f3.trick.on) (λ c3 l3.
        let s3 = after s2 d.0 in
        let can3 = legal_can_play s3 f3.trick.ok c3 l3 in
        let e = ended x NoTrump ours w lead low_w s3 3 f3 (omega arith) (omega arith) c3 l3 refl in
        let won = wins x NoTrump ours w lead low_w s3 3 f3 (omega arith) (omega arith) c3 l3 in
        let r4 = tricks_last s3.position c3 f3.trick.ok.sound can3 f3.count in
        let h4 = suffices_after b s3.position c3 n f3.trick.ok.sound can3 f3.count (ap is_declarers won) h3 in
        let held3 : has_card (hand_of s3 (seat_after 3 x)) c3 ≡ true = subst (λ seat. has_card (hand_of s3 seat) c3 ≡ true) (turn x NoTrump ours w lead low_w s3 3 f3 (omega arith) (omega arith) c3 l3)
        (in_hand x NoTrump ours w lead low_w s3 3 f3 (omega arith) (omega arith) c3 l3) in
        let k4 = kept_by_other x s3 theirs link c3 3 f3.trick.ok k3 (omega arith) (λ i. omega arith) (λ i. omega arith) held3 in
        let less = length-take_out ours w l.set lead.among in
        again (after s3 c3) w (record {
          lead = e;
          kept = k4;
          new = has_card-take_out w ours link ∙ rw j.new refl;
          set = j.set;
          there = j.there;
          suit = j.suit;
          room = omega arith;
        }) (omega arith) h4))))
