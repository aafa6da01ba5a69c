use Rattle.std.proofs.Common.{◌<◌, ◌+◌, ◌∷◌, ℕ, drop, subst, sym, ap, ◌∙◌}
use Rattle.pbn_deal.specs.Hands.{suit_cards}
use Rattle.pbn_deal.proofs.Dealt.{IsReading, IsReading-card, suit_cards-some, suit_cards-none, card_of-below}
use Rattle.pbn_deal.proofs.hands.Dealer.add_suit.Goals.{in-Some+else-has, in_default}
use Rattle.pbn_deal.proofs.hands.Dealer.add_suit.Goals as goal

pub loop-letter-preserved : goal.loop-letter-preserved
loop-letter-preserved c =
    let suit = c.args.suit in
    let at = c.loop-letter.letter-index in
    let letters = c.args.letters.now in
    let reads = IsReading c.args.self.now.seen c.args.hand (suit_cards suit letters) c.loop-letter.self.seen c.loop-letter.full in
    elim c.match-read_rank.branch [
      | in-Some+else-has w ↦
          let card = w.new-card.result in
          let below : card < 52 = subst (λ (x : ℕ). x < 52) (sym w.new-card.ensures.value) (card_of-below suit w.in-Some.rank w.new-card.ensures.low w.new-card.ensures.high) in
          let next = suit_cards-some suit letters at w.in-Some.rank c.loop-letter-test.true (sym c.read_rank.ensures ∙ w.in-Some.is) ∙ ap (λ (x : ℕ). x ∷ suit_cards suit (drop (at + 1) letters)) (sym w.new-card.ensures.value) in
          IsReading-card c.args.self.now.seen c.args.hand (suit_cards suit letters) c.loop-letter.self.seen c.loop-letter.full (suit_cards suit (drop (at + 1) letters)) card
          (subst reads next c.loop-letter.invariant) (sym w.has.ensures.value ∙ w.if-has.false) w.has.ensures.a_set below
          c.match-read_rank.self.seen c.match-read_rank.full (ap (λ d. d.seen) w.self-is ∙ w.with-self.ensures.value) (w.full-is ∙ w.with-full.ensures.value) (rw w.full-is w.with-full.ensures.a_set)
      | in_default w ↦
          rw (w.self-is, w.full-is) (subst reads (suit_cards-none suit letters at c.loop-letter-test.true (sym c.read_rank.ensures ∙ w.in_default.is)) c.loop-letter.invariant)
    ]
