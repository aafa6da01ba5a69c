use Rattle.std.proofs.Common.{◌≡◌, false, sym, ap, ◌∙◌}
use Rattle.trick_rules.specs.Play.{of_suit}
use Rattle.sure_tricks.proofs.Looking.{suited_same}
use Rattle.sure_tricks.proofs.Summing.{least_of}
use Rattle.sure_tricks.proofs.count.SeenHands.drawn.Goals as goal

pub returns-in-Suit-clause-some : goal.returns-in-Suit-clause-some
returns-in-Suit-clause-some c = λ suit e.
    let h = c.args.self.now in
    let same : c.in-Suit.suit ≡ suit = suited_same c.in-Suit.suit suit (sym c.in-Suit.is ∙ e) in
    c.sure_of.ensures
    ∙ ap (λ r. least_of r.next r.partner r.last (of_suit c.in-Suit.suit h.own) (of_suit c.in-Suit.suit h.next) (of_suit c.in-Suit.suit h.partner) (of_suit c.in-Suit.suit h.last)) c.none.ensures
    ∙ ap (λ s. least_of false false false (of_suit s h.own) (of_suit s h.next) (of_suit s h.partner) (of_suit s h.last)) same
