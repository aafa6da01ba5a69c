use Rattle.std.proofs.Common.{◌∙◌, sym}
use Rattle.layout_maker.proofs.Told.{void_cards-led, void_cards-follows, void_cards-void}
use Rattle.layout_maker.proofs.allowed.void_cards.Goals as goal

pub returns-in_default : goal.returns-in_default
returns-in_default c = c.empty.ensures.value ∙ sym (void_cards-led c.args.trick.now.cards c.args.unseen c.args.card c.in_default.ensures)

pub returns-then-follows : goal.returns-then-follows
returns-then-follows c =
    c.empty-then-follows.ensures.value
    ∙ sym (void_cards-follows c.args.trick.now.cards c.args.unseen c.args.card c.in-Some.suit c.in-Some.ensures (sym c.follows.ensures ∙ c.if-follows.true))

pub returns-else-follows : goal.returns-else-follows
returns-else-follows c =
    c.of_suit.ensures.value ∙ sym (void_cards-void c.args.trick.now.cards c.args.unseen c.args.card c.in-Some.suit c.in-Some.ensures (sym c.follows.ensures ∙ c.if-follows.false))
