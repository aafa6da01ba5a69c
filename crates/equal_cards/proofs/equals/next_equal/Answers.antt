use Rattle.std.proofs.Common.{rules, ◌≡◌, ℕ, Some, None, true, ap, sym, ◌∙◌, subst}
use Rattle.std.proofs.lemmas.Bool.{false≢true}
use denote.Enum.Bare.{same_true, same_false}
use Rattle.card_sets.specs.contracts.card.Suit.{the_type}
use Rattle.card_sets.specs.SetWords.{has_card, next_card}
use Rattle.trick_rules.specs.Nodes.{choices}
use Rattle.equal_cards.specs.Equals.{AreEqualAt}
use Rattle.equal_cards.proofs.Next.{none_after, next-only, next-equal}
use Rattle.equal_cards.proofs.equals.next_equal.Goals as goal
use Rattle.equal_cards.proofs.equals.next_equal.Goals.{else-has-via-then-has+then-eq+else-same_layouts, else-has-via-then-has+else-eq, else-has-via-else-has}

pub returns-in_err-next : goal.returns-in_err-next
returns-in_err-next c high = (
  λ e. let none : None ≡ Some high = sym c.from_residual.ensures ∙ e in cc,
  λ eq. absurd (none_after c.args.node.now c.requires.node c.args.playing c.requires.playing c.args.card high (sym c.in_err-next.ensures.value) eq),
)

pub returns-then-same_layouts : goal.returns-then-same_layouts
returns-then-same_layouts c high =
    let n = c.args.node.now in
    let next = c.in_ok-next.next in
    let found : next_card c.args.playing c.args.card ≡ Some next = sym c.in_ok-next.ensures.value in
    let in_choices : (card : ℕ) → has_card c.args.choices card ≡ true → has_card (choices n) card ≡ true = λ card h. sym (ap (λ x. has_card x card) c.requires.choices) ∙ h in
    let suits : c.suit.result ≡ c.suit-then-has.result = same_true the_type (search rules) _ _ (sym c.if-eq.ensures) in
    let equal : AreEqualAt n c.args.card next = next-equal n c.requires.node c.args.playing c.requires.playing c.args.card next found
    (in_choices c.args.card c.requires.choice) (in_choices next (sym c.if-has.ensures.value))
    (sym c.suit-then-has.ensures.value ∙ sym suits ∙ c.suit.ensures.value) (c.same_layouts.ensures.0 c.if-same_layouts.true) in (
      λ (e : Some next ≡ Some high). (let same : next ≡ high = cc in subst (AreEqualAt n c.args.card) same equal),
      λ eq. ap Some (next-only n c.requires.node c.args.playing c.requires.playing c.args.card next high found eq),
    )

pub returns-else-has : goal.returns-else-has
returns-else-has c high =
    let n = c.args.node.now in
    let next = c.in_ok-next.next in
    let found : next_card c.args.playing c.args.card ≡ Some next = sym c.in_ok-next.ensures.value in
    let equal : AreEqualAt n c.args.card high → AreEqualAt n c.args.card next = λ eq.
    subst (AreEqualAt n c.args.card) (sym (next-only n c.requires.node c.args.playing c.requires.playing c.args.card next high found eq)) eq in (
      λ e. cc,
      λ eq. absurd (let h = equal eq in elim c.else-has.branch [
        | else-has-via-then-has+then-eq+else-same_layouts w ↦ false≢true (sym w.if-same_layouts.false ∙ w.same_layouts.ensures.1 h.same_layouts)
        | else-has-via-then-has+else-eq w ↦
            same_false the_type _ _ (sym w.eq.ensures ∙ w.if-eq.false) (w.suit.ensures.value ∙ sym h.suit ∙ sym w.suit-then-has.ensures.value)
        | else-has-via-else-has w ↦
            false≢true (sym w.if-has.false ∙ c.has.ensures.value ∙ ap (λ x. has_card x next) c.requires.choices ∙ h.high_choice)
      ]),
    )
