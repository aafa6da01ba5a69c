use Rattle.std.proofs.Common.{◌∙◌, sym, refl}
use Rattle.std.proofs.lemmas.Bool.{eq-eqb, eqb-true}
use Rattle.win_vectors.proofs.WordOrders.{equal-words, Decides-same_words}
use Rattle.win_vectors.proofs.win_vector.WinVector.equals.Goals as goal

pub returns-then-self-other : goal.returns-then-self-other
returns-then-self-other c = (
  λ e. rw (← c.self.view_is, ← c.other.view_is, c.if-self-other.true, (Decides-same_words c.self.inside.words c.other.inside.words).0 (sym c.eq.ensures ∙ e)) refl,
  λ e.
      let same = equal-words c.self.inside.width c.other.inside.width c.self.inside.words c.other.inside.words c.self.invariant c.other.invariant (c.self.view_is ∙ e ∙ sym c.other.view_is) in
      c.eq.ensures ∙ (Decides-same_words c.self.inside.words c.other.inside.words).1 same.1,
)

pub returns-else-self-other : goal.returns-else-self-other
returns-else-self-other c = (
  λ e. absurd (c.if-self-other.false (eqb-true c.self.inside.width c.other.inside.width e)),
  λ e.
      let same = equal-words c.self.inside.width c.other.inside.width c.self.inside.words c.other.inside.words c.self.invariant c.other.invariant (c.self.view_is ∙ e ∙ sym c.other.view_is) in
      eq-eqb c.self.inside.width c.other.inside.width same.0,
)
