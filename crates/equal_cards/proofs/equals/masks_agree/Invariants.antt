use Rattle.std.proofs.Common.{◌≡◌, ℕ, ◌<◌, List, get_or}
use Rattle.trick_rules.specs.Nodes.{is_legal}
use Rattle.equal_cards.proofs.equals.masks_agree.Given as goal

abbrev pub invariant-loop-left : goal.invariant-loop-left
invariant-loop-left l = (k : ℕ) (d : List ℕ) → k < l.left-index → is_legal l.position l.card (get_or l.left-items k d) ≡ is_legal l.position l.other (get_or l.left-items k d)
