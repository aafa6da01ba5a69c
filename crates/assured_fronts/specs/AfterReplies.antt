-- What is assured after each card of a defender.
use Rattle.std.specs.Prelude.{◌≡◌, ◌<◌, ℕ, false, List}
use Rattle.std.specs.List.{AllZip}
use Rattle.trick_rules.specs.Positions.{to_play}
use Rattle.trick_rules.specs.Play.{is_declarers}
use Rattle.trick_rules.specs.Nodes.{NodeValue, choices, child, child_mask}
use Rattle.assured_fronts.specs.declared.replies.AfterReply.{AfterReply}
use Rattle.assured_fronts.specs.AssuredAt.{IsAssuredAt, claims}

-- play goes on at a node with these moves, and a defender is to play
pub record Waits (n : NodeValue) (moves : ℕ) : Type 0 where
  pub goes_on : claims n ≡ false
  pub some : 0 < moves
  pub theirs : is_declarers (to_play n.position) ≡ false

-- after a card of a defender: the layouts in which it is legal, and what is assured in them with these moves
pub record IsAfterReply (n : NodeValue) (moves card : ℕ) (found : AfterReply) : Type 0 where
  pub mask : found.mask ≡ child_mask n card
  pub front : IsAssuredAt (child n card) moves found.front

-- after each of its cards, in card order
abbrev pub AreAfterReplies : NodeValue → ℕ → List AfterReply → Type 0
AreAfterReplies n moves found = AllZip (IsAfterReply n moves) (choices n) found
