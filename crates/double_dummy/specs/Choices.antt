-- What a choice of cards comes to.
use Rattle.std.specs.Prelude.{ℕ, Bool, List, if◌then◌else◌}
use Rattle.std.specs.List.{list_any, list_all}
use Rattle.trick_rules.specs.Positions.{State}
use Rattle.trick_rules.specs.Play.{after, makes}

-- whether declarer's side makes where the seat to play chooses among these cards: it plays for itself at its own turn (`ours`),
-- and against it at a defender's
abbrev pub choice_makes : Bool → State → List ℕ → Bool
choice_makes ours s cards = if ours then list_any (λ card. makes (after s card)) cards else list_all (λ card. makes (after s card)) cards
