-- A position with its fields in sight.
use Rattle.trick_rules.specs.declared.position.Position.TheInside.{Inside}
use Rattle.trick_rules.specs.Positions.{PositionValue}

-- what these fields are seen as
abbrev pub seen_as : Inside → PositionValue
seen_as p = record { declarer = p.declarer; dummy = p.dummy; unseen = p.unseen; trick = p.trick; need = p.need; trump = p.trump }
