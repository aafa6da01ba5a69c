use Rattle.std.proofs.Common.{sym, ◌∙◌}
use Rattle.trick_rules.proofs.PlayLaws.{makes_where_decided}
use Rattle.strategy_check.proofs.winning.makes.Goals as goal

pub returns-in-Some : goal.returns-in-Some
returns-in-Some g c =
    sym (makes_where_decided (record { position = c.args.position.now; left = c.args.left }) c.in-Some.made c.requires (sym c.decided.ensures ∙ c.in-Some.is))
