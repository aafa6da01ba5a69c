-- Which cuts a search makes.
use Rattle.std.specs.Prelude.{true, false}
use Rattle.cut_rules.specs.declared.CutRules.{CutRules}
use Rattle.cut_rules.specs.declared.Stop.{Stop}
use Rattle.cut_rules.specs.declared.Stop.TheVariants.{Never}

-- the rules by which each card is searched to its end
abbrev pub no_cuts : CutRules
no_cuts = record { early = false; deepen = false; bound = false; stop = Never }

-- the rules with each cut, and this stop
abbrev pub all_cuts : Stop → CutRules
all_cuts stop = record { early = true; deepen = true; bound = true; stop = stop }
