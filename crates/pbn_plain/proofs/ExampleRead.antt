-- The example, worked out.
use Rattle.std.proofs.Common.{◌≡◌, true, Ok, refl, inl, ap, sym, ◌∙◌, List}
use Rattle.pbn_text.specs.Games.{GameValue}
use Rattle.pbn_text.specs.Grammar.{games_read}
use Rattle.pbn_plain.specs.PlainText.{plain_text}
use Rattle.pbn_plain.specs.WellWritten.{is_well_written}
use Rattle.pbn_plain.specs.Numbered.{numbered}
use Rattle.pbn_plain.specs.Example.{example, example_text, example_games}
use Rattle.pbn_plain.proofs.ReadBack.{plain_text-read}

pub example-written : is_well_written example ≡ true
unfolding is_well_written example
example-written = refl

pub example-text : plain_text example ≡ example_text
unfolding plain_text example example_text
example-text = refl

pub example-games : numbered example ≡ example_games
unfolding numbered example example_games
example-games = refl

pub example-read : games_read example_text ≡ Ok example_games
example-read = ap games_read (sym example-text) ∙ plain_text-read example (plain_text example) example-written (inl refl) ∙ ap (λ (games : List GameValue). Ok games) example-games
