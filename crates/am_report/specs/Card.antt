-- An answer that is one card.
use Rattle.std.specs.Prelude.{ℕ, List, ◌++◌, sum, codes}
use Rattle.std.specs.Fmt.{decimal}
use Rattle.card_letters.specs.Letters.{letters_of}
use Rattle.byte_text.specs.Lines.{line_of}
use Rattle.am_report.specs.declared.version.Version.{Version}
use Rattle.am_report.specs.Versions.{version_of, version_number, weight_text}

-- the card to play, and how many layouts make the contract, or their weight
unfoldable pub named_text : Version → ℕ → ℕ → List ℕ
named_text version card weight = codes "card " ++ letters_of card ++ weight_text version weight

-- the answer, and the number of kept layouts, or the sum of their weights
unfoldable pub card_text : ℕ → ℕ → List ℕ → List ℕ
card_text card weight weights =
    line_of (codes "alphamu card " ++ version_number (version_of weights))
    ++ line_of (named_text (version_of weights) card weight ++ codes " of " ++ decimal (sum weights))
