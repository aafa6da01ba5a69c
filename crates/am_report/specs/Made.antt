-- What is found for layouts that a number makes.
use Rattle.std.specs.Prelude.{ℕ, List, ◌++◌, codes}
use Rattle.std.specs.Fmt.{decimal}
use Rattle.card_letters.specs.Letters.{letters_of}
use Rattle.byte_text.specs.Lines.{line_of}
use Rattle.am_report.specs.declared.made.MadeSummary.{MadeSummary}

-- the number, how many layouts are kept, the length of the front, the best count, and the card that is named
unfoldable pub made_text : MadeSummary → List ℕ
made_text summary =
    line_of (codes "alphamu made 1")
    ++ line_of (codes "number " ++ decimal summary.number)
    ++ line_of (codes "layouts " ++ decimal summary.layouts)
    ++ line_of (codes "front " ++ decimal summary.front)
    ++ line_of (codes "best " ++ decimal summary.best)
    ++ line_of (codes "card " ++ letters_of summary.card)
