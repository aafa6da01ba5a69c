-- What several parts of a page share.
use Rattle.std.specs.Prelude.{ℕ, List, ◌++◌}
use Rattle.std.specs.Fmt.{decimal}
use Rattle.html_text.specs.declared.page.Piece.{Piece}
use Rattle.html_text.specs.Pages.{own, told}

-- a number between two texts of the page's own
unfoldable pub numbered : List ℕ → List ℕ → ℕ → List Piece
numbered before after number = own before ++ told (decimal number) ++ own after
