-- The numbers of plan nodes.
use Rattle.std.specs.Prelude.{ℕ, ◌+◌, Option, None, Some, Result, Ok, Err}

-- with `before` nodes earlier: the number of the last of `count` more, or of the one among them that doesn't fit
abbrev pub counted_nodes : ℕ → ℕ → Option ℕ → Result ℕ ℕ
counted_nodes before count None = Ok (before + count)
counted_nodes before count (Some misfit) = Err (before + misfit)
