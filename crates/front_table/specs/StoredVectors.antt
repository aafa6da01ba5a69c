-- The vectors of an entry, as they are kept.
use Rattle.std.specs.Prelude.{List}
use Rattle.win_vectors.specs.Fronts.{Vector}
use Rattle.front_table.specs.declared.stored_vectors.StoredVectors.{StoredVectors}
use Rattle.front_table.specs.declared.stored_vectors.StoredVectors.TheVariants.{Narrow, Wide}

abbrev pub vectors_of : StoredVectors → List Vector
vectors_of (Narrow vectors) = vectors.items
vectors_of (Wide vectors) = vectors.items
