-- The two versions of a report: by how many layouts a vector wins if each layout weighs 1, and otherwise by their
-- weight.
use Rattle.std.specs.Prelude.{ℕ, Bool, true, List, [], ◌++◌, ◌*◌, ◌==◌, codes, if◌then◌else◌}
use Rattle.std.specs.List.{list_all}
use Rattle.std.specs.Fmt.{decimal}
use Rattle.byte_text.specs.Lines.{line_of}
use Rattle.win_vectors.specs.Vectors.{ones_of}
use Rattle.layout_list.specs.Lines.{most_listed, most_weight}
use Rattle.am_report.specs.declared.version.Version.{Version}
use Rattle.am_report.specs.declared.version.Version.TheVariants.{Counts, Weights}
use Rattle.am_report.specs.Lines.{spaced}

-- whether each layout weighs 1
abbrev pub weigh_alike : List ℕ → Bool
weigh_alike weights = list_all (λ weight. weight == 1) weights

-- the version of a text about layouts with these weights
abbrev pub version_of : List ℕ → Version
version_of weights = if weigh_alike weights then Counts else Weights

-- the version's number, as the first line of a text gives it
abbrev pub version_number : Version → List ℕ
version_number Counts = codes "1"
version_number Weights = codes "2"

-- the word before how many layouts are won, or before their weight
abbrev pub weight_word : Version → List ℕ
weight_word Counts = codes " count "
weight_word Weights = codes " weight "

-- the greatest number that may follow the word
abbrev pub most_written : Version → ℕ
most_written Counts = most_listed
most_written Weights = most_listed * most_weight

-- a number that may follow a vector: in the first version the count of its ones
abbrev pub may_stand : Version → List Bool → ℕ → Bool
may_stand Counts vector number = number == ones_of vector
may_stand Weights vector number = true

-- the word and the weight
abbrev pub weight_text : Version → ℕ → List ℕ
weight_text version weight = weight_word version ++ decimal weight

-- the weights of the kept layouts, where they aren't all 1
abbrev pub weights_line : Version → List ℕ → List ℕ
weights_line Counts weights = []
weights_line Weights weights = line_of (codes "weights " ++ spaced decimal weights)
