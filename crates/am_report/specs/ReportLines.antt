-- What the lines of a report say.
use Rattle.std.specs.Prelude.{ℕ, Bool, ◌&&◌, not, nat_le, Option, None, Some, option_and_then, List, ◌∷◌, map, drop, take, if◌then◌else◌, codes}
use Rattle.std.specs.Option.{option_map}
use Rattle.std.specs.List.{position_or_len}
use Rattle.bit_letters.specs.Bits.{is_bit, is_one}
use Rattle.card_letters.specs.Letters.{card_read}
use Rattle.byte_text.specs.Lines.{text_after}
use Rattle.byte_text.specs.Numerals.{number_within}
use Rattle.layout_list.specs.Lines.{most_listed}
use Rattle.trick_rules.specs.Nodes.{most_moves}
use Rattle.am_report.specs.declared.version.Version.{Version}
use Rattle.am_report.specs.Versions.{weight_word, most_written, may_stand}

-- ---- lines

-- `front` and the number of vectors
unfoldable pub front_said : List ℕ → Option ℕ
front_said text = option_and_then (number_within 1 4294967295) (text_after (codes "front ") text)

-- `moves` and how many moves declarer's side has
unfoldable pub moves_said : List ℕ → Option ℕ
moves_said text = option_and_then (number_within 1 most_moves) (text_after (codes "moves ") text)

-- `count` and a number of layouts, or `weight` and a weight, at the end of a line
unfoldable pub weight_said : Version → List ℕ → Option ℕ
weight_said version text = option_and_then (number_within 0 (most_written version)) (text_after (weight_word version) text)

-- a byte that is no bit
abbrev pub ends_bits : ℕ → Bool
ends_bits byte = not (is_bit byte)

-- a vector with its weight, if the text gives one that may follow it
abbrev pub weighed : Version → List Bool → List ℕ → Option (List Bool × ℕ)
weighed version vector text =
    option_and_then (λ weight. if may_stand version vector weight then Some (vector, weight) else None) (weight_said version text)

-- 1 to 256 bits, and the count of their ones or their weight
unfoldable pub bits_said : Version → List ℕ → Option (List Bool × ℕ)
bits_said version text =
    let width = position_or_len ends_bits text in
    if nat_le 1 width && nat_le width most_listed then weighed version (map is_one (take width text)) (drop width text) else None

-- `vector`, its bits, and the count of its ones or their weight
unfoldable pub vector_said : Version → List ℕ → Option (List Bool × ℕ)
vector_said version text = option_and_then (bits_said version) (text_after (codes "vector ") text)

-- a card by its two letters, in either case, and a count or a weight
abbrev pub card_weighed : Version → List ℕ → Option (ℕ × ℕ)
card_weighed version (suit ∷ rank ∷ text) = option_and_then (λ card. option_map (λ weight. (card, weight)) (weight_said version text)) (card_read suit rank)
card_weighed version _ = None

-- `card`, the card to play, and how many layouts make the contract, or their weight
unfoldable pub card_said : Version → List ℕ → Option (ℕ × ℕ)
card_said version text = option_and_then (card_weighed version) (text_after (codes "card ") text)
