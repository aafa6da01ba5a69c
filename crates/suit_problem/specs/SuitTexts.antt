-- The two files of an ending in which a suit is played.
use Rattle.std.specs.Prelude.{ℕ, ◌+◌, ◌-◌, ◌*◌, ◌/◌, Some, None, List, [], ◌∷◌, ◌++◌, length, flat_map, get_or, codes}
use Rattle.std.specs.List.{range_with_len}
use Rattle.std.specs.Fmt.{decimal}
use Rattle.byte_text.specs.Lines.{line_of}
use Rattle.pbn_deal.specs.Writing.{deal_text}
use Rattle.layout_list.specs.declared.line.Layout.{Layout}
use Rattle.layout_maker.specs.Choosing.{ways}
use Rattle.layout_maker.specs.Divisions.{divisions}
use Rattle.suit_problem.specs.declared.ending.Ending.{Ending}
use Rattle.suit_problem.specs.Endings.{north_hand, south_hand, west_hand, east_hand}

-- ---- the deal

-- the deal file of an ending in which this many tricks of the suit are wanted, beside all entries
unfoldable pub suit_deal : Ending → ℕ → List ℕ
suit_deal ending wanted =
    codes "[Deal \"" ++ deal_text (Some (north_hand ending) ∷ None ∷ Some (south_hand ending) ∷ None ∷ [])
    ++ codes "\"]\n[Declarer \"S\"]\n[Contract \"1NT\"]\n[EndNeed \"" ++ decimal (wanted + 2 * ending.entries) ++ codes "\"]\n[EndLead \"S\"]\n"

-- ---- the layouts

-- for each number of missing cards from none to eight, what the weights of all divisions have in common
abbrev pub commons : List ℕ
commons = 10400600 ∷ 5200300 ∷ 208012 ∷ 104006 ∷ 4522 ∷ 4522 ∷ 646 ∷ 646 ∷ 34 ∷ []

-- the weight of a division in which West has this many of the missing cards: the ways to choose the rest of West's thirteen
-- cards from the others that the defenders hold, over what all weights have in common
abbrev pub division_weight : ℕ → ℕ → ℕ
division_weight missing west = ways (26 - missing) (13 - west) / get_or commons missing 0

-- the line of a division
unfoldable pub division_line : Ending → Layout → List ℕ
division_line ending division =
    decimal (division_weight (length ending.missing) (length division.left)) ++ codes " "
    ++ line_of (deal_text (Some (north_hand ending) ∷ Some (east_hand ending division.left division.right) ∷ Some (south_hand ending)
    ∷ Some (west_hand ending division.left) ∷ []))

-- a line for each division in which West has this many of the missing cards
abbrev pub division_lines : Ending → ℕ → List ℕ
division_lines ending size = flat_map (division_line ending) (divisions size ending.missing)

-- the layout file of an ending: a line for each division of the missing cards
unfoldable pub suit_layouts : Ending → List ℕ
suit_layouts ending = flat_map (division_lines ending) (range_with_len 0 (length ending.missing + 1))
