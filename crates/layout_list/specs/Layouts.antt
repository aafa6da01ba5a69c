-- The kept layouts of a file, or its first fault.
use Rattle.std.specs.Prelude.{◌≡◌, ℕ, Option, is_none, Result, Ok, Err, List, [], ◌∷◌, map, filter, filter_map, option_map, ◌⊎◌}
use Rattle.std.specs.List.{enumerate_from}
use Rattle.trick_rules.specs.Positions.{PositionValue}
use Rattle.trick_rules.specs.Nodes.{IsNode}
use Rattle.pbn_deal.specs.declared.board.Played.{Played}
use Rattle.pbn_deal.specs.Boards.{BoardValue}
use Rattle.pbn_deal.specs.BoardRead.{together}
use Rattle.byte_text.specs.Steps.{◌>>=◌}
use Rattle.layout_list.specs.declared.fault.LayoutFault.{LayoutFault}
use Rattle.layout_list.specs.declared.fault.LayoutFault.TheVariants.{NoneLeft, Memory}
use Rattle.layout_list.specs.declared.kept.Dropped.{Dropped}
use Rattle.layout_list.specs.declared.line.Layout.{Layout}
use Rattle.layout_list.specs.declared.line.Weighed.{Weighed}
use Rattle.layout_list.specs.declared.verdict.Contradiction.{Contradiction}
use Rattle.layout_list.specs.Kept.{KeptValue}
use Rattle.layout_list.specs.Lines.{numbered_lines, layout_lines, lines_read}
use Rattle.layout_list.specs.Verdicts.{first_position, contradiction, position_after, hand_after}

-- what the play says of a layout, from this position on
abbrev pub verdict : List Played → PositionValue → Layout → Option Contradiction
verdict plays t layout = contradiction 1 (record { position = t; left = layout.left }) plays

-- the layouts that the play allows, with their numbers
abbrev pub allowed : List Played → PositionValue → List (ℕ × Weighed) → List (ℕ × Weighed)
allowed plays t layouts = filter (λ l. is_none (verdict plays t l.1.layout)) layouts

-- those that it doesn't, with the first card that each contradicts
abbrev pub dropped : List Played → PositionValue → List (ℕ × Weighed) → List Dropped
dropped plays t layouts = filter_map (λ l. option_map (λ c. record { number = l.0; cause = c.cause; play = c.play }) (verdict plays t l.1.layout)) layouts

-- the numbers of the layouts that the play allows
abbrev pub numbers_kept : List Played → PositionValue → List (ℕ × Weighed) → List ℕ
numbers_kept plays t layouts = map (λ l. l.0) (allowed plays t layouts)

-- the weights of the layouts that the play allows
abbrev pub weights_kept : List Played → PositionValue → List (ℕ × Weighed) → List ℕ
weights_kept plays t layouts = map (λ l. l.1.weight) (allowed plays t layouts)

-- Left's cards after the play in the layouts that it allows
abbrev pub lefts_kept : List Played → PositionValue → List (ℕ × Weighed) → List (List ℕ)
lefts_kept plays t layouts = map (λ l. hand_after l.1.layout.left plays) (allowed plays t layouts)

-- the fault that no layout is left, or else what is kept
abbrev pub unless_none : List ℕ → KeptValue → Result KeptValue LayoutFault
unless_none [] kept = Err NoneLeft
unless_none (number ∷ numbers) kept = Ok kept

-- what is kept of numbered layouts that have one position before the first card
abbrev pub kept_over : List Played → PositionValue → List (ℕ × Weighed) → Result KeptValue LayoutFault
kept_over plays t layouts =
    unless_none (numbers_kept plays t layouts)
    (record {
      numbers = numbers_kept plays t layouts;
      dropped = dropped plays t layouts;
      node = record { position = position_after t plays; lefts = lefts_kept plays t layouts };
      weights = weights_kept plays t layouts;
    })

-- what is kept of the layouts of a board
abbrev pub kept_of : BoardValue → List Weighed → Result KeptValue LayoutFault
kept_of board [] = Err NoneLeft
kept_of board (first ∷ rest) = kept_over board.plays (first_position board (together first.layout.left first.layout.right)) (enumerate_from 1 (first ∷ rest))

-- the layouts of a file that the play of a board allows, or the first fault
unfoldable pub layouts_read : List ℕ → BoardValue → Result KeptValue LayoutFault
layouts_read bytes board = lines_read board board.unseen 0 (layout_lines (numbered_lines bytes)) >>= kept_of board

-- a fault that may come in place of this reading: a failed allocation, or the fault of what is read
abbrev pub IsLayoutFaultOf : {A : Type 0} → Result A LayoutFault → LayoutFault → Type 0
IsLayoutFaultOf expected fault = (fault ≡ Memory) ⊎ (expected ≡ Err fault)

-- a position that is the one after the play, and a node with these hands of Left's
pub record IsAfter (plays : List Played) (t : PositionValue) (lefts : List (List ℕ)) (position : PositionValue) : Type 0 where
  pub same : position ≡ position_after t plays
  pub node : IsNode (record { position = position; lefts = lefts })
