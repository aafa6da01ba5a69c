-- Nodes behind paths, and the lines of a list.
use Rattle.std.proofs.Common.{◌≡◌, ◌+◌, ◌-◌, ◌<◌, ◌∙◌, ℕ, zero, suc, Bool, true, false, Option, None, Some, List, [], ◌∷◌, ◌++◌, take, Contains, refl, ap, ⊎_elim, arith, if◌then◌else◌}
use Rattle.std.specs.Prelude.{slice_get}
use Rattle.std.specs.List.{cons_option}
use Rattle.trick_rules.specs.Positions.{to_play}
use Rattle.trick_rules.specs.Play.{is_declarers}
use Rattle.trick_rules.specs.Nodes.{NodeValue, IsNode, child}
use Rattle.strategy_games.proofs.Lists.{Contains-nil, Contains-cons}
use Rattle.strategy_tree.proofs.Rules.{lawful}
use Rattle.log_check.specs.declared.lines.LogLine.{LogLine}
use Rattle.log_check.specs.Logs.{IsPath, node_after, our_cards, cited_lines}

pub node_after-is_node : (n : NodeValue) (path : List ℕ) → IsNode n → IsPath n path → IsNode (node_after n path)
node_after-is_node n [] sound is = sound
node_after-is_node n (card ∷ path) sound is = node_after-is_node (child n card) path (lawful.holds n card sound is.0) is.1

-- 1 where declarer's side is to play
abbrev pub our_turn : NodeValue → ℕ
our_turn n = if is_declarers (to_play n.position) then 1 else 0

pub our_turn-ours : (n : NodeValue) → is_declarers (to_play n.position) ≡ true → our_turn n ≡ 1
our_turn-ours n ours = ap (λ (b : Bool). let one : ℕ = if b then 1 else 0 in one) ours

pub our_turn-theirs : (n : NodeValue) → is_declarers (to_play n.position) ≡ false → our_turn n ≡ 0
our_turn-theirs n theirs = ap (λ (b : Bool). let one : ℕ = if b then 1 else 0 in one) theirs

-- ---- a card more

pub node_after-more : (n : NodeValue) (path : List ℕ) (card : ℕ) → node_after n (path ++ card ∷ []) ≡ child (node_after n path) card
node_after-more n [] card = refl
node_after-more n (c ∷ path) card = node_after-more (child n c) path card

pub our_cards-more : (n : NodeValue) (path : List ℕ) (card : ℕ)
    → our_cards n (path ++ card ∷ []) ≡ our_cards n path + our_turn (node_after n path)
our_cards-more n [] card = omega arith
our_cards-more n (c ∷ path) card = omega (arith, our_cards-more (child n c) path card)

-- ---- places

pub slice_get-take : {X : Type 0} (xs : List X) (i j : ℕ) (x : X) → slice_get (take i xs) j ≡ Some x → (j < i) × (slice_get xs j ≡ Some x)
slice_get-take {X} xs zero j x is = absurd cc
slice_get-take {X} [] (suc i) j x is = absurd cc
slice_get-take (y ∷ xs) (suc i) zero x is = (omega arith, is)
slice_get-take (y ∷ xs) (suc i) (suc j) x is = let h = slice_get-take xs i j x is in (omega (arith, h.0), h.1)

-- each cited line stands at some place
pub cited_place : (lines : List LogLine) (numbers : List ℕ) (line : LogLine) → Contains (cited_lines lines numbers) line
    → (place : ℕ) × (slice_get lines place ≡ Some line)
cited_place lines [] line mem = absurd (Contains-nil line mem)
cited_place lines (number ∷ numbers) line mem = go (slice_get lines (number - 1)) refl mem (λ later. cited_place lines numbers line later)
  where
    go : (found : Option LogLine) → slice_get lines (number - 1) ≡ found → Contains (cons_option found (cited_lines lines numbers)) line
        → (Contains (cited_lines lines numbers) line → (place : ℕ) × (slice_get lines place ≡ Some line))
        → (place : ℕ) × (slice_get lines place ≡ Some line)
    go None is mem others = others mem
    go (Some l) is mem others = ⊎_elim
        (λ (same : l ≡ line). (number - 1, is ∙ ap (λ x. Some x) same))
        (λ (later : Contains (cited_lines lines numbers) line). others later)
        (Contains-cons l (cited_lines lines numbers) line mem)
