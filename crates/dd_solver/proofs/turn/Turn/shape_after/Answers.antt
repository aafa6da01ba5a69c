use Rattle.std.proofs.Common.{◌≡◌, ℕ, ◌+◌, ◌*◌, ◌≤◌, [], ◌∷◌, sym, subst, arith}
use Rattle.card_sets.specs.declared.seat.Seat.{Seat}
use Rattle.dd_solver.specs.Shapes.{lengths_of, place_of}
use Rattle.dd_solver.specs.Turns.{turn_state}
use Rattle.dd_solver.proofs.Shapes.{shape-after}
use Rattle.dd_solver.proofs.turn.Turn.shape_after.Goals as goal

at_most : (a b n m : ℕ) → a + b ≡ n → m ≡ n → b ≤ m
at_most a b n m e f = omega arith

same_rest : (a b n m r : ℕ) → a + b ≡ n → m ≡ n → r + b ≡ m → r ≡ a
same_rest a b n m r e f g = omega arith

pub without-requires : goal.without-requires
without-requires c =
    let s = turn_state c.args.self.now in
    let card = c.args.card in
    subst (λ (seat : Seat). lengths_of (card ∷ []) * place_of seat ≤ c.args.self.now.shape.lengths) (sym c.to_play.ensures.value)
    (at_most _ _ _ _ (shape-after s card c.requires.turn.state c.requires.legal) c.requires.turn.shape)

pub returns : goal.returns
returns c =
    let s = turn_state c.args.self.now in
    let card = c.args.card in
    same_rest _ _ _ _ _ (shape-after s card c.requires.turn.state c.requires.legal) c.requires.turn.shape
    (subst (λ (seat : Seat). c.without.result.lengths + lengths_of (card ∷ []) * place_of seat ≡ c.args.self.now.shape.lengths) c.to_play.ensures.value c.without.ensures)
