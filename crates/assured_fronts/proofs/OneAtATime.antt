-- One layout that double dummy makes may be played for with any number of moves.
use Rattle.std.proofs.Common.{◌≡◌, ◌<◌, ◌≤◌, ◌∙◌, ℕ, true, false, List, [], ◌∷◌, length, Contains, refl, sym, subst, arith}
use Rattle.win_vectors.specs.Vectors.{ones_of, meet_of, restrict_of}
use Rattle.win_vectors.specs.Fronts.{Vector}
use Rattle.trick_rules.specs.Positions.{State}
use Rattle.trick_rules.specs.Play.{makes}
use Rattle.trick_rules.specs.Nodes.{NodeValue, IsNode, states}
use Rattle.strategy_games.proofs.Lists.{Contains-here, Contains-there, All-at}
use Rattle.strategy_tree.specs.Bridge.{bridge}
use Rattle.strategy_tree.proofs.BridgeNodes.{length-states}
use Rattle.strategy_tree.proofs.Rules.{lawful}
use Rattle.assured_games.specs.Assured.{Secures, IsAssured}
use Rattle.assured_games.proofs.Zips.{AtOnes}
use Rattle.assured_games.proofs.Lines.{carried, line_for}
use Rattle.sure_nodes.specs.SureNodes.{is_sure_node}
use Rattle.sure_nodes.proofs.PlayedOut.{played_out}
use Rattle.assured_fronts.specs.AssuredAt.{AllMade}

-- at the ones of a mask no more is won than by the meet with it
pub ones_kept : (v mask : Vector) → ones_of (restrict_of v mask) ≤ ones_of (meet_of v mask)
ones_kept [] [] = omega arith
ones_kept [] (m ∷ mask) = omega arith
ones_kept (b ∷ v) [] = omega arith
ones_kept (true ∷ v) (true ∷ mask) = let rest = ones_kept v mask in omega arith
ones_kept (false ∷ v) (true ∷ mask) = let rest = ones_kept v mask in omega arith
ones_kept (true ∷ v) (false ∷ mask) = let rest = ones_kept v mask in omega arith
ones_kept (false ∷ v) (false ∷ mask) = let rest = ones_kept v mask in omega arith

module _ {S : Type 0} where
  -- no layout
  no_ones : (P : S → Type 0) (v : Vector) (ss : List S) → length v ≡ length ss → ones_of v < 1 → AtOnes P v ss
  no_ones P [] [] e none = tt
  no_ones P [] (s ∷ ss) e none = absurd (omega (arith, e))
  no_ones P (b ∷ v) [] e none = absurd (omega (arith, e))
  no_ones P (true ∷ v) (s ∷ ss) e none = absurd (omega (arith, none))
  no_ones P (false ∷ v) (s ∷ ss) e none = (λ one. absurd cc, no_ones P v ss (omega (arith, e)) (omega (arith, none)))

  -- one layout at most
  one_at_most : (v : Vector) (ss : List S) → length v ≡ length ss → 1 ≤ length ss → ones_of v < 2 → (t : S) × Contains ss t × AtOnes (λ s. t ≡ s) v ss
  one_at_most [] [] e some one = absurd (omega (arith, some))
  one_at_most [] (s ∷ ss) e some one = absurd (omega (arith, e))
  one_at_most (b ∷ v) [] e some one = absurd (omega (arith, e))
  one_at_most (true ∷ v) (s ∷ ss) e some one = (s, Contains-here s ss, (λ is. refl, no_ones (λ x. s ≡ x) v ss (omega (arith, e)) (omega (arith, one))))
  one_at_most (false ∷ []) (s ∷ []) e some one = (s, Contains-here s [], (λ is. absurd cc, tt))
  one_at_most (false ∷ []) (s ∷ x ∷ ss) e some one = absurd (omega (arith, e))
  one_at_most (false ∷ b ∷ v) (s ∷ ss) e some one =
      let r = one_at_most (b ∷ v) ss (omega (arith, e)) (omega (arith, e)) (omega (arith, one)) in
      (r.0, Contains-there s ss r.0 r.1, (λ is. absurd cc, r.2))

pub one_assured : (n : NodeValue) (moves : ℕ) (v : Vector) → IsNode n → AllMade n → length v ≡ length n.lefts → ones_of v < 2 → IsAssured bridge is_sure_node n moves v
one_assured n moves v sound made wide one =
    let many : length (states n) ≡ length n.lefts = length-states n in
    let t = one_at_most v (states n) (wide ∙ sym many) (let some = sound.some in omega arith) one in
    let p = line_for bridge is_sure_node IsNode lawful played_out t.0 n moves sound in (
      p.0,
      p.1.0,
      carried (λ s. t.0 ≡ s) (λ s. Secures bridge p.0 s) v (states n) t.2
          (λ s k same. subst (λ (x : State). Secures bridge p.0 x) same (p.1.1 t.1 (All-at (λ s. makes s ≡ true) (states n) made t.0 t.1))),
    )
