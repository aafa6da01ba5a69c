-- The root: the node at which the layouts have their numbers.
use Rattle.std.proofs.Common.{◌≡◌, ◌∙◌, ◌≤◌, ℕ, zero, suc, true, false, Result, Ok, Err, IfOk, [], ◌∷◌, length, replicate, refl, sym, ap, subst, arith}
use Rattle.std.proofs.lemmas.List.Elements.{All-contains}
use Rattle.win_vectors.specs.Vectors.{ones_of}
use Rattle.win_vectors.specs.Fronts.{Vector}
use Rattle.trick_rules.specs.Positions.{FitsLeft}
use Rattle.trick_rules.specs.Nodes.{NodeValue, IsNode}
use Rattle.strategy_games.proofs.Lists.{All-from}
use Rattle.strategy_tree.specs.Bridge.{bridge}
use Rattle.strategy_tree.proofs.BridgeNodes.{length-states}
use Rattle.winnable_sets.specs.Sets.{IsWinnable}
use Rattle.set_nodes.specs.SetNodes.{node_at, AreLayoutsAt}
use Rattle.set_nodes.proofs.Numbers.{part-there, length-node_at, width_below}
use Rattle.set_nodes.proofs.Won.{sets, won_set}
use Rattle.set_memo.specs.declared.verdict.Verdict.{Verdict}
use Rattle.set_memo.specs.declared.verdict.Verdict.TheVariants.{Won, Core}
use Rattle.set_search.specs.Verdicts.{IsSetVerdict}
use Rattle.set_memo.specs.Known.{IsVerdictAt}

pub if_ok : {T E : Type 0} (P Q : T → Type 0) → ((x : T) → P x → Q x) → (r : Result T E) → IfOk r P → IfOk r Q
if_ok P Q f (Ok x) h = f x h
if_ok P Q f (Err e) h = tt

pub not_none : (x : ℕ) → (x ≡ 0 → ⊥) → 1 ≤ x
not_none zero h = absurd (h refl)
not_none (suc x) h = omega arith

all_zero : (v : Vector) → ones_of v ≡ 0 → v ≡ replicate (length v) false
all_zero [] e = refl
all_zero (true ∷ v) e = absurd (omega (arith, e))
all_zero (false ∷ v) e = ap (λ (u : Vector). false ∷ u) (all_zero v (omega (arith, e)))

-- no layouts
pub won_none : (n : NodeValue) (m : ℕ) (chosen : Vector) → IsNode n → length chosen ≡ length n.lefts → ones_of chosen ≡ 0 → IsWinnable bridge n m chosen
won_none n m chosen ok wide none = subst (λ (v : Vector). IsWinnable bridge n m v)
    (sym (all_zero chosen none ∙ ap (λ (k : ℕ). replicate k false) (wide ∙ sym (length-states n)))) (sets.none n m ok)

pub root_layouts : (n : NodeValue) (chosen : Vector) → IsNode n → length chosen ≡ length n.lefts → 1 ≤ ones_of chosen → AreLayoutsAt n.lefts n.position chosen
root_layouts n chosen ok wide some =
    let count = length-node_at n.lefts n.position chosen wide in
    let most = ones_most chosen in record {
      width = wide;
      node = record {
        sound = ok.sound;
        fits = All-from (FitsLeft n.position) (node_at n.lefts n.position chosen).lefts
            (λ left among. All-contains (FitsLeft n.position) n.lefts left ok.fits ((part-there n chosen ok).layouts left among));
        some = omega (arith, count, some);
        few = omega (arith, count, most, wide, ok.few);
      };
    }
  where
    ones_most : (v : Vector) → ones_of v ≤ length v
    ones_most [] = omega arith
    ones_most (true ∷ v) = let rest = ones_most v in omega arith
    ones_most (false ∷ v) = let rest = ones_most v in omega arith

pub root_verdict : (n : NodeValue) (m : ℕ) (chosen : Vector) → IsNode n → AreLayoutsAt n.lefts n.position chosen → (v : Verdict) → IsVerdictAt n.lefts n.position m chosen v → IsSetVerdict n m chosen v
root_verdict n m chosen ok are Won w = (won_set n m chosen ok are).0 w
root_verdict n m chosen ok are (Core core) out = (
  out.0,
  record {
    width = sym (width_below chosen core out.0) ∙ are.width ∙ sym (length-states n);
    lost = λ w. out.1.lost ((won_set n m core ok out.1.some).1 w);
  },
)
