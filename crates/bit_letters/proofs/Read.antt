-- Bits as they are read.
use Rattle.std.proofs.Common.{◌≡◌, ℕ, suc, ◌+◌, ◌-◌, ◌<◌, Bool, false, List, [], ◌∷◌, ◌++◌, length, get_or, take, map, sym, ap, ◌∙◌, arith, append_assoc}
use Rattle.std.specs.Prelude.{replicate}
use Rattle.std.proofs.lemmas.List.{map-append, take_more}
use Rattle.std.proofs.Math.ListN.{set}
use Rattle.std.proofs.Math.Seq.{set-append_seam}
use Rattle.bit_letters.specs.Bits.{is_one}

set-next : (bits : List Bool) (left i : ℕ) (bit : Bool) → i ≡ length bits → set (bits ++ replicate (suc left) false) i bit ≡ (bits ++ bit ∷ []) ++ replicate left false
set-next bits left i bit at = rw at (set-append_seam bits false (replicate left false) bit ∙ sym (append_assoc bits (bit ∷ []) (replicate left false)))

-- one more bit of a vector
pub bit_read : (text : List ℕ) (i : ℕ) (vector : List Bool) (bit : Bool) → i < length text → i ≡ length (map is_one (take i text)) → bit ≡ is_one (get_or text i 0)
    → vector ≡ map is_one (take i text) ++ replicate (length text - i) false
    → set vector i bit ≡ map is_one (take (i + 1) text) ++ replicate (length text - (i + 1)) false
bit_read text i vector bit low at is so_far =
    let left : length text - i ≡ suc (length text - (i + 1)) = omega arith in
    let more : map is_one (take (i + 1) text) ≡ map is_one (take i text) ++ bit ∷ [] = ap (map is_one) (take_more text i 0 low) ∙ map-append is_one (take i text) (get_or text i 0 ∷ []) ∙ ap (λ b. map is_one (take i text) ++ b ∷ []) (sym is) in
    rw (so_far, left, more) (set-next (map is_one (take i text)) (length text - (i + 1)) i bit at)
