-- Bits as they are written.
use Rattle.std.proofs.Common.{◌≡◌, ℕ, ◌+◌, ◌<◌, Bool, true, false, Some, slice_get, List, [], ◌∷◌, ◌++◌, length, get_or, take, map, sym, ap, ◌∙◌, append_assoc, refl}
use Rattle.std.proofs.lemmas.List.{map-append}
use Rattle.std.proofs.lemmas.Grind.{take_at_read}
use Rattle.std.proofs.lemmas.Option.{slice_get_within, get_or_from_slice_get}
use Rattle.bit_letters.specs.Bits.{bit_letter, is_one}

take-more : (bits : List Bool) (k : ℕ) (bit : Bool) → k < length bits → bit ≡ get_or bits k bit → take (k + 1) bits ≡ take k bits ++ bit ∷ []
take-more bits k bit inside is = (take_at_read bits k bit inside).1 ∙ ap (λ b. take k bits ++ b ∷ []) (sym is)

-- one more bit of a vector
pub bit_written : (start now next : List ℕ) (vector : List Bool) (k : ℕ) (bit : Bool) → slice_get vector k ≡ Some bit
    → now ≡ start ++ map bit_letter (take k vector) → next ≡ now ++ bit_letter bit ∷ [] → next ≡ start ++ map bit_letter (take (k + 1) vector)
bit_written start now next vector k bit here so_far grew =
    let more = take-more vector k bit (slice_get_within vector k bit here) (sym (get_or_from_slice_get vector k bit bit here)) in
    grew ∙ ap (λ t. t ++ bit_letter bit ∷ []) so_far ∙ append_assoc start (map bit_letter (take k vector)) (bit_letter bit ∷ [])
    ∙ ap (λ t. start ++ t) (sym (map-append bit_letter (take k vector) (bit ∷ [])) ∙ ap (λ (bits : List Bool). map bit_letter bits) (sym more))

-- the bits that were written are read
pub bits_back : (vector : List Bool) → map is_one (map bit_letter vector) ≡ vector
bits_back [] = refl
bits_back (true ∷ vector) = ap (λ more. true ∷ more) (bits_back vector)
bits_back (false ∷ vector) = ap (λ more. false ∷ more) (bits_back vector)
