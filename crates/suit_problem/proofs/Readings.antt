-- A hand read byte by byte, and two hands.
use Rattle.std.proofs.Common.{◌≡◌, ◌∙◌, ℕ, ◌+◌, ◌≤◌, ◌<◌, List, [], drop, length, get_or, ap, sym, refl}
use Rattle.std.specs.Prelude.{Result, Ok, Err}
use Rattle.std.proofs.lemmas.List.{drop_more, drop_all}
use Rattle.byte_text.specs.Steps.{◌>>=◌}
use Rattle.pbn_deal.specs.BoardRead.{together}
use Rattle.layout_maker.specs.Choosing.{without}
use Rattle.suit_problem.specs.declared.fault.SuitFault.{SuitFault}
use Rattle.suit_problem.specs.declared.hands.SuitHands.{SuitHands}
use Rattle.suit_problem.specs.declared.reading.Written.{Written}
use Rattle.suit_problem.specs.Written.{with_byte, bytes_read, hand_read, hands_over, hands_read, suit_cards}

stepped : (others text : List ℕ) (i : ℕ) (hand : Written) (next : Result Written SuitFault) → i < length text → with_byte others (get_or text i 0) hand ≡ next
    → bytes_read others (drop i text) hand ≡ (next >>= (λ read. bytes_read others (drop (i + 1) text) read))
unfolding bytes_read
stepped others text i hand next within is =
    ap (λ bytes. bytes_read others bytes hand) (drop_more text i 0 within)
    ∙ ap (λ (read : Result Written SuitFault). read >>= (λ h. bytes_read others (drop (i + 1) text) h)) is

pub read_more : (others text : List ℕ) (i : ℕ) (hand next : Written) (whole : Result Written SuitFault) → i < length text → with_byte others (get_or text i 0) hand ≡ Ok next
    → bytes_read others (drop i text) hand ≡ whole → bytes_read others (drop (i + 1) text) next ≡ whole
read_more others text i hand next whole within is so_far = sym (stepped others text i hand (Ok next) within is) ∙ so_far

pub read_stopped : (others text : List ℕ) (i : ℕ) (hand : Written) (fault : SuitFault) (whole : Result Written SuitFault) → i < length text
    → with_byte others (get_or text i 0) hand ≡ Err fault → bytes_read others (drop i text) hand ≡ whole → Err fault ≡ whole
read_stopped others text i hand fault whole within is so_far = sym (stepped others text i hand (Err fault) within is) ∙ so_far

pub read_whole : (others text : List ℕ) (i : ℕ) (hand : Written) (whole : Result Written SuitFault) → length text ≤ i
    → bytes_read others (drop i text) hand ≡ whole → bytes_read others [] hand ≡ whole
read_whole others text i hand whole over so_far = sym (ap (λ bytes. bytes_read others bytes hand) (drop_all i text over)) ∙ so_far

-- ---- two hands

pub both_read : (dummy south : List ℕ) (first second : Written) → hand_read [] dummy ≡ Ok first → hand_read first.named south ≡ Ok second
    → hands_read dummy south ≡ hands_over (without (together first.named second.named) suit_cards) first second
both_read dummy south first second first_is second_is =
    ap (λ (read : Result Written SuitFault). read >>= (λ f. hand_read f.named south >>= (λ s. hands_over (without (together f.named s.named) suit_cards) f s))) first_is
    ∙ ap (λ (read : Result Written SuitFault). read >>= (λ s. hands_over (without (together first.named s.named) suit_cards) first s)) second_is
