-- Alike states with other needs.
use Rattle.std.proofs.Common.{◌≡◌, ℕ, Bool, List, refl, subst}
use Rattle.trick_rules.specs.Positions.{State, IsState}
use Rattle.trick_rules.specs.Play.{makes}
use Rattle.double_dummy.specs.Needs.{IsSettled}
use Rattle.double_dummy.specs.Needs.{with_need}
use Rattle.double_dummy.proofs.Thresholds.{with_need-IsState, settled}
use Rattle.equivalent_positions.specs.Alike.{AreAlike, HasAnswer}

pub another_need_keeps_states_alike : (counting : List ℕ) (s t : State) (need : ℕ) → AreAlike counting s t → AreAlike counting (with_need s need) (with_need t need)
another_need_keeps_states_alike counting s t need a = record {
  leader = a.leader;
  trump = a.trump;
  need = refl;
  played = a.played;
  trick = a.trick;
  hands = a.hands;
}

pub an_answer_settles_other_needs : (counting : List ℕ) (s : State) (made : Bool) (need : ℕ) → IsState s → HasAnswer counting s made → IsSettled made s.position.need need
    → HasAnswer counting (with_need s need) made
an_answer_settles_other_needs counting s made need ok answer is = λ t ok' a.
    let back : AreAlike counting s (with_need t s.position.need) = another_need_keeps_states_alike counting (with_need s need) t s.position.need a in
    let there : IsState (with_need t s.position.need) = with_need-IsState t s.position.need ok' ok.sound.need_fits in
    let same : makes (with_need t need) ≡ made = settled (with_need t s.position.need) made there (answer (with_need t s.position.need) there back) need is in
    subst (λ n. makes (with_need t n) ≡ made) a.need same
