-- A sound board is sound at each earlier moment of its play.
use Rattle.std.proofs.Common.{ℕ, zero, suc, ◌≤◌, List, [], ◌∷◌, length, take, arith}
use Rattle.trick_rules.specs.declared.trump.Trump.{Trump}
use Rattle.pbn_deal.specs.declared.board.Played.{Played}
use Rattle.pbn_deal.specs.declared.course.Course.{Course}
use Rattle.pbn_deal.specs.Boards.{BoardValue, IsBoard, IsCourse, next_course, first_course}
use Rattle.pbn_deal.specs.Moments.{board_before}
use Rattle.pbn_deal.proofs.PlaySound.{dealt_played}

fair_so_far : (trump : Trump) (place : ℕ) (course : Course) (plays : List Played) → IsCourse trump course plays → IsCourse trump course (take place plays)
fair_so_far trump zero course [] fair = tt
fair_so_far trump zero course (play ∷ plays) fair = tt
fair_so_far trump (suc place) course [] fair = tt
fair_so_far trump (suc place) course (play ∷ plays) fair = (fair.0, fair.1, fair_so_far trump place (next_course trump course play.card) plays fair.2)

fewer : (place : ℕ) (plays : List Played) → length (take place plays) ≤ length plays
fewer zero [] = omega arith
fewer zero (play ∷ plays) = omega arith
fewer (suc place) [] = omega arith
fewer (suc place) (play ∷ plays) = omega (arith, fewer place plays)

pub sound_before : (b : BoardValue) (place : ℕ) → IsBoard b → IsBoard (board_before b place)
sound_before b place sound = record {
  dealt = dealt_played b (take place b.plays) sound.dealt;
  fair = fair_so_far b.trump place (first_course b) b.plays sound.fair;
  short = omega (arith, sound.short, fewer place b.plays);
}
