-- The course of play, card by card.
use Rattle.std.proofs.Common.{◌≡◌, List, [], ◌∷◌, ◌++◌, refl}
use Rattle.trick_rules.specs.declared.trump.Trump.{Trump}
use Rattle.pbn_deal.specs.declared.board.Played.{Played}
use Rattle.pbn_deal.specs.declared.course.Course.{Course}
use Rattle.pbn_deal.specs.Boards.{next_course, course_after}

pub course_after-append : (trump : Trump) (course : Course) (plays more : List Played) → course_after trump course (plays ++ more) ≡ course_after trump (course_after trump course plays) more
course_after-append trump course [] more = refl
course_after-append trump course (play ∷ plays) more = course_after-append trump (next_course trump course play.card) plays more
