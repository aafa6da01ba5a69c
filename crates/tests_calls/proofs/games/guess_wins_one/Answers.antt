-- The front before the guess, by the recursion from the two guesses.
use Rattle.std.proofs.Common.{true, false, [], ◌∷◌, refl}
use Rattle.strategy_games.specs.Finesse.{ToGuess, Guessed}
use Rattle.tests_calls.proofs.FinesseLemmas.{for_left, for_right, guesses_reduced}
use Rattle.tests_calls.proofs.games.guess_wins_one.Goals as goal

pub returns : goal.returns
returns c =
    let law = c.front_recursion.ensures in
    record {
      seen = law.at_stop ToGuess 0 refl;
      guessed = (law.at_declarer ToGuess 0 ((for_left ∷ []) ∷ (for_right ∷ []) ∷ []) (for_left ∷ for_right ∷ []) tt refl refl
          (law.at_stop (Guessed true) 0 refl, (law.at_stop (Guessed false) 0 refl, tt))).1 guesses_reduced;
    }
