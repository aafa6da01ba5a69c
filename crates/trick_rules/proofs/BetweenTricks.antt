-- Positions with no card in the trick.
use Rattle.std.proofs.Common.{ℕ, ◌<◌, ◌≤◌, List, arith}
use Rattle.std.proofs.lemmas.Bool.{false≢true}
use Rattle.std.proofs.lemmas.List.Elements.{All-nil}
use Rattle.card_sets.specs.declared.seat.Seat.{Seat}
use Rattle.card_sets.specs.declared.seat.Seat.TheVariants.{Declarer, Left, Dummy, Right}
use Rattle.trick_rules.specs.declared.trump.Trump.{Trump}
use Rattle.trick_rules.specs.Positions.{IsSound, HandsFit, position_between_tricks}
use Rattle.trick_rules.proofs.Turns.{count_in-none}

pub between_tricks_sound : (declarer dummy unseen : List ℕ) (leader : Seat) (need : ℕ) (trump : Trump) → HandsFit declarer dummy unseen → need ≤ 13
    → IsSound (position_between_tricks declarer dummy unseen leader need trump)
between_tricks_sound declarer dummy unseen leader need trump fit low = record {
  declarer_set = fit.declarer_set;
  dummy_set = fit.dummy_set;
  unseen_set = fit.unseen_set;
  declarer_dummy = fit.declarer_dummy;
  declarer_unseen = fit.declarer_unseen;
  dummy_unseen = fit.dummy_unseen;
  trick_declarer = λ c h. absurd (false≢true h);
  trick_dummy = λ c h. absurd (false≢true h);
  trick_unseen = λ c h. absurd (false≢true h);
  trick_short = omega arith;
  trick_cards = All-nil (λ c. c < 52);
  trick_differs = λ i j d before low. absurd (omega arith);
  need_fits = low;
  dummy_count = omega (arith, fit.dummy_count, count_in-none leader Declarer, count_in-none leader Dummy);
  unseen_count = omega (arith, fit.unseen_count, count_in-none leader Declarer, count_in-none leader Left, count_in-none leader Right);
}

pub hands_from_sound : (declarer dummy unseen : List ℕ) (leader : Seat) (need : ℕ) (trump : Trump) → IsSound (position_between_tricks declarer dummy unseen leader need trump) → HandsFit declarer dummy unseen
hands_from_sound declarer dummy unseen leader need trump sound = record {
  declarer_set = sound.declarer_set;
  dummy_set = sound.dummy_set;
  unseen_set = sound.unseen_set;
  declarer_dummy = sound.declarer_dummy;
  declarer_unseen = sound.declarer_unseen;
  dummy_unseen = sound.dummy_unseen;
  dummy_count = omega (arith, sound.dummy_count, count_in-none leader Declarer, count_in-none leader Dummy);
  unseen_count = omega (arith, sound.unseen_count, count_in-none leader Declarer, count_in-none leader Left, count_in-none leader Right);
}
