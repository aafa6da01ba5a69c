-- The cards of a history, one more of them told.
use Rattle.std.proofs.Common.{◌≡◌, ◌∙◌, ◌<◌, ◌≤◌, ◌+◌, ℕ, suc, List, ◌∷◌, ◌++◌, length, get_or, drop, drop-cons, sym, ap, append_assoc, arith}
use Rattle.std.proofs.lemmas.List.{drop_all, append-nil}
use Rattle.card_sets.specs.declared.seat.Compass.{Compass}
use Rattle.trick_rules.specs.declared.trump.Trump.{Trump}
use Rattle.trick_rules.specs.Positions.{TrickValue}
use Rattle.trick_rules.specs.Play.{next_trick}
use Rattle.html_text.specs.declared.page.Piece.{Piece}
use Rattle.page_text.specs.Partings.{one_card, history, trick_after}

next_card : (cards : List ℕ) (i card : ℕ) → i < length cards → card ≡ get_or cards i card → drop i cards ≡ card ∷ drop (i + 1) cards
next_card cards i card low is =
    let more : suc i ≡ i + 1 = omega arith in
    drop-cons cards i card low ∙ ap (λ (c : ℕ). c ∷ drop (suc i) cards) (sym is) ∙ ap (λ (k : ℕ). card ∷ drop k cards) more

module _ (declarer : Compass) (trump : Trump) (trick next : TrickValue) (cards : List ℕ) (i card : ℕ) (before after whole : List Piece) where
  -- one card more
  pub card_added : i < length cards → card ≡ get_or cards i card → after ≡ before ++ one_card declarer trump trick card → next ≡ next_trick trump trick card
      → before ++ history declarer trump trick (drop i cards) ≡ whole → after ++ history declarer trump next (drop (i + 1) cards) ≡ whole
  card_added low is grew follows so_far =
      let rest : List Piece = history declarer trump next (drop (i + 1) cards) in
      ap (λ (t : List Piece). t ++ rest) grew
      ∙ append_assoc before (one_card declarer trump trick card) rest
      ∙ ap (λ (t : TrickValue). before ++ (one_card declarer trump trick card ++ history declarer trump t (drop (i + 1) cards))) follows
      ∙ ap (λ (cs : List ℕ). before ++ history declarer trump trick cs) (sym (next_card cards i card low is))
      ∙ so_far

-- the trick after it
pub card_played : (trump : Trump) (trick next : TrickValue) (cards : List ℕ) (i card : ℕ) (last : TrickValue) → i < length cards → card ≡ get_or cards i card → next ≡ next_trick trump trick card
    → trick_after trump trick (drop i cards) ≡ last → trick_after trump next (drop (i + 1) cards) ≡ last
card_played trump trick next cards i card last low is follows so_far =
    ap (λ (t : TrickValue). trick_after trump t (drop (i + 1) cards)) follows ∙ ap (λ (cs : List ℕ). trick_after trump trick cs) (sym (next_card cards i card low is)) ∙ so_far

-- all cards
pub all_added : (declarer : Compass) (trump : Trump) (trick : TrickValue) (cards : List ℕ) (i : ℕ) (now whole : List Piece) → length cards ≤ i
    → now ++ history declarer trump trick (drop i cards) ≡ whole → now ≡ whole
all_added declarer trump trick cards i now whole past so_far =
    sym (append-nil now) ∙ ap (λ (cs : List ℕ). now ++ history declarer trump trick cs) (sym (drop_all i cards past)) ∙ so_far

pub all_played : (trump : Trump) (trick : TrickValue) (cards : List ℕ) (i : ℕ) (last : TrickValue) → length cards ≤ i
    → trick_after trump trick (drop i cards) ≡ last → trick ≡ last
all_played trump trick cards i last past so_far = ap (λ (cs : List ℕ). trick_after trump trick cs) (sym (drop_all i cards past)) ∙ so_far
