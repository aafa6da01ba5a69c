-- A card of declarer's side leaves each layout as it is.
use Rattle.std.proofs.Common.{◌≡◌, ◌∙◌, ℕ, true, false, not, ◌==◌, List, [], ◌∷◌, map, filter, Contains, refl, sym, ap, subst, true≢false}
use Rattle.std.proofs.lemmas.Bool.{false_from_ne_true}
use Rattle.std.proofs.lemmas.List.Elements.{All-contains}
use Rattle.card_sets.specs.SetWords.{has_card}
use Rattle.card_sets.specs.declared.seat.Seat.{Seat}
use Rattle.card_sets.specs.declared.seat.Seat.TheVariants.{Declarer, Left, Dummy, Right}
use Rattle.card_sets.proofs.SetCounts.{take_out-absent}
use Rattle.trick_rules.specs.Positions.{PositionValue, IsSound, FitsLeft, to_play}
use Rattle.trick_rules.specs.Play.{held_by, is_declarers, take_out, legal_in}
use Rattle.trick_rules.specs.Nodes.{NodeValue, IsNode, states, choices, child, is_legal}
use Rattle.trick_rules.proofs.PlayLaws.{a_choice_can_be_played, our_choices_are_legal_everywhere}
use Rattle.strategy_games.proofs.Lists.{Contains-here, Contains-there, Contains-map, All-at}
use Rattle.strategy_games.proofs.Masks.{filter_all}

not_unseen : (t : PositionValue) (card : ℕ) → IsSound t → (seat : Seat) → is_declarers seat ≡ true → has_card (held_by t seat) card ≡ true → has_card t.unseen card ≡ false
not_unseen t card sound Declarer ours held = sound.declarer_unseen card held
not_unseen t card sound Dummy ours held = sound.dummy_unseen card held
not_unseen t card sound Left ours held = absurd (true≢false (sym ours))
not_unseen t card sound Right ours held = absurd (true≢false (sym ours))

map_same : {X : Type 0} (f : X → X) (xs : List X) → ((x : X) → Contains xs x → f x ≡ x) → map f xs ≡ xs
map_same f [] h = refl
map_same f (x ∷ xs) h = λ i. h x (Contains-here x xs) i ∷ map_same f xs (λ y k. h y (Contains-there x xs y k)) i

module _ (n : NodeValue) (card : ℕ) (ok : IsNode n) (ours : is_declarers (to_play n.position) ≡ true) (choice : has_card (choices n) card ≡ true) where
  -- Left doesn't hold it
  not_left : (left : List ℕ) → Contains n.lefts left → take_out card left ≡ left
  not_left left among = take_out-absent left card (false_from_ne_true (has_card left card) (λ held.
      let fits = All-contains (FitsLeft n.position) n.lefts left ok.fits among in
      let off = not_unseen n.position card ok.sound (to_play n.position) ours (a_choice_can_be_played n card ok choice) in
      true≢false (sym (fits.part card held) ∙ off)))

  legal_everywhere : (left : List ℕ) → Contains n.lefts left → is_legal n.position card left ≡ true
  legal_everywhere left among = All-at (λ s. has_card (legal_in s) card ≡ true) (states n) (our_choices_are_legal_everywhere n card ours choice) (record { position = n.position; left = left })
      (Contains-map (λ left. record { position = n.position; left = left }) n.lefts left among)

  -- so there are the same layouts after it
  pub lefts_kept : (child n card).lefts ≡ n.lefts
  lefts_kept = ap (λ (lefts : List (List ℕ)). map (take_out card) lefts) (filter_all (is_legal n.position card) n.lefts legal_everywhere) ∙ map_same (take_out card) n.lefts not_left
