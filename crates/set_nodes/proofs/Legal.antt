-- The layouts in which a card is legal, place by place.
use Rattle.std.proofs.Common.{◌≡◌, ◌∙◌, ◌≤◌, ◌<◌, ◌+◌, ℕ, true, false, List, length, replicate, get_or, set, sym, ap, subst, ⊎_elim, arith, below_more}
use Rattle.std.proofs.lemmas.List.{length-map, length-replicate, length-set}
use Rattle.win_vectors.specs.Vectors.{meet_of}
use Rattle.win_vectors.specs.Fronts.{Vector}
use Rattle.trick_rules.specs.Positions.{PositionValue}
use Rattle.trick_rules.specs.Nodes.{is_legal}
use Rattle.set_nodes.specs.SetNodes.{still_held, legal_at}
use Rattle.set_nodes.proofs.Places.{HasOne, no_one, set_there, set_keeps, set_from, is_meet, one_of_map, one_within}

pub length-legal_at : (layouts : List (List ℕ)) (t : PositionValue) (card : ℕ) → length (legal_at layouts t card) ≡ length layouts
length-legal_at layouts t card = length-map layouts (λ left. is_legal t card (still_held t left))

pub legal_there : (layouts : List (List ℕ)) (t : PositionValue) (card k : ℕ) (d : List ℕ) → k < length layouts → get_or (legal_at layouts t card) k false ≡ is_legal t card (still_held t (get_or layouts k d))
legal_there layouts t card k d low = one_of_map (λ left. is_legal t card (still_held t left)) layouts k d low

-- before this place, the layouts of the set in which the card is legal were found, and nothing else
pub record AreLegalBefore (chosen legal found : Vector) (place : ℕ) : Type 0 where
  pub width : length found ≡ length chosen
  pub right : (k : ℕ) → HasOne found k → HasOne chosen k × HasOne legal k
  pub each : (k : ℕ) → k < place → HasOne chosen k → HasOne legal k → HasOne found k

module _ (chosen legal : Vector) where
  pub none_before : (found : Vector) → found ≡ replicate (length chosen) false → AreLegalBefore chosen legal found 0
  none_before found is = record {
    width = ap (λ (v : Vector). length v) is ∙ length-replicate (length chosen) false;
    right = λ k h. absurd (no_one (length chosen) k (subst (λ (v : Vector). HasOne v k) is h));
    each = λ k low h l. absurd (omega (arith, low));
  }

  pub one_more_place : (found : Vector) (place : ℕ) → place < length chosen → HasOne chosen place → HasOne legal place
      → AreLegalBefore chosen legal found place → AreLegalBefore chosen legal (set found place true) (place + 1)
  one_more_place found place low here there are = record {
    width = length-set found place true ∙ are.width;
    right = λ k h. ⊎_elim (λ (e : k ≡ place). (subst (HasOne chosen) (sym e) here, subst (HasOne legal) (sym e) there)) (λ (old : HasOne found k). are.right k old) (set_from found place k h);
    each = below_more (λ k. HasOne chosen k → HasOne legal k → HasOne (set found place true) k) place
        (λ k below h l. set_keeps found place k (are.each k below h l))
        (λ h l. set_there found place (omega (arith, low, are.width)));
  }

  pub passed_over : (found : Vector) (place : ℕ) → (HasOne chosen place → HasOne legal place → ⊥)
      → AreLegalBefore chosen legal found place → AreLegalBefore chosen legal found (place + 1)
  passed_over found place not are = record {
    width = are.width;
    right = are.right;
    each = below_more (λ k. HasOne chosen k → HasOne legal k → HasOne found k) place are.each (λ h l. absurd (not h l));
  }

  pub all_found : (found : Vector) (place : ℕ) → length chosen ≡ length legal → length chosen ≤ place → AreLegalBefore chosen legal found place → found ≡ meet_of chosen legal
  all_found found place same past are = is_meet chosen legal found same are.width are.right
      (λ k h l. let low = one_within chosen k h in are.each k (omega (arith, low, past)) h l)
