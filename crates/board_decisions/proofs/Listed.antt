-- The decisions at the places of a play so far.
use Rattle.std.proofs.Common.{◌≡◌, ◌+◌, ◌<◌, ◌≤◌, ℕ, true, List, [], ◌∷◌, ◌++◌, None, Some, Ok, length, map, get_or, slice_get, Contains, ⊎_elim, refl, sym, subst, arith}
use Rattle.std.specs.List.{All, AllPairs}
use Rattle.std.proofs.lemmas.Bool.{cases_lt}
use Rattle.std.proofs.lemmas.List.{map-append}
use Rattle.std.proofs.lemmas.List.Elements.{All-nil, All-push, Contains-append_left, Contains-push}
use Rattle.std.proofs.lemmas.List.Quantifiers.{all_pairs_push}
use Rattle.std.proofs.lemmas.Option.{slice_get_within}
use Rattle.trick_rules.specs.Play.{is_declarers}
use Rattle.pbn_deal.specs.declared.board.Played.{Played}
use Rattle.pbn_deal.specs.Boards.{BoardValue}
use Rattle.layout_list.specs.Kept.{KeptValue}
use Rattle.board_decisions.specs.declared.list.Decision.{Decision}
use Rattle.board_decisions.specs.Decisions.{trick_of, IsTurn, IsChosen, IsDecision, AreDecisions, IsWeighed, IsFoundAt, kept_before}

module _ (board : BoardValue) (layouts : List ℕ) (from : ℕ) where
  abbrev pub IsListed : Decision → Type 0
  IsListed d = IsDecision board layouts from d.place d.played d.kept

  -- some layout is left before a card of declarer's side, and the card is listed if it is a decision
  abbrev pub IsCovered : List Decision → ℕ → Played → Type 0
  IsCovered listed place played = (kept : KeptValue) × (kept_before board layouts place ≡ Ok kept)
      × (IsChosen kept.node played.card → Contains (map (λ d. d.place) listed) place)

  -- the decisions at the places below this one
  pub record AreListedBelow (count : ℕ) (listed : List Decision) : Type 0 where
    pub each : All IsListed listed
    pub weighed : All IsWeighed listed
    pub in_order : AllPairs (λ earlier later. earlier.place < later.place) listed
    pub below : All (λ d. d.place < count) listed
    pub all : (place : ℕ) (played : Played) → place < count → IsTurn board from place played → IsCovered listed place played

  pub listed_none : AreListedBelow 0 []
  listed_none = record {
    each = All-nil IsListed;
    weighed = All-nil IsWeighed;
    in_order = λ i j d less inside. absurd (omega arith);
    below = All-nil (λ (d : Decision). d.place < 0);
    all = λ place played less turn. absurd (omega arith);
  }

  -- the place is an earlier one, or the last
  by_place : (count place : ℕ) (P : ℕ → Type 0) → place < count + 1 → (place < count → P place) → P count → P place
  by_place count place P within earlier last =
      ⊎_elim earlier (λ (past : count ≤ place). let same : count ≡ place = omega arith in subst P same last) (cases_lt place count)

  -- a place that is no decision
  pub more_none : (count : ℕ) (listed : List Decision) → IsFoundAt board layouts from count None → AreListedBelow count listed → AreListedBelow (count + 1) listed
  more_none count listed is so = record {
    each = so.each;
    weighed = so.weighed;
    in_order = so.in_order;
    below = λ k d inside. let before : (get_or listed k d).place < count = so.below k d inside in omega arith;
    all = λ place played within.
        by_place count place (λ p. IsTurn board from p played → IsCovered listed p played) within (λ less. so.all place played less)
        (λ turn. let found = is.all played turn in (found.0, found.1, λ chosen. cc (found.2 chosen)));
  }

  -- a decision
  pub more_some : (count : ℕ) (listed : List Decision) (decision : Decision) → IsFoundAt board layouts from count (Some decision) → IsWeighed decision
      → AreListedBelow count listed → AreListedBelow (count + 1) (listed ++ decision ∷ [])
  more_some count listed decision is weighed so =
      let place_of = λ (d : Decision). d.place in
      let here : decision.place ≡ count = is.some.0 in
      let places : map (λ (d : Decision). d.place) (listed ++ decision ∷ []) ≡ map (λ (d : Decision). d.place) listed ++ decision.place ∷ [] = map-append place_of listed (decision ∷ []) in
      record {
        each = All-push IsListed listed decision so.each is.some.1;
        weighed = All-push IsWeighed listed decision so.weighed weighed;
        in_order = all_pairs_push (λ earlier later. earlier.place < later.place) listed decision so.in_order (λ k d inside. let before : (get_or listed k d).place < count = so.below k d inside in omega arith);
        below = All-push (λ (d : Decision). d.place < count + 1) listed decision (λ k d inside. let before : (get_or listed k d).place < count = so.below k d inside in omega arith) (omega arith);
        all = λ place played within.
            by_place count place (λ p. IsTurn board from p played → IsCovered (listed ++ decision ∷ []) p played) within
            (λ less turn. let found = so.all place played less turn in
            (found.0, found.1, λ chosen. subst (λ ps. Contains ps place) (sym places) (Contains-append_left (map place_of listed) (decision.place ∷ []) place (found.2 chosen))))
            (λ turn. let found = is.all played turn in
            (found.0, found.1, λ chosen. subst (λ ps. Contains ps count) (sym places) (subst (λ p. Contains (map place_of listed ++ decision.place ∷ []) p) here (Contains-push (map place_of listed) decision.place))));
      }

  -- behind the last place
  pub all_listed : (count : ℕ) (listed : List Decision) → length board.plays ≤ count → AreListedBelow count listed → AreDecisions board layouts from listed
  all_listed count listed past so = record {
    each = so.each;
    in_order = so.in_order;
    all = λ place played turn. let inside : place < length board.plays = slice_get_within board.plays place played turn.is_played in so.all place played (omega arith) turn;
  }

  -- ---- one place

  same_play : (place : ℕ) (played other : Played) → slice_get board.plays place ≡ Some played → slice_get board.plays place ≡ Some other → other ≡ played
  same_play place played other here there = cc

  -- a card of a defender, or in an earlier trick
  pub no_turn : (place : ℕ) (played : Played) → slice_get board.plays place ≡ Some played → ((is_declarers played.seat ≡ true) × (from ≤ trick_of place) → ⊥) → IsFoundAt board layouts from place None
  no_turn place played here not_ours = record {
    some = tt;
    all = λ other turn. absurd (not_ours (subst (λ (p : Played). is_declarers p.seat ≡ true) (same_play place played other here turn.is_played) turn.ours, turn.late));
  }

  module _ (place : ℕ) (played : Played) (kept : KeptValue) (here : slice_get board.plays place ≡ Some played) (kept_is : kept_before board layouts place ≡ Ok kept) where
    -- a card that isn't a decision
    pub not_chosen : (IsChosen kept.node played.card → ⊥) → IsFoundAt board layouts from place None
    not_chosen forced = record {
      some = tt;
      all = λ other turn. (kept, kept_is, λ chosen. absurd (forced (subst (λ (p : Played). IsChosen kept.node p.card) (same_play place played other here turn.is_played) chosen)));
    }

    -- one that is
    pub found_chosen : (is_declarers played.seat ≡ true) × (from ≤ trick_of place) → IsChosen kept.node played.card → IsFoundAt board layouts from place (Some (record { place = place; played = played; kept = kept }))
    found_chosen ours chosen = record {
      some = (refl, record { turn = record { is_played = here; ours = ours.0; late = ours.1 }; kept_is = kept_is; chosen = chosen });
      all = λ other again. (kept, kept_is, λ _. refl);
    }
