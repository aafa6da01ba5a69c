-- A strategy of a report in the layout of a place.
use Rattle.std.proofs.Common.{◌≡◌, ◌<◌, ◌+◌, ◌++◌, ℕ, zero, suc, Bool, Result, Ok, Err, Option, Some, List, [], ◌∷◌, length, map, get_or, slice_get, refl, sym, ap, ap₂, subst, ◌∙◌, arith}
use Rattle.std.specs.Prelude.{IfOk}
use Rattle.std.proofs.lemmas.List.{length-map}
use Rattle.trick_rules.specs.Positions.{PositionValue, State}
use Rattle.trick_rules.specs.Nodes.{NodeValue, IsNode, states}
use Rattle.strategy_games.specs.Plans.{Plan, Fits, wins}
use Rattle.strategy_tree.specs.Bridge.{bridge}
use Rattle.strategy_check.specs.Following.{CanFollow}
use Rattle.strategy_check.proofs.Compared.{follow_from}
use Rattle.am_match.proofs.UnderWay.{state_at_place}
use Rattle.line_plays.specs.Defended.{PlaysOut}
use Rattle.pbn_text.specs.Games.{GameValue}
use Rattle.pbn_deal.specs.declared.board.Played.{Played}
use Rattle.pbn_games.specs.declared.game.Shown.{Shown}
use Rattle.pbn_games.specs.GameText.{game_text}
use Rattle.am_report.specs.Answers.{ReadEntryValue}
use Rattle.am_answer.specs.declared.root.Root.{Root}
use Rattle.job_lines.specs.LinesJob.{shown_at, IsGameAt}

module _ (plan opened : Plan ℕ) (n : NodeValue) (place : ℕ) (position : PositionValue) (left : List ℕ) (is_plan : opened ≡ plan) (is_position : position ≡ n.position)
    (is_left : slice_get n.lefts place ≡ Some left) where
  -- it can be followed there
  pub followed_at : IsNode n → ((moves : ℕ) × Fits bridge plan n moves) → CanFollow opened (record { position = position; left = left })
  followed_at sound fits =
      subst (λ (p : Plan ℕ). CanFollow p (record { position = position; left = left })) (sym is_plan)
      (subst (λ (t : PositionValue). CanFollow plan (record { position = t; left = left })) (sym is_position) (follow_from plan n fits.0 place left sound fits.1 is_left))

  -- what is so of it there is so in that layout
  pub so_at : (Is : Plan ℕ → State → Type 0) (s : State) → slice_get (states n) place ≡ Some s → Is opened (record { position = position; left = left }) → Is plan s
  so_at Is s at_layout is =
      subst (λ (t : State). Is plan t) (state_at_place n place left s is_left at_layout)
      (subst (λ (t : PositionValue). Is plan (record { position = t; left = left })) is_position
      (subst (λ (p : Plan ℕ). Is p (record { position = position; left = left })) is_plan is))

some_at : {X : Type 0} (xs : List X) (k : ℕ) → k < length xs → (x : X) × (slice_get xs k ≡ Some x)
some_at [] k inside = absurd (omega (arith, inside))
some_at (x ∷ xs) zero inside = (x, refl)
some_at (x ∷ xs) (suc k) inside = some_at xs k (omega (arith, inside))

there : (entries : List ReadEntryValue) (line : ℕ) (read : ReadEntryValue) → line < length entries → read ≡ get_or entries line read → slice_get entries line ≡ Some read
there [] line read inside is = absurd (omega (arith, inside))
there (e ∷ entries) zero read inside is = ap (λ (r : ReadEntryValue). Some r) (sym is)
there (e ∷ entries) (suc line) read inside is = there entries line read (omega (arith, inside)) is

-- its game
module _ (game : GameValue) (opened root : Root) (entries : List ReadEntryValue) (line place : ℕ) (read : ReadEntryValue) (is_root : opened ≡ root)
    (a_line : line < length entries) (is_read : read ≡ get_or entries line read) (a_layout : place < length root.kept.node.lefts)
    (as_many : length root.kept.numbers ≡ length root.kept.node.lefts) where
  in_opened : (s : State) → slice_get (states root.kept.node) place ≡ Some s → slice_get (states opened.kept.node) place ≡ Some s
  in_opened s at_layout = ap (λ (r : Root). slice_get (states r.kept.node) place) is_root ∙ at_layout

  pub is_game : {E : Type 0} (result : Result (List ℕ) E) (made : Bool) (shown : Shown) (plays : List Played) (cards all : List ℕ)
      → ((s : State) → slice_get (states opened.kept.node) place ≡ Some s → PlaysOut read.entry.plan s cards)
      → ((s : State) → slice_get (states opened.kept.node) place ≡ Some s → made ≡ wins bridge read.entry.plan s)
      → ((number : ℕ) (s : State) → slice_get root.kept.numbers place ≡ Some number → slice_get (states root.kept.node) place ≡ Some s
      → shown ≡ shown_at root (length entries) line place made number s)
      → plays ≡ opened.board.plays → all ≡ map (λ play. play.card) plays ++ cards
      → IfOk result (λ text. text ≡ game_text game opened.board shown all) → IfOk result (IsGameAt game root entries line place)
  is_game (Err e) made shown plays cards all plays_out is_made is_shown is_plays is_all written = tt
  is_game (Ok text) made shown plays cards all plays_out is_made is_shown is_plays is_all written =
      let n = root.kept.node in
      let wide : length (states n) ≡ length n.lefts = length-map n.lefts (λ left. record { position = n.position; left = left }) in
      let state = some_at (states n) place (omega (arith, a_layout, wide)) in
      let number = some_at root.kept.numbers place (omega (arith, a_layout, as_many)) in
      let told = is_shown number.0 state.0 number.1 state.1 ∙ ap (λ (m : Bool). shown_at root (length entries) line place m number.0 state.0) (is_made state.0 (in_opened state.0 state.1)) in
      let played = is_all ∙ ap (λ (ps : List Played). map (λ play. play.card) ps ++ cards) (is_plays ∙ ap (λ (r : Root). r.board.plays) is_root) in
      record {
        read = read;
        number = number.0;
        state = state.0;
        cards = cards;
        at_line = there entries line read a_line is_read;
        at_number = number.1;
        at_layout = state.1;
        played = plays_out state.0 (in_opened state.0 state.1);
        is_text = written ∙ ap (λ (r : Root). game_text game r.board shown all) is_root ∙ ap₂ (λ (sh : Shown) (cs : List ℕ). game_text game root.board sh cs) told played;
      }
