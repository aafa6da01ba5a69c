-- What the pieces of a word say, one after another.
use Rattle.std.proofs.Common.{◌≡◌, ℕ, ◌+◌, ◌≤◌, ◌<◌, Bool, true, false, Option, Some, None, List, [], ◌∷◌, ◌++◌, length, Bor, MatchOption, nat_le, refl, sym, ap, ◌∙◌, arith, append_assoc, append-nil}
use Rattle.std.specs.Prelude.{if◌then◌else◌}
use Rattle.std.specs.Option.{option_map}
use Rattle.std.proofs.lemmas.Bool.{le-leb, lt-leb}
use Rattle.strategy_tree.specs.PlanRead.{card_named}
use Rattle.log_texts.specs.Reading.{pieces_at, all_said, cards_said}
use Rattle.log_texts.proofs.Cut.{pieces_left, first_piece, pieces_of}

-- what the pieces left say, behind what was said before
abbrev pub said_after : {X : Type 0} → List X → Option (List X) → Option (List X)
said_after earlier later = option_map (λ xs. earlier ++ xs) later

pub said_start : {X : Type 0} (said : Option (List X)) → said ≡ said_after [] said
said_start None = refl
said_start (Some xs) = refl

both_after : {X : Type 0} (earlier : List X) (x : X) (later : Option (List X)) → said_after earlier (option_map (λ xs. x ∷ xs) later) ≡ said_after (earlier ++ x ∷ []) later
both_after earlier x None = refl
both_after earlier x (Some xs) = ap (λ all. Some all) (sym (append_assoc earlier (x ∷ []) xs))

module _ {X : Type 0} (mark : ℕ) (says : List ℕ → Option X) (whole : Option (List X)) (earlier : List X) (text piece : List ℕ) (after : Option (Bor (List ℕ)))
    (so_far : whole ≡ said_after earlier (all_said says (pieces_at mark text)))
    (cut : MatchOption after (pieces_at mark text ≡ piece ∷ []) (λ rest. pieces_at mark text ≡ piece ∷ pieces_at mark rest.now)) where
  abbrev later : List (List ℕ)
  later = pieces_left mark (option_map (λ rest. rest.now) after)

  -- one more piece
  pub said_more : (x : X) → says piece ≡ Some x → whole ≡ said_after (earlier ++ x ∷ []) (all_said says later)
  said_more x is =
      let here : all_said says (piece ∷ later) ≡ option_map (λ xs. x ∷ xs) (all_said says later) = rw is refl in
      so_far ∙ ap (λ pieces. said_after earlier (all_said says pieces)) (first_piece mark text piece after cut) ∙ ap (said_after earlier) here ∙ both_after earlier x (all_said says later)

  -- a piece that says nothing
  pub said_nothing : says piece ≡ None → whole ≡ None
  said_nothing is =
      let here : all_said says (piece ∷ later) ≡ None = rw is refl in
      so_far ∙ ap (λ pieces. said_after earlier (all_said says pieces)) (first_piece mark text piece after cut) ∙ ap (said_after earlier) here

-- no piece is left
pub said_all : {X : Type 0} (mark : ℕ) (says : List ℕ → Option X) (whole : Option (List X)) (earlier : List X) (rest : Option (Bor (List ℕ))) → rest ≡ None
    → whole ≡ said_after earlier (all_said says (pieces_left mark (option_map (λ text. text.now) rest))) → whole ≡ Some earlier
said_all mark says whole earlier None none so_far = so_far ∙ ap (λ xs. Some xs) (append-nil earlier)
said_all mark says whole earlier (Some text) none so_far = absurd cc

-- ---- a limit on the pieces

pub some_pieces : (mark : ℕ) (text : List ℕ) → 1 ≤ length (pieces_at mark text)
some_pieces mark text = let all = pieces_of mark text in omega (arith, ap (λ (ps : List (List ℕ)). length ps) all.are)

pub count_more : (mark : ℕ) (text piece : List ℕ) (after : Option (Bor (List ℕ)))
    → MatchOption after (pieces_at mark text ≡ piece ∷ []) (λ rest. pieces_at mark text ≡ piece ∷ pieces_at mark rest.now)
    → length (pieces_at mark text) ≡ 1 + length (pieces_left mark (option_map (λ rest. rest.now) after))
count_more mark text piece after cut = omega (arith, ap (λ (ps : List (List ℕ)). length ps) (first_piece mark text piece after cut))

pub within : {X : Type 0} (count most : ℕ) (said : Option X) → count ≤ most → (if nat_le count most then said else None) ≡ said
within count most said low = rw (le-leb count most low) refl

-- the cards of a path
module _ (word : List ℕ) where
  pub cards_said-many : 52 < length (pieces_at 46 word) → cards_said word ≡ None
  unfolding cards_said
  cards_said-many many = rw (lt-leb (length (pieces_at 46 word)) 52 many) refl

  pub cards_said-nothing : all_said card_named (pieces_at 46 word) ≡ None → cards_said word ≡ None
  unfolding cards_said
  cards_said-nothing nothing = go (nat_le (length (pieces_at 46 word)) 52)
    where
      go : (b : Bool) → (if b then all_said card_named (pieces_at 46 word) else None) ≡ None
      go true = nothing
      go false = refl

  pub cards_said-all : (path : List ℕ) → length (pieces_at 46 word) ≤ 52 → all_said card_named (pieces_at 46 word) ≡ Some path → cards_said word ≡ Some path
  unfolding cards_said
  cards_said-all path few all = within (length (pieces_at 46 word)) 52 (all_said card_named (pieces_at 46 word)) few ∙ all
