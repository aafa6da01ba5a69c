-- The board of the game that a number's deal file says.
use Rattle.std.proofs.Common.{◌≡◌, ℕ, false, List, [], ◌∷◌, length, Some, None, Ok, refl, arith}
use Rattle.std.specs.Prelude.{◌==◌, codes}
use Rattle.std.proofs.lemmas.Bool.{ne_eqb}
use Rattle.byte_text.specs.Blanks.{after_blanks}
use Rattle.pbn_text.specs.Games.{TagValue, GameValue}
use Rattle.pbn_deal.specs.Writing.{deal_text}
use Rattle.pbn_deal.specs.BoardRead.{dealt_in, plays_in, board_read}
use Rattle.layout_maker.specs.MadeProblem.{set_of}
use Rattle.layout_maker.proofs.MadeHands.{length-set_of, AreHands}
use Rattle.layout_maker.proofs.MadeDeals.{own_read}
use Rattle.layout_maker.proofs.MadeLayouts.{made_board}

-- a tag pair with no tokens below it
abbrev pub bare_tag : List ℕ → List ℕ → ℕ → TagValue
bare_tag name value line = record { name = name; value = value; line = line; tokens = [] }

-- the game of a deal file whose first line says this deal
abbrev pub made_game : List ℕ → GameValue
made_game deal = record {
  tags = bare_tag (codes "Deal") deal 1 ∷ bare_tag (codes "Declarer") (codes "S") 2 ∷ bare_tag (codes "Contract") (codes "1NT") 3 ∷ bare_tag (codes "EndNeed") (codes "2") 4
      ∷ bare_tag (codes "EndLead") (codes "S") 5 ∷ [];
}

-- the text of the deal
abbrev pub own_text : List ℕ → List ℕ → List ℕ
own_text north south = deal_text (Some (set_of north) ∷ None ∷ Some (set_of south) ∷ None ∷ [])

pub board_read-made : (south north west east : List ℕ) → AreHands south north west east → board_read (made_game (own_text north south)) ≡ Ok (made_board north south)
unfolding board_read dealt_in plays_in after_blanks
board_read-made south north west east hands =
    let five : (length (set_of south) == 13) ≡ false =
    ne_eqb (length (set_of south)) 13 (λ same. absurd (omega (arith, length-set_of south (λ card. omega (arith, hands.inside card)), hands.south_five))) in
    rw (own_read south north west east hands, five) refl
