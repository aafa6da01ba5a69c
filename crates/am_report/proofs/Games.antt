-- The games of a text, with one game more.
use Rattle.std.proofs.Common.{◌≡◌, ℕ, ◌+◌, ◌<◌, List, [], ◌∷◌, ◌++◌, length, take, get_or, arith, sym, ap, ◌∙◌, append_assoc}
use Rattle.std.proofs.lemmas.List.{append-nil, length-take-le, take_more}
use Rattle.am_report.specs.declared.boards.GameText.{GameText}
use Rattle.am_report.specs.Boards.{game_text, games_from}

games_from-push : (number : ℕ) (games : List GameText) (game : GameText) → games_from number (games ++ game ∷ []) ≡ games_from number games ++ game_text (number + length games) game
games_from-push number [] game =
    let first : number ≡ number + 0 = omega arith in
    append-nil (game_text number game) ∙ ap (λ n. game_text n game) first
games_from-push number (first ∷ games) game =
    let place : number + 1 + length games ≡ number + length (first ∷ games) = omega arith in
    ap (λ t. game_text number first ++ t) (games_from-push (number + 1) games game)
    ∙ sym (append_assoc (game_text number first) (games_from (number + 1) games) (game_text (number + 1 + length games) game))
    ∙ ap (λ n. games_from number (first ∷ games) ++ game_text n game) place

pub game_more : (start now next : List ℕ) (games : List GameText) (k : ℕ) (game : GameText) → k < length games → game ≡ get_or games k game
    → now ≡ start ++ games_from 1 (take k games) → next ≡ now ++ game_text (k + 1) game → next ≡ start ++ games_from 1 (take (k + 1) games)
game_more start now next games k game inside is so_far grew =
    let before = take k games in
    let counted : length before ≡ k = length-take-le k games (omega arith) in
    let number : k + 1 ≡ 1 + length before = omega arith in
    let more : games_from 1 (take (k + 1) games) ≡ games_from 1 before ++ game_text (1 + length before) game =
    ap (games_from 1) (take_more games k game inside ∙ ap (λ x. before ++ x ∷ []) (sym is)) ∙ games_from-push 1 before game in
    grew ∙ ap (λ t. t ++ game_text (k + 1) game) so_far ∙ append_assoc start (games_from 1 before) (game_text (k + 1) game)
    ∙ ap (λ t. start ++ t) (ap (λ n. games_from 1 before ++ game_text n game) number ∙ sym more)
