-- Games that are collected piece by piece are the groups of the text.
use Rattle.std.proofs.Common.{◌≡◌, ℕ, ◌+◌, Bool, true, false, cond, eqb, List, [], ◌∷◌, ◌++◌, length, map, filter, Option, Some, None, is_some, Result, Ok, Err, refl, sym, ap, ◌∙◌, arith, append_assoc, ◌≤◌, All, IfOk, subst, count_by}
use Rattle.std.specs.List.{slice_split, onto_first, AllByRecursion}
use Rattle.std.proofs.lemmas.List.{append-nil, nil_from_length}
use Rattle.std.proofs.lemmas.Bool.{eqb-true, ltb-true, cond_both}
use Rattle.std.proofs.lemmas.List.Elements.{All-from_recursion}
use Rattle.std.specs.Global.{Vec}
use Rattle.std.proofs.lemmas.List.Splits.{length-slice_split}
use Rattle.pbn_text.specs.declared.fault.Syntax.{Syntax}
use Rattle.pbn_text.specs.declared.fault.TextFault.{TextFault}
use Rattle.pbn_text.specs.declared.fault.TextFault.TheVariants as faults
use Rattle.pbn_text.specs.declared.game.Game.{Game}
use Rattle.pbn_text.specs.Pieces.{Piece, passed, game_end, tag, token, fault, pieces}
use Rattle.pbn_text.specs.Games.{TokenValue, TagValue, GameValue}
use Rattle.pbn_text.specs.Grammar.{tokens_ahead, tags_of, game_of, is_game_end, has_tag, first_fault, games_in, or_fault, unless_fault, no_text_fault, without_mark, text_read, games_read}
use Rattle.pbn_text.specs.Reading.{with_token, open_tags, with_game, games_with, IsFault, IsTextFaultOf, GivesGames}

-- a tag pair with the tokens that follow it
abbrev with_tokens : TagValue → List TokenValue → TagValue
with_tokens pair more = record pair { tokens = pair.tokens ++ more }

-- the tag pairs of a game of which these were read
abbrev all_tags : List TagValue → Option TagValue → List Piece → List TagValue
all_tags tags None group = tags ++ tags_of group
all_tags tags (Some pair) group = tags ++ with_tokens pair (tokens_ahead group) ∷ tags_of group

abbrev a_game : List TagValue → GameValue
a_game tags = record { tags = tags }

-- the games of a text of which these were read, group by group
abbrev all_games : List GameValue → List TagValue → Option TagValue → List (List Piece) → List GameValue
all_games games tags last [] = games
all_games games tags last (group ∷ groups) = games ++ filter has_tag (a_game (all_tags tags last group) ∷ map game_of groups)

-- a text has a first group
for_groups : (P : List (List Piece) → Type 0) → ((group : List Piece) (groups : List (List Piece)) → P (group ∷ groups)) → (text : List Piece) → P (slice_split is_game_end text)
for_groups P each text = first (slice_split is_game_end text) (count_by is_game_end text) (length-slice_split is_game_end text) where
  first : (groups : List (List Piece)) (n : ℕ) → length groups ≡ n + 1 → P groups
  first [] n len = absurd (omega (arith, len))
  first (group ∷ groups) n len = each group groups

nothing_more : (pair : TagValue) → with_tokens pair [] ≡ pair
nothing_more pair = ap (λ (tokens : List TokenValue). record pair { tokens = tokens }) (append-nil pair.tokens)

open_tags-end : (tags : List TagValue) (last : Option TagValue) → all_tags tags last [] ≡ open_tags tags last
open_tags-end tags None = refl
open_tags-end tags (Some pair) = ap (λ (p : TagValue). tags ++ p ∷ []) (nothing_more pair)

with_game-one : (games : List GameValue) (tags : List TagValue) (others : List GameValue) → with_game games tags ++ others ≡ games ++ cond (has_tag (a_game tags)) (a_game tags ∷ others) others
with_game-one games tags others = by_tag (has_tag (a_game tags)) where
  by_tag : (b : Bool) → cond b (games ++ a_game tags ∷ []) games ++ others ≡ games ++ cond b (a_game tags ∷ others) others
  by_tag true = append_assoc games (a_game tags ∷ []) others
  by_tag false = refl

-- a fault, or the games
abbrev read_as : Bool → List Piece → List GameValue → Result (List GameValue) (ℕ × Syntax)
read_as has_tag_before text games = or_fault (first_fault has_tag_before text) games

passed-first : (games : List GameValue) (tags : List TagValue) (last : Option TagValue) (text : List Piece) → all_games games tags last (onto_first passed (slice_split is_game_end text)) ≡ all_games games tags last (slice_split is_game_end text)
passed-first games tags last text = for_groups (λ groups. all_games games tags last (onto_first passed groups) ≡ all_games games tags last groups) (same last) text where
  same : (last : Option TagValue) (group : List Piece) (groups : List (List Piece)) → all_games games tags last ((passed ∷ group) ∷ groups) ≡ all_games games tags last (group ∷ groups)
  same None group groups = refl
  same (Some pair) group groups = refl

tag-first : (games : List GameValue) (tags : List TagValue) (last : Option TagValue) (name value : List ℕ) (line : ℕ) (text : List Piece)
    → all_games games (open_tags tags last) (Some (record { name = name; value = value; line = line; tokens = [] })) (slice_split is_game_end text) ≡ all_games games tags last (onto_first (tag name value line) (slice_split is_game_end text))
tag-first games tags last name value line text =
    for_groups (λ groups. all_games games (open_tags tags last) (Some (record { name = name; value = value; line = line; tokens = [] })) groups ≡ all_games games tags last (onto_first (tag name value line) groups)) (same last) text where
      same : (last : Option TagValue) (group : List Piece) (groups : List (List Piece))
          → all_games games (open_tags tags last) (Some (record { name = name; value = value; line = line; tokens = [] })) (group ∷ groups) ≡ all_games games tags last ((tag name value line ∷ group) ∷ groups)
      same None group groups =
          let new : TagValue = record { name = name; value = value; line = line; tokens = tokens_ahead group } in
          ap (λ ts. games ++ filter has_tag (a_game ts ∷ map game_of groups)) (ap (λ ts. ts ++ new ∷ tags_of group) (append-nil tags))
      same (Some pair) group groups =
          let new : TagValue = record { name = name; value = value; line = line; tokens = tokens_ahead group } in
          ap (λ ts. games ++ filter has_tag (a_game ts ∷ map game_of groups)) (append_assoc tags (pair ∷ []) (new ∷ tags_of group) ∙ ap (λ (p : TagValue). tags ++ p ∷ new ∷ tags_of group) (sym (nothing_more pair)))

token-first : (games : List GameValue) (tags : List TagValue) (pair : TagValue) (found : TokenValue) (text : List Piece)
    → all_games games tags (Some (with_token pair found)) (slice_split is_game_end text) ≡ all_games games tags (Some pair) (onto_first (token found) (slice_split is_game_end text))
token-first games tags pair found text = for_groups (λ groups. all_games games tags (Some (with_token pair found)) groups ≡ all_games games tags (Some pair) (onto_first (token found) groups)) same text where
  same : (group : List Piece) (groups : List (List Piece)) → all_games games tags (Some (with_token pair found)) (group ∷ groups) ≡ all_games games tags (Some pair) ((token found ∷ group) ∷ groups)
  same group groups =
      ap (λ (tokens : List TokenValue). games ++ filter has_tag (a_game (tags ++ record pair { tokens = tokens } ∷ tags_of group) ∷ map game_of groups)) (append_assoc pair.tokens (found ∷ []) (tokens_ahead group))

end-first : (games : List GameValue) (tags : List TagValue) (last : Option TagValue) (text : List Piece)
    → all_games (with_game games (open_tags tags last)) [] None (slice_split is_game_end text) ≡ all_games games tags last ([] ∷ slice_split is_game_end text)
end-first games tags last text = for_groups (λ groups. all_games (with_game games (open_tags tags last)) [] None groups ≡ all_games games tags last ([] ∷ groups)) same text where
  same : (group : List Piece) (groups : List (List Piece)) → all_games (with_game games (open_tags tags last)) [] None (group ∷ groups) ≡ all_games games tags last ([] ∷ group ∷ groups)
  same group groups =
      with_game-one games (open_tags tags last) (filter has_tag (game_of group ∷ map game_of groups))
      ∙ ap (λ ts. games ++ filter has_tag (a_game ts ∷ game_of group ∷ map game_of groups)) (sym (open_tags-end tags last))

-- what is collected piece by piece
collected : (games : List GameValue) (tags : List TagValue) (last : Option TagValue) (text : List Piece) → games_with games tags last text ≡ read_as (is_some last) text (all_games games tags last (slice_split is_game_end text))
collected games tags last [] =
    ap (λ (gs : List GameValue). Ok gs) (sym (append-nil (with_game games (open_tags tags last))) ∙ with_game-one games (open_tags tags last) [] ∙ ap (λ ts. games ++ filter has_tag (a_game ts ∷ [])) (sym (open_tags-end tags last)))
collected games tags last (passed ∷ text) = collected games tags last text ∙ ap (read_as (is_some last) text) (sym (passed-first games tags last text))
collected games tags last (game_end ∷ text) = collected (with_game games (open_tags tags last)) [] None text ∙ ap (read_as false text) (end-first games tags last text)
collected games tags last (tag name value line ∷ text) =
    collected games (open_tags tags last) (Some (record { name = name; value = value; line = line; tokens = [] })) text ∙ ap (read_as true text) (tag-first games tags last name value line text)
collected games tags None (token found ∷ text) = refl
collected games tags (Some pair) (token found ∷ text) = collected games tags (Some (with_token pair found)) text ∙ ap (read_as true text) (token-first games tags pair found text)
collected games tags None (fault line kind ∷ text) = refl
collected games tags (Some pair) (fault line kind ∷ text) = refl

pub text_read-collected : (text : List ℕ) → games_with [] [] None (pieces true 1 0 text) ≡ text_read text
unfolding text_read games_in
text_read-collected text =
    let all = pieces true 1 0 text in
    collected [] [] None all ∙ ap (read_as false all) (for_groups (λ groups. all_games [] [] None groups ≡ filter has_tag (map game_of groups)) (λ group groups. refl) all)

-- a fault that the text begins with is the fault of what is left
pub IsTextFaultOf-first : (reason : TextFault) (games : List GameValue) (tags : List TagValue) (last : Option TagValue) (piece : Piece) (more left : List Piece) → left ≡ piece ∷ more → IsFault reason piece → IsTextFaultOf reason (games_with games tags last left)
IsTextFaultOf-first faults.Memory games tags last piece more left is at = tt
IsTextFaultOf-first (faults.Syntax line kind) games tags last piece more left is at = ap (games_with games tags last) (is ∙ ap (λ (p : Piece). p ∷ more) at)

-- nothing is left of an empty text
pub pieces-none : (at_front : Bool) (line : ℕ) (text : List ℕ) → eqb (length text) 0 ≡ true → pieces at_front line 0 text ≡ []
unfolding pieces
pieces-none at_front line text none = ap (pieces at_front line 0) (nil_from_length text (eqb-true (length text) 0 none))

-- ---- each game has a tag pair

tagged_each : (games : List GameValue) → AllByRecursion (λ game. 1 ≤ length game.tags) (filter has_tag games)
tagged_each [] = tt
tagged_each (game ∷ games) = cond_both (has_tag game) (game ∷ filter has_tag games) (filter has_tag games) (AllByRecursion (λ g. 1 ≤ length g.tags)) (λ tagged. (ltb-true 0 (length game.tags) tagged, tagged_each games)) (λ none. tagged_each games)

no_error : {A : Type 0} (found : Option (ℕ × Syntax)) (value other : A) → or_fault found value ≡ Ok other → other ≡ value
no_error None value other is = cc
no_error (Some reason) value other is = absurd cc

tagged_ok : (text : List ℕ) (games : List GameValue) → text_read text ≡ Ok games → All (λ game. 1 ≤ length game.tags) games
unfolding text_read games_in
tagged_ok text games is =
    let all = pieces true 1 0 text in
    let same = no_error (first_fault false all) (games_in all) games is in
    subst (All (λ game. 1 ≤ length game.tags)) (sym same) (All-from_recursion (λ game. 1 ≤ length game.tags) (filter has_tag (map game_of (slice_split is_game_end all))) (tagged_each (map game_of (slice_split is_game_end all))))

-- what is read of a text has a tag pair in each game
pub tagged_read : (text : List ℕ) (result : Result (Vec Game) TextFault) → GivesGames result (text_read text) → IfOk result (λ games. All (λ game. 1 ≤ length game.tags) games.items)
tagged_read text (Ok games) is = tagged_ok text games.items is
tagged_read text (Err reason) is = tt

-- the grammar gives no game without a tag pair
pub games_read-tagged : (bytes : List ℕ) (games : List GameValue) → games_read bytes ≡ Ok games → All (λ game. 1 ≤ length game.tags) games
unfolding games_read
games_read-tagged bytes games is = unless (no_text_fault bytes) is where
  unless : (found : Option (ℕ × Syntax)) → unless_fault found (text_read (without_mark bytes)) ≡ Ok games → All (λ game. 1 ≤ length game.tags) games
  unless None read = tagged_ok (without_mark bytes) games read
  unless (Some found) read = absurd cc
