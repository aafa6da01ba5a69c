-- All numbers of a review are whole.
use Rattle.std.proofs.Common.{◌≡◌, ◌+◌, ℕ, false, List, [], ◌∷◌, map, refl}
use Rattle.std.specs.List.{enumerate_from}
use Rattle.serde_json.specs.View.{items_of}
use Rattle.serde_json.specs.Written.{has_float, items_have_float}
use Rattle.review_text.specs.declared.reviewed.Reviewed.{Reviewed}
use Rattle.review_text.specs.declared.game.GameReview.{GameReview}
use Rattle.review_text.specs.declared.game.GameReview.TheVariants.{Told, Refused}
use Rattle.review_forms.specs.Objects.{cost_data, named_data, decision_data, review_data, told_data, refused_data, outcome_data, game_data, reviews_data}

decisions_are_whole : (told : List Reviewed) → items_have_float (items_of (map decision_data told)) ≡ false
unfolding decision_data cost_data named_data
decisions_are_whole [] = refl
decisions_are_whole (first ∷ later) = decisions_are_whole later

pub review_is_whole : (limit : ℕ) (told : List Reviewed) → has_float (review_data limit told) ≡ false
unfolding review_data
review_is_whole limit told = rw (decisions_are_whole told) refl

outcome_is_whole : (limit place : ℕ) (game : GameReview) → has_float (outcome_data limit place game) ≡ false
unfolding told_data refused_data
outcome_is_whole limit place (Told told) = rw (review_is_whole limit told.items) refl
outcome_is_whole limit place (Refused said) = refl

games_are_whole : (limit place : ℕ) (games : List GameReview) → items_have_float (items_of (map (game_data limit) (enumerate_from place games))) ≡ false
games_are_whole limit place [] = refl
games_are_whole limit place (first ∷ later) = rw (outcome_is_whole limit place first) (games_are_whole limit (place + 1) later)

pub reviews_are_whole : (limit : ℕ) (games : List GameReview) → has_float (reviews_data limit games) ≡ false
unfolding reviews_data
reviews_are_whole limit games = rw (games_are_whole limit 1 games) refl
