use Rattle.std.proofs.Common.{◌≡◌, ◌∙◌, ◌+◌, ◌<◌, ◌++◌, ◌∷◌, [], ℕ, List, length, get_or, ap, map, sym, take}
use Rattle.std.specs.List.{enumerate_from}
use Rattle.std.proofs.lemmas.List.{map-append}
use Rattle.serde_json.specs.View.{view}
use Rattle.review_text.proofs.Numbered.{numbered_more}
use Rattle.review_forms.specs.Objects.{game_data}
use Rattle.review_forms.proofs.objects.game_values.Goals as goal

-- the values of the games with their numbers, with one game more
values_more : {X V D : Type 0} (shown : V → D) (said : ℕ × X → D) (values : List V) (value : V) (xs : List X) (k : ℕ) (x : X) → k < length xs → x ≡ get_or xs k x
    → map shown values ≡ map said (enumerate_from 1 (take k xs)) → shown value ≡ said (k + 1, x)
    → map shown (values ++ value ∷ []) ≡ map said (enumerate_from 1 (take (k + 1) xs))
values_more shown said values value xs k x inside is so_far next =
    let before = enumerate_from 1 (take k xs) in
    map-append shown values (value ∷ []) ∙ ap (λ ds. ds ++ shown value ∷ []) so_far ∙ ap (λ d. map said before ++ d ∷ []) next
    ∙ sym (map-append said before ((k + 1, x) ∷ [])) ∙ ap (map said) (sym (numbered_more xs k x inside is))

pub loop-place-preserved : goal.loop-place-preserved
loop-place-preserved c =
    ap (map view) c.in_ok-push.ensures.items
    ∙ values_more view (game_data c.args.moves) c.loop-place.values.items c.in_ok-game_value.field-0 c.args.games.now c.loop-place.place c.index-games-place.result c.loop-place-test.true c.index-games-place.is
    c.loop-place.invariant c.in_ok-game_value.ensures
