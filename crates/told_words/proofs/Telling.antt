-- Phrases and branches, one after another.
use Rattle.std.proofs.Common.{◌≡◌, ◌∙◌, ◌<◌, ◌+◌, ◌++◌, Bool, true, false, not, cond, ℕ, suc, List, [], ◌∷◌, drop, length, get_or, refl, sym, ap, ap₂, append_assoc, arith}
use Rattle.std.proofs.Math.Seq.{drop-cons}
use Rattle.card_sets.specs.declared.seat.Compass.{Compass}
use Rattle.trick_rules.specs.Nodes.{NodeValue}
use Rattle.told_plans.specs.Told.{Told, and_card, ToldPlay, ToldHear}
use Rattle.told_plans.specs.declared.told.Branch.{Branch}
use Rattle.told_plans.specs.ToldMeaning.{branches_of}
use Rattle.told_words.specs.declared.phrases.Turn.{Turn}
use Rattle.told_words.specs.declared.lines.Line.{Line}
use Rattle.told_words.specs.Turns.{played_so}
use Rattle.told_words.specs.Phrases.{next_phrase, has_begun, phrases}
use Rattle.told_words.specs.Steps.{StepValue, step_after}
use Rattle.told_words.specs.Numbers.{given_up_text}
use Rattle.told_words.specs.Words.{Layouts, next_text, played_text, going_on, is_one, one_text, line_end, further_in, branch_lines, steps_text}

-- one turn more
pub turn_more : (declarer : Compass) (cards : List ℕ) (places : List NodeValue) (begun begun_now : Bool) (turns : List Turn) (i : ℕ) (turn : Turn) (out now whole own : List ℕ)
    → i < length turns → turn ≡ get_or turns i turn → own ≡ played_so turn.seat turn.manner cards places → now ≡ out ++ next_phrase declarer turn own begun → begun_now ≡ has_begun own begun
    → out ++ phrases declarer cards places begun (drop i turns) ≡ whole → now ++ phrases declarer cards places begun_now (drop (i + 1) turns) ≡ whole
turn_more declarer cards places begun begun_now turns i turn out now whole own low is is_own written begins so_far =
    let rest = drop (i + 1) turns in
    let next : drop i turns ≡ turn ∷ rest = drop-cons turns i turn low ∙ ap (λ x. x ∷ drop (suc i) turns) (sym is) ∙ ap (λ j. turn ∷ drop j turns) one_more in
    ap₂ (λ (text : List ℕ) (b : Bool). text ++ phrases declarer cards places b rest) written begins
    ∙ append_assoc out (next_phrase declarer turn own begun) (phrases declarer cards places (has_begun own begun) rest)
    ∙ ap (λ o. out ++ (next_phrase declarer turn o begun ++ phrases declarer cards places (has_begun o begun) rest)) is_own
    ∙ ap (λ ts. out ++ phrases declarer cards places begun ts) (sym next)
    ∙ so_far
  where
    one_more : suc i ≡ i + 1
    one_more = omega arith

-- several branches, or none
not_one : (bs : List Branch) → (length bs ≡ 1 → ⊥) → is_one (branches_of bs) ≡ false
not_one [] other = refl
not_one (b ∷ []) other = absurd (other refl)
not_one (b ∷ d ∷ bs) other = refl

-- one branch goes on in the same line
pub one_begins : (bs : List Branch) → length bs ≡ 1 → not (is_one (branches_of bs)) ≡ false
one_begins [] one = absurd (omega (arith, one))
one_begins (b ∷ []) one = refl
one_begins (b ∷ d ∷ bs) one = absurd (omega (arith, one))

pub several_begin : (bs : List Branch) → (length bs ≡ 1 → ⊥) → not (is_one (branches_of bs)) ≡ true
several_begin bs other = ap not (not_one bs other)

pub several_lines : (layouts : Layouts) (bs : List Branch) (line : Line) (step : StepValue) → (length bs ≡ 1 → ⊥)
    → steps_text layouts (ToldHear (branches_of bs)) line step ≡ line_end line ++ branch_lines layouts (branches_of bs) (further_in line) step
several_lines layouts bs line step other =
    ap (λ (b : Bool). cond b (one_text layouts (branches_of bs) line step) (line_end line ++ branch_lines layouts (branches_of bs) (further_in line) step)) (not_one bs other)

-- a card of declarer's side, what it gives up, and what follows
pub play_whole : (layouts : Layouts) (card : ℕ) (rest : Told) (line going : Line) (step after : StepValue) (cards start played given : List ℕ) → cards ≡ and_card [] card
    → played ≡ start ++ played_text line cards step → given ≡ played ++ given_up_text (layouts step.sets).given_up → going ≡ going_on line → after ≡ step_after cards step
    → given ++ next_text (steps_text layouts rest) going after ≡ start ++ steps_text layouts (ToldPlay card rest) line step
play_whole layouts card rest line going step after cards start played given is_card is_played is_given is_going is_after =
    let follows = λ (l : Line) (s : StepValue). next_text (steps_text layouts rest) l s in
    ap₂ (λ (l : Line) (s : StepValue). given ++ follows l s) is_going is_after
    ∙ ap (λ text. text ++ follows (going_on line) (step_after cards step)) (is_given ∙ ap (λ text. text ++ given_up_text (layouts step.sets).given_up) is_played ∙ append_assoc start (played_text line cards step) (given_up_text (layouts step.sets).given_up))
    ∙ append_assoc start (played_text line cards step ++ given_up_text (layouts step.sets).given_up) (follows (going_on line) (step_after cards step))
    ∙ ap (λ cs. start ++ ((played_text line cs step ++ given_up_text (layouts step.sets).given_up) ++ follows (going_on line) (step_after cs step))) is_card
