-- A told plan cut down at its node is the plan.
use Rattle.std.proofs.Common.{◌≡◌, ◌∙◌, ◌<◌, ◌||◌, ℕ, zero, suc, Bool, true, false, cond, Option, Some, None, List, [], ◌∷◌, refl, sym, ap, ap₂, subst, arith}
use Rattle.std.specs.Prelude.{option_and_then}
use Rattle.std.proofs.lemmas.Bool.{eq-eqb}
use Rattle.std.specs.List.{list_any}
use Rattle.card_sets.specs.SetWords.{has_card, IsCardSet}
use Rattle.card_sets.proofs.Sets.{has_card-below, tail-after, IsCardSet-tail, IsCardSet-cards_where}
use Rattle.trick_rules.specs.Nodes.{NodeValue, choices, child, is_legal}
use Rattle.strategy_games.specs.Plans.{Plan, Replies, Stop, Play, Hear, NoReply, Reply, Fits, FitEach, cards_of}
use Rattle.strategy_tree.specs.Bridge.{bridge}
use Rattle.told_plans.specs.Follows.{Action, Stops, Plays, Waits, action, answer_to, does_after}
use Rattle.told_plans.specs.Told.{Told, Branches, ToldStop, ToldPlay, ToldHear, NoBranch, Branch, Group, AreGroups, IsTold, AreTold}
use Rattle.told_plans.specs.Cuts.{with_reply, replies_to, cut, cut_branch}
use Rattle.told_plans.proofs.Answered.{first_answer, later_answer, replied}
use Rattle.told_plans.proofs.Keeping.{IsWithin, within_trans, group_with, groups_keep}

some_same : {A : Type 0} (x y : A) → Some x ≡ Some y → x ≡ y
some_same x y h = cc

-- ---- a plan that does what another does begins as the other does

begins_alike : (q p : Plan ℕ) → IsWithin q p → action p ≡ action q
begins_alike q p h = some_same (action p) (action q) (h [] (action q) refl)

is_stop : (p : Plan ℕ) → action p ≡ Stops → p ≡ Stop
is_stop Stop h = refl
is_stop (Play c q) h = cc
is_stop (Hear rs) h = cc

is_play : (p : Plan ℕ) (c : ℕ) → action p ≡ Plays c → (q : Plan ℕ) × (p ≡ Play c q)
is_play Stop c h = absurd cc
is_play (Play d q) c h = let same : d ≡ c = cc in (q, ap (λ x. Play x q) same)
is_play (Hear rs) c h = absurd cc

is_hear : (p : Plan ℕ) → action p ≡ Waits → (rs : Replies ℕ) × (p ≡ Hear rs)
is_hear Stop h = absurd cc
is_hear (Play d q) h = absurd cc
is_hear (Hear rs) h = (rs, refl)

-- ---- the same after a card

after_play : (c : ℕ) (q p : Plan ℕ) → IsWithin (Play c q) (Play c p) → IsWithin q p
after_play c q p h cards a does = sym (here p cards) ∙ h (c ∷ cards) a (here q cards ∙ does)
  where
    here : (r : Plan ℕ) (cards : List ℕ) → does_after (c ∷ cards) (Play c r) ≡ does_after cards r
    here r cards = ap (λ (b : Bool). option_and_then (does_after cards) (cond b (Some r) None)) (eq-eqb c c refl)

some_answer : (o : Option (Plan ℕ)) (a : Action) → option_and_then (does_after []) o ≡ Some a → (p : Plan ℕ) × (o ≡ Some p)
some_answer None a h = absurd cc
some_answer (Some p) a h = (p, refl)

-- the answer to a card, and what it does
answer_within : (rs ps : Replies ℕ) (card : ℕ) (q : Plan ℕ) → IsWithin (Hear rs) (Hear ps) → answer_to rs card ≡ Some q → (p : Plan ℕ) × (answer_to ps card ≡ Some p) × IsWithin q p
answer_within rs ps card q h is =
    let found = some_answer (answer_to ps card) (action q) (h (card ∷ []) (action q) (ap (option_and_then (does_after [])) is)) in
    (found.0, found.1, λ cards a does. sym (ap (option_and_then (does_after cards)) found.1) ∙ h (card ∷ cards) a (ap (option_and_then (does_after cards)) is ∙ does))

-- ---- the branch of a card

-- what is told of the group that has the card
abbrev TellsOf : NodeValue → ℕ → Group → Branches → Type 0
TellsOf n card g branches = (told : Told) × IsTold told g.plan × (cut_branch branches n card ≡ Some (cut told (child n card)))

module _ (cards : List ℕ) (told : Told) (branches : Branches) (plan : Plan ℕ) (later : List Group) (n : NodeValue) (card : ℕ) (g : Group) (is : group_with (record { cards = cards; plan = plan } ∷ later) card ≡ Some g) where
  told_step : (b : Bool) → has_card cards card ≡ b → IsTold told plan → (group_with later card ≡ Some g → TellsOf n card g branches) → TellsOf n card g (Branch cards told branches)
  told_step true here is_told rec =
      let group : Group = record { cards = cards; plan = plan } in
      let same : group ≡ g = some_same group g (sym (ap (λ (b : Bool). cond b (Some group) (group_with later card)) here) ∙ is) in
      (told, subst (λ (x : Group). IsTold told x.plan) same is_told, ap (λ (b : Bool). cond b (Some (cut told (child n card))) (cut_branch branches n card)) here)
  told_step false here is_told rec =
      let group : Group = record { cards = cards; plan = plan } in
      let rest = rec (sym (ap (λ (b : Bool). cond b (Some group) (group_with later card)) here) ∙ is) in
      (rest.0, rest.1, ap (λ (b : Bool). cond b (Some (cut told (child n card))) (cut_branch branches n card)) here ∙ rest.2)

told_with : (branches : Branches) (groups : List Group) (n : NodeValue) (card : ℕ) (g : Group) → AreTold branches groups → group_with groups card ≡ Some g → TellsOf n card g branches
told_with NoBranch groups n card g h is = let none : None ≡ Some g = sym (ap (λ gs. group_with gs card) h) ∙ is in absurd cc
told_with (Branch cards told branches) groups n card g h is =
    told_step cards told branches h.0 h.1 n card g (sym (ap (λ gs. group_with gs card) h.2) ∙ is) (has_card cards card) refl h.3 (λ e. told_with branches h.1 n card g h.4 e)

-- ---- the law

-- each reply is within the answer to its card
abbrev AreWithin : Replies ℕ → Replies ℕ → Type 0
AreWithin rs ps = (card : ℕ) (q : Plan ℕ) → answer_to rs card ≡ Some q → (p : Plan ℕ) × (answer_to ps card ≡ Some p) × IsWithin q p

within_later : (c : ℕ) (q : Plan ℕ) (rs ps : Replies ℕ) → IsCardSet (cards_of (Reply c q rs)) → AreWithin (Reply c q rs) ps → AreWithin rs ps
within_later c q rs ps a_set each card r is =
    let past : c < card = tail-after c (cards_of rs) a_set card (replied rs card r is) in
    each card r (later_answer c card q rs (λ same. absurd (omega arith)) ∙ is)

stop_cut : (told : Told) (p : Plan ℕ) (n : NodeValue) → p ≡ Stop → IsTold told p → cut told n ≡ Stop
stop_cut ToldStop p n same is = refl
stop_cut (ToldPlay card rest) p n same is = let e : Stop ≡ Play card is.0 = sym same ∙ is.1 in absurd cc
stop_cut (ToldHear branches) p n same is = let e : Stop ≡ Hear is.0 = sym same ∙ is.2 in absurd cc

play_cut : (told : Told) (c : ℕ) (q p r : Plan ℕ) (n : NodeValue) → p ≡ Play c r → IsWithin (Play c q) p → IsTold told p
    → ((rest : Told) → IsWithin q r → IsTold rest r → cut rest (child n c) ≡ q) → cut told n ≡ Play c q
play_cut ToldStop c q p r n same within is rec = let e : Stop ≡ Play c r = sym is ∙ same in absurd cc
play_cut (ToldPlay card rest) c q p r n same within is rec =
    let e : Play card is.0 ≡ Play c r = sym is.1 ∙ same in
    let card_same : card ≡ c = cc in
    let rest_same : is.0 ≡ r = cc in
    let below : IsWithin q r = after_play c q r (subst (λ x. IsWithin (Play c q) x) same within) in
    let told_below : IsTold rest r = subst (λ x. IsTold rest x) rest_same is.2 in
    ap (λ x. Play x (cut rest (child n x))) card_same ∙ ap (λ x. Play c x) (rec rest below told_below)
play_cut (ToldHear branches) c q p r n same within is rec = let e : Hear is.0 ≡ Play c r = sym is.2 ∙ same in absurd cc

hear_cut : (told : Told) (rs : Replies ℕ) (p : Plan ℕ) (ps : Replies ℕ) (n : NodeValue) → p ≡ Hear ps → IsWithin (Hear rs) p → IsTold told p → cards_of rs ≡ choices n
    → ((branches : Branches) (groups : List Group) (ts : Replies ℕ) → AreWithin rs ts → AreGroups ts groups → AreTold branches groups → replies_to (cut_branch branches n) (cards_of rs) ≡ rs)
    → cut told n ≡ Hear rs
hear_cut ToldStop rs p ps n same within is fits rec = let e : Stop ≡ Hear ps = sym is ∙ same in absurd cc
hear_cut (ToldPlay card rest) rs p ps n same within is fits rec = let e : Play card is.0 ≡ Hear ps = sym is.1 ∙ same in absurd cc
hear_cut (ToldHear branches) rs p ps n same within is fits rec =
    let each : AreWithin rs is.0 = λ card r answer. answer_within rs is.0 card r (subst (λ x. IsWithin (Hear rs) x) is.2 within) answer in
    ap (λ cards. Hear (replies_to (cut_branch branches n) cards)) (sym fits) ∙ ap (λ x. Hear x) (rec branches is.1 is.0 each is.3 is.4)

card_set : (rs : Replies ℕ) (n : NodeValue) → cards_of rs ≡ choices n → IsCardSet (cards_of rs)
card_set rs n fits = subst IsCardSet (sym fits) (IsCardSet-cards_where (λ card. list_any (is_legal n.position card) n.lefts))

mutual
  pub cut_told : (q p : Plan ℕ) (told : Told) (n : NodeValue) (moves : ℕ) → IsWithin q p → IsTold told p → Fits bridge q n moves → cut told n ≡ q
  cut_told Stop p told n moves within is fits = stop_cut told p n (is_stop p (begins_alike Stop p within)) is
  cut_told (Play c q) p told n zero within is fits = absurd fits
  cut_told (Play c q) p told n (suc moves) within is fits =
      let same = is_play p c (begins_alike (Play c q) p within) in
      play_cut told c q p same.0 n same.1 within is (λ rest below told_below. cut_told q same.0 rest (child n c) moves below told_below fits.3)
  cut_told (Hear rs) p told n moves within is fits =
      let same = is_hear p (begins_alike (Hear rs) p within) in
      hear_cut told rs p same.0 n same.1 within is fits.2 (λ branches groups ps each grouped are. cut_each rs branches groups ps n moves (card_set rs n fits.2) each grouped are fits.3)

  -- the replies from one on
  cut_each : (rs : Replies ℕ) (branches : Branches) (groups : List Group) (ps : Replies ℕ) (n : NodeValue) (moves : ℕ) → IsCardSet (cards_of rs)
      → AreWithin rs ps → AreGroups ps groups → AreTold branches groups → FitEach bridge rs n moves → replies_to (cut_branch branches n) (cards_of rs) ≡ rs
  cut_each NoReply branches groups ps n moves a_set each grouped are fits = refl
  cut_each (Reply c q rs) branches groups ps n moves a_set each grouped are fits =
      let low : c < 52 = has_card-below (c ∷ cards_of rs) c a_set (ap (λ b. b || has_card (cards_of rs) c) (eq-eqb c c refl)) in
      let mine = each c q (first_answer c q rs) in
      let kept = groups_keep ps groups c mine.0 low grouped mine.1 in
      let told = told_with branches groups n c kept.0 are kept.1 in
      let here : cut_branch branches n c ≡ Some q = told.2 ∙ ap (λ x. Some x) (cut_told q kept.0.plan told.0 (child n c) moves (within_trans q mine.0 kept.0.plan mine.2 kept.2) told.1 fits.0) in
      let later = cut_each rs branches groups ps n moves (IsCardSet-tail c (cards_of rs) a_set) (within_later c q rs ps a_set each) grouped are fits.1 in
      ap₂ (λ (o : Option (Plan ℕ)) (x : Replies ℕ). with_reply c o x) here later

-- a plan's own told plan
pub lossless : (plan : Plan ℕ) (told : Told) (n : NodeValue) (moves : ℕ) → IsTold told plan → Fits bridge plan n moves → cut told n ≡ plan
lossless plan told n moves is fits = cut_told plan plan told n moves (λ cards a does. does) is fits
