-- Each reply is kept by the group that it joined.
use Rattle.std.proofs.Common.{◌≡◌, ◌∙◌, ◌<◌, ◌==◌, ◌||◌, ℕ, Bool, true, false, cond, Option, Some, None, List, [], ◌∷◌, refl, sym, ap, subst, inl, inr, ⊎_elim, true≢false, arith}
use Rattle.std.specs.Prelude.{is_some}
use Rattle.std.proofs.lemmas.Bool.{cases_eq, eq-eqb, ne_eqb, false≢true, or_right}
use Rattle.card_sets.specs.SetWords.{has_card, IsCardSet}
use Rattle.card_sets.proofs.Sets.{has_card-cards_where, has_card-below, tail-after, IsCardSet-tail, IsCardSet-cards_where}
use Rattle.strategy_games.specs.Plans.{Plan, Replies}
use Rattle.told_plans.specs.Follows.{Action, answer_to, does_after, Agree, IsBoth}
use Rattle.told_plans.specs.Told.{Group, answered, and_card, HasJoined, HaveJoined, AreGroups}

-- what one plan does, the other does
abbrev pub IsWithin : Plan ℕ → Plan ℕ → Type 0
IsWithin p q = (cards : List ℕ) (a : Action) → does_after cards p ≡ Some a → does_after cards q ≡ Some a

pub within_trans : (p q r : Plan ℕ) → IsWithin p q → IsWithin q r → IsWithin p r
within_trans p q r h k cards a does = k cards a (h cards a does)

-- the first group that has a card
abbrev pub group_with : List Group → ℕ → Option Group
group_with [] card = None
group_with (g ∷ gs) card = cond (has_card g.cards card) (Some g) (group_with gs card)

-- the group of a card keeps a plan
abbrev pub Keeps : List Group → ℕ → Plan ℕ → Type 0
Keeps gs card p = (g : Group) × (group_with gs card ≡ Some g) × IsWithin p g.plan

with_card : (cards : List ℕ) (card d : ℕ) → d < 52 → has_card (and_card cards card) d ≡ (has_card cards d || d == card)
with_card cards card d low = has_card-cards_where (λ c. has_card cards c || c == card) d low

or_same : (b : Bool) (d card : ℕ) → d ≡ card → (b || d == card) ≡ true
or_same b d card same = or_right b (d == card) (eq-eqb d card same)

or_other : (b : Bool) (d card : ℕ) → (d ≡ card → ⊥) → (b || d == card) ≡ b
or_other true d card other = refl
or_other false d card other = ne_eqb d card other

has_new : (cards : List ℕ) (card : ℕ) → card < 52 → has_card (and_card cards card) card ≡ true
has_new cards card low = with_card cards card card low ∙ or_same (has_card cards card) card card refl

has_old : (cards : List ℕ) (card d : ℕ) → d < 52 → (d ≡ card → ⊥) → has_card (and_card cards card) d ≡ has_card cards d
has_old cards card d low other = with_card cards card d low ∙ or_other (has_card cards d) d card other

found : (g : Group) (gs : List Group) (card : ℕ) → has_card g.cards card ≡ true → group_with (g ∷ gs) card ≡ Some g
found g gs card h = ap (λ (b : Bool). cond b (Some g) (group_with gs card)) h

passed : (g : Group) (gs : List Group) (card : ℕ) → has_card g.cards card ≡ false → group_with (g ∷ gs) card ≡ group_with gs card
passed g gs card h = ap (λ (b : Bool). cond b (Some g) (group_with gs card)) h

not_first : (g : Group) (gs : List Group) (card : ℕ) (b : Bool) → has_card g.cards card ≡ b → group_with (g ∷ gs) card ≡ None → b ≡ false
not_first g gs card true h none = let same : Some g ≡ None = sym (found g gs card h) ∙ none in cc
not_first g gs card false h none = refl

some_same : {A : Type 0} (x y : A) → Some x ≡ Some y → x ≡ y
some_same x y h = cc

-- ---- one reply

-- the reply joins the first group
abbrev JoinsFirst : ℕ → Plan ℕ → Group → List Group → List Group → Type 0
JoinsFirst card p g gs after = (both : Plan ℕ) × IsBoth g.plan p both × (after ≡ record { cards = and_card g.cards card; plan = both } ∷ gs)

-- or a later one
abbrev JoinsLater : ℕ → Plan ℕ → Group → List Group → List Group → Type 0
JoinsLater card p g gs after = (Agree g.plan p → ⊥) × ((rest : List Group) × HasJoined card p gs rest × (after ≡ g ∷ rest))

module _ (card : ℕ) (p : Plan ℕ) (g : Group) (gs : List Group) (after : List Group) where
  first_keeps : card < 52 → JoinsFirst card p g gs after → Keeps after card p
  first_keeps low k =
      let new : Group = record { cards = and_card g.cards card; plan = k.0 } in
      subst (λ gs. Keeps gs card p) (sym k.2) (new, found new gs card (has_new g.cards card low), λ cards a does. (k.1 cards a).1 (inr does))

  later_keeps : group_with (g ∷ gs) card ≡ None → ((rest : List Group) → HasJoined card p gs rest → group_with gs card ≡ None → Keeps rest card p) → JoinsLater card p g gs after → Keeps after card p
  later_keeps none rec k =
      let not_here = not_first g gs card (has_card g.cards card) refl none in
      let kept = rec k.1.0 k.1.1 (sym (passed g gs card not_here) ∙ none) in
      subst (λ gs. Keeps gs card p) (sym k.1.2) (kept.0, passed g k.1.0 card not_here ∙ kept.1, kept.2)

  module _ (d : ℕ) (low : d < 52) (other : d ≡ card → ⊥) where
    first_new : has_card g.cards d ≡ false → group_with gs d ≡ None → JoinsFirst card p g gs after → group_with after d ≡ None
    first_new not_here none k =
        let new : Group = record { cards = and_card g.cards card; plan = k.0 } in
        subst (λ gs. group_with gs d ≡ None) (sym k.2) (passed new gs d (has_old g.cards card d low other ∙ not_here) ∙ none)

    later_new : has_card g.cards d ≡ false → ((rest : List Group) → HasJoined card p gs rest → group_with rest d ≡ None) → JoinsLater card p g gs after → group_with after d ≡ None
    later_new not_here rec k = subst (λ gs. group_with gs d ≡ None) (sym k.1.2) (passed g k.1.0 d not_here ∙ rec k.1.0 k.1.1)

    module _ (q : Plan ℕ) (kept : Keeps (g ∷ gs) d q) where
      here : has_card g.cards d ≡ true → kept.0 ≡ g
      here held = some_same kept.0 g (sym kept.1 ∙ found g gs d held)

      from_rest : has_card g.cards d ≡ false → Keeps gs d q
      from_rest free = (kept.0, sym (passed g gs d free) ∙ kept.1, kept.2)

      first_still : (b : Bool) → has_card g.cards d ≡ b → JoinsFirst card p g gs after → Keeps after d q
      first_still true held k =
          let new : Group = record { cards = and_card g.cards card; plan = k.0 } in
          subst (λ gs. Keeps gs d q) (sym k.2) (new, found new gs d (has_old g.cards card d low other ∙ held), λ cards a does. (k.1 cards a).1 (inl (subst (λ (x : Group). does_after cards x.plan ≡ Some a) (here held) (kept.2 cards a does))))
      first_still false free k =
          let new : Group = record { cards = and_card g.cards card; plan = k.0 } in
          let rest = from_rest free in
          subst (λ gs. Keeps gs d q) (sym k.2) (rest.0, passed new gs d (has_old g.cards card d low other ∙ free) ∙ rest.1, rest.2)

      later_still : (b : Bool) → has_card g.cards d ≡ b → ((rest : List Group) → HasJoined card p gs rest → Keeps gs d q → Keeps rest d q) → JoinsLater card p g gs after → Keeps after d q
      later_still true held rec k = subst (λ gs. Keeps gs d q) (sym k.1.2) (kept.0, found g k.1.0 d held ∙ ap (λ x. Some x) (sym (here held)), kept.2)
      later_still false free rec k =
          let rest = rec k.1.0 k.1.1 (from_rest free) in
          subst (λ gs. Keeps gs d q) (sym k.1.2) (rest.0, passed g k.1.0 d free ∙ rest.1, rest.2)

-- the card that joins is kept
pub joined_keeps : (card : ℕ) (p : Plan ℕ) (before after : List Group) → card < 52 → HasJoined card p before after → group_with before card ≡ None → Keeps after card p
joined_keeps card p [] after low h none =
    let g : Group = record { cards = and_card [] card; plan = p } in
    subst (λ gs. Keeps gs card p) (sym h) (g, found g [] card (has_new [] card low), λ cards a does. does)
joined_keeps card p (g ∷ gs) after low h none =
    ⊎_elim (first_keeps card p g gs after low) (later_keeps card p g gs after none (λ rest j n. joined_keeps card p gs rest low j n)) h

-- another card that is in no group stays so
pub joined_new : (card : ℕ) (p : Plan ℕ) (before after : List Group) (d : ℕ) → d < 52 → (d ≡ card → ⊥) → HasJoined card p before after → group_with before d ≡ None → group_with after d ≡ None
joined_new card p [] after d low other h none =
    let g : Group = record { cards = and_card [] card; plan = p } in
    subst (λ gs. group_with gs d ≡ None) (sym h) (passed g [] d (has_old [] card d low other))
joined_new card p (g ∷ gs) after d low other h none =
    let not_here = not_first g gs d (has_card g.cards d) refl none in
    let rest_none : group_with gs d ≡ None = sym (passed g gs d not_here) ∙ none in
    ⊎_elim (first_new card p g gs after d low other not_here rest_none) (later_new card p g gs after d low other not_here (λ rest j. joined_new card p gs rest d low other j rest_none)) h

-- what is kept stays kept
pub joined_still : (card : ℕ) (p : Plan ℕ) (before after : List Group) (d : ℕ) (q : Plan ℕ) → d < 52 → (d ≡ card → ⊥) → HasJoined card p before after → Keeps before d q → Keeps after d q
joined_still card p [] after d q low other h kept = let same : None ≡ Some kept.0 = kept.1 in absurd cc
joined_still card p (g ∷ gs) after d q low other h kept =
    ⊎_elim (first_still card p g gs after d low other q kept (has_card g.cards d) refl)
    (later_still card p g gs after d low other q kept (has_card g.cards d) refl (λ rest j k. joined_still card p gs rest d q low other j k)) h

-- ---- all replies

module _ (rs : Replies ℕ) where
  -- what is kept before is kept after
  pub all_still : (cards : List ℕ) (before after : List Group) (d : ℕ) (q : Plan ℕ) → d < 52 → has_card cards d ≡ false → HaveJoined rs cards before after → Keeps before d q → Keeps after d q
  all_still [] before after d q low apart h kept = subst (λ gs. Keeps gs d q) h kept
  all_still (c ∷ cards) before after d q low apart h kept =
      elim (cases_eq c d) [
        | inl same ↦ absurd (true≢false (sym (ap (λ b. b || has_card cards d) (eq-eqb c d same)) ∙ apart))
        | inr other ↦ (let later : has_card cards d ≡ false = sym (ap (λ b. b || has_card cards d) (ne_eqb c d other)) ∙ apart in
            all_still cards h.1 after d q low later h.4 (joined_still c h.0 before h.1 d q low (λ e. other (sym e)) h.3 kept))
      ]

  -- each card's answer is kept
  pub each_kept : (cards : List ℕ) (before after : List Group) → IsCardSet cards → ((d : ℕ) → has_card cards d ≡ true → group_with before d ≡ None) → HaveJoined rs cards before after
      → (d : ℕ) (q : Plan ℕ) → has_card cards d ≡ true → answer_to rs d ≡ Some q → Keeps after d q
  each_kept [] before after a_set new h d q among is = absurd (false≢true among)
  each_kept (c ∷ cards) before after a_set new h d q among is =
      let low : d < 52 = has_card-below (c ∷ cards) d a_set among in
      let c_here : has_card (c ∷ cards) c ≡ true = ap (λ b. b || has_card cards c) (eq-eqb c c refl) in
      elim (cases_eq c d) [
        | inl same ↦
            (let c_low : c < 52 = has_card-below (c ∷ cards) c a_set c_here in
            let plan : h.0 ≡ q = some_same h.0 q (sym h.2 ∙ ap (answer_to rs) same ∙ is) in
            let kept : Keeps h.1 d q = subst (λ x. Keeps h.1 x q) same (subst (λ p. Keeps h.1 c p) plan (joined_keeps c h.0 before h.1 c_low h.3 (new c c_here))) in
            all_still cards h.1 after d q low (not_after (has_card cards d) refl same) h.4 kept)
        | inr other ↦
            (let among_rest : has_card cards d ≡ true = sym (ap (λ b. b || has_card cards d) (ne_eqb c d other)) ∙ among in
            each_kept cards h.1 after (IsCardSet-tail c cards a_set) still_new h.4 d q among_rest is)
      ]
    where
      after_first : (e : ℕ) → has_card cards e ≡ true → c < e
      after_first e held = tail-after c cards a_set e held

      not_after : (b : Bool) → has_card cards d ≡ b → c ≡ d → b ≡ false
      not_after true held same = absurd (omega (arith, after_first d held))
      not_after false held same = refl

      still_new : (e : ℕ) → has_card cards e ≡ true → group_with h.1 e ≡ None
      still_new e held =
          let in_all : has_card (c ∷ cards) e ≡ true = or_right (c == e) (has_card cards e) held in
          joined_new c h.0 before h.1 e (has_card-below (c ∷ cards) e a_set in_all) (λ same. absurd (omega (arith, after_first e held))) h.3 (new e in_all)

-- the groups of a defender's cards keep each reply
pub groups_keep : (rs : Replies ℕ) (groups : List Group) (d : ℕ) (q : Plan ℕ) → d < 52 → AreGroups rs groups → answer_to rs d ≡ Some q → Keeps groups d q
groups_keep rs groups d q low h is =
    let test : ℕ → Bool = λ card. is_some (answer_to rs card) in
    each_kept rs (answered rs) [] groups (IsCardSet-cards_where test) (λ e held. refl) h d q (has_card-cards_where test d low ∙ ap is_some is) is
