-- Gap after gap closed, and what is known then carried back.
use Rattle.std.proofs.Common.{◌≡◌, ℕ, ◌+◌, ◌≤◌, Bool, true, false, not, ◌<◌, ◌||◌, eqb, cond, List, [], ◌∷◌, ◌++◌, length, refl, sym, ap, subst, ◌∙◌, inl, inr, arith}
use Rattle.std.proofs.lemmas.Bool.{false≢true, eqb-true, eq-eqb, ne_eqb, or_right, or_parts, or_cases}
use Rattle.std.proofs.lemmas.List.{length_push}
use Rattle.card_sets.specs.SetWords.{has_card, cards_where, IsCardSet, IsLast}
use Rattle.card_sets.proofs.Sets.{has_card-below, has_card-cards_where, tail-after, IsCardSet-tail}
use Rattle.card_sets.proofs.SetCounts.{length-le_52}
use Rattle.trick_rules.specs.Positions.{State, IsState}
use Rattle.trick_rules.specs.Play.{take_out}
use Rattle.trick_rules.proofs.CardLists.{first_has}
use Rattle.double_dummy.specs.Equals.{in_play}
use Rattle.equivalent_positions.specs.Alike.{IsClosedUp, HasAnswer}
use Rattle.dd_solver.specs.declared.key.Key.{Key}
use Rattle.dd_solver.specs.declared.shape.Shape.{Shape}
use Rattle.dd_solver.specs.Keys.{key_state, HasShape}
use Rattle.dd_solver.specs.RelativeRanks.{with_gap_closed, IsGapClosed, AreGapsClosed}
use Rattle.dd_solver.proofs.Gaps.{IsStill, still-same, still-on, closed-still, later-free}

pub gaps-still : (gaps : List ℕ) (s t : State) → IsState s → AreGapsClosed gaps s t → IsStill s t
gaps-still [] s t ok e = subst (IsStill s) e (still-same s ok)
gaps-still (gap ∷ gaps) s t ok (next, first, others) =
    let one = closed-still gap s next ok first in
    still-on s next t one (gaps-still gaps next t one.state others)

-- the last gap
pub last-gap : (gaps : List ℕ) (gap : ℕ) (s t : State) → AreGapsClosed (gaps ++ gap ∷ []) s t → (u : State) × AreGapsClosed gaps s u × IsGapClosed gap u t
last-gap [] gap s t (next, first, e) = (s, refl, subst (IsGapClosed gap s) e first)
last-gap (one ∷ gaps) gap s t (next, first, others) =
    let found : (u : State) × AreGapsClosed gaps next u × IsGapClosed gap u t = last-gap gaps gap next t others in
    (found.0, (next, first, found.1), found.2)

pub one-more-gap : (gaps : List ℕ) (gap : ℕ) (s t u : State) → AreGapsClosed gaps s t → IsGapClosed gap t u → AreGapsClosed (gaps ++ gap ∷ []) s u
one-more-gap [] gap s t u e g = (u, subst (λ x. IsGapClosed gap x u) (sym e) g, refl)
one-more-gap (one ∷ gaps) gap s t u (next, first, others) g = (next, first, one-more-gap gaps gap next t u others g)

-- ---- forth

-- places free in two sets are free in both together
pub either_free : (playing these those all : List ℕ) → all ≡ cards_where (λ c. has_card these c || has_card those c) → IsCardSet all
    → ((c : ℕ) → has_card these c ≡ true → has_card playing c ≡ false) → ((c : ℕ) → has_card those c ≡ true → has_card playing c ≡ false) → (c : ℕ) → has_card all c ≡ true → has_card playing c ≡ false
either_free playing these those all e set first second c h =
    let is = sym (ap (λ (x : List ℕ). has_card x c) e ∙ has_card-cards_where (λ d. has_card these d || has_card those d) c (has_card-below all c set h)) ∙ h in
    elim (or_cases (has_card these c) (has_card those c) is) as (λ _. has_card playing c ≡ false) [
      | inl one ↦ first c one
      | inr other ↦ second c other
    ]

-- these gaps are closed, and the rest, which come after them, are free
pub record AreClosing (first : Key) (gaps rest : List ℕ) (key : Key) : Type 0 where
  pub closed : AreGapsClosed gaps (key_state first) (key_state key)
  pub shape : key.shape ≡ first.shape
  pub set : IsCardSet rest
  pub free : (c : ℕ) → has_card rest c ≡ true → in_play (key_state key).position c ≡ false
  pub room : length gaps + length rest ≤ 52

pub closing-start : (first : Key) (ours playing gaps rest : List ℕ) → ours ≡ cards_where (λ c. has_card first.declarer c || has_card first.dummy c) → playing ≡ cards_where (λ c. has_card ours c || has_card first.unseen c)
    → gaps ≡ [] → IsCardSet rest → ((c : ℕ) → has_card rest c ≡ true → has_card playing c ≡ false) → AreClosing first gaps rest first
closing-start first ours playing gaps rest e f none set free = record {
  closed = subst (λ l. AreGapsClosed l (key_state first) (key_state first)) (sym none) refl;
  shape = refl;
  set = set;
  free = λ c h.
      (let low = has_card-below rest c set h in
      let all = or_parts (has_card ours c) (has_card first.unseen c) (sym (ap (λ (x : List ℕ). has_card x c) f ∙ has_card-cards_where (λ d. has_card ours d || has_card first.unseen d) c low) ∙ free c h) in
      let both = or_parts (has_card first.declarer c) (has_card first.dummy c) (sym (ap (λ (x : List ℕ). has_card x c) e ∙ has_card-cards_where (λ d. has_card first.declarer d || has_card first.dummy d) c low) ∙ all.0) in
      rw (both.0, both.1, all.1) refl);
  room = omega (arith, ap (length {A = ℕ}) none, length-le_52 rest set);
}

pub closing-step : (first old new : Key) (gaps more rest left : List ℕ) (gap : ℕ) → AreClosing first gaps rest old → rest ≡ gap ∷ left → more ≡ gaps ++ gap ∷ [] → new.shape ≡ old.shape
    → key_state new ≡ with_gap_closed gap (key_state old) → AreClosing first more left new
closing-step first old new gaps more rest left gap r e pushed shape is = record {
  closed = subst (λ l. AreGapsClosed l (key_state first) (key_state new)) (sym pushed) (one-more-gap gaps gap (key_state first) (key_state old) (key_state new) r.closed one);
  shape = shape ∙ r.shape;
  set = IsCardSet-tail gap left set;
  free = λ c h. later-free gap (key_state old) (key_state new) c one (tail-after gap left set c h) (has_card-below left c (IsCardSet-tail gap left set) h) (r.free c (ap (λ l. has_card l c) e ∙ later c h));
  room = (let k = r.room in omega (arith, k, ap (length {A = ℕ}) pushed, length_push gaps gap, ap (length {A = ℕ}) e));
}
  where
    set : IsCardSet (gap ∷ left)
    set = subst IsCardSet e r.set

    here : has_card (gap ∷ left) gap ≡ true
    here = first_has gap left

    later : (c : ℕ) → has_card left c ≡ true → has_card (gap ∷ left) c ≡ true
    later c h = or_right (eqb gap c) (has_card left c) h

    one : IsGapClosed gap (key_state old) (key_state new)
    one = record {
      between_tricks = refl;
      fits = has_card-below (gap ∷ left) gap set here;
      free = r.free gap (ap (λ l. has_card l gap) e ∙ here);
      closed = is;
    }

pub closing-shape : (first key : Key) (gaps rest : List ℕ) → IsState (key_state first) → HasShape first → AreClosing first gaps rest key → HasShape key
closing-shape first key gaps rest ok shape r =
    let still = gaps-still gaps (key_state first) (key_state key) ok r.closed in
    ap (λ (w : Shape). w.lengths) r.shape ∙ shape ∙ rw (still.declarer, still.dummy, still.unseen, still.left) refl

-- ---- back

-- the last card of a set comes after the others
pub last_apart : (xs : List ℕ) (c : ℕ) → IsCardSet xs → IsLast c xs → xs ≡ take_out c xs ++ c ∷ []
last_apart [] c set last = absurd (false≢true last.held)
last_apart (x ∷ []) c set last =
    let same : x ≡ c = eqb-true x c (or_none (eqb x c) last.held) in
    ap (λ z. z ∷ []) same ∙ sym (ap (λ b. cond (not b) (x ∷ []) [] ++ c ∷ []) (eq-eqb x c same))
  where
    or_none : (b : Bool) → (b || false) ≡ true → b ≡ true
    or_none true h = refl
    or_none false h = h
last_apart (x ∷ y ∷ ys) c set last =
    let later : x < c = omega (arith, tail-after x (y ∷ ys) set y (first_has y ys), last.last y (or_right (eqb x y) (has_card (y ∷ ys) y) (first_has y ys))) in
    let other : eqb x c ≡ false = ne_eqb x c (λ e. absurd (omega (arith, e))) in
    ap (λ (l : List ℕ). x ∷ l) (last_apart (y ∷ ys) c (IsCardSet-tail x (y ∷ ys) set) (record {
      held = ap (λ b. b || has_card (y ∷ ys) c) (sym other) ∙ last.held;
      last = λ d h. last.last d (or_right (eqb x d) (has_card (y ∷ ys) d) h);
    }))
    ∙ sym (ap (λ b. cond (not b) (x ∷ take_out c (y ∷ ys)) (take_out c (y ∷ ys)) ++ c ∷ []) other)

-- what is known after all gaps are closed is known after the first ones, by other cards that count
pub record AreCarriedBack (gaps rest : List ℕ) (start counting : List ℕ) : Type 0 where
  pub closed : IsClosedUp counting
  pub back : (s t : State) (made : Bool) → IsState s → AreGapsClosed gaps s t → HasAnswer start t made → (u : State) × AreGapsClosed rest s u × HasAnswer counting u made

pub carried-none : (gaps : List ℕ) (start : List ℕ) → IsClosedUp start → AreCarriedBack gaps gaps start start
carried-none gaps start closed = record { closed = closed; back = λ s t made ok m answer. (t, m, answer) }

pub carried-step : (gaps rest fewer : List ℕ) (gap : ℕ) (start counting less : List ℕ) → AreCarriedBack gaps rest start counting → rest ≡ fewer ++ gap ∷ [] → IsClosedUp less
    → ((s t : State) (made : Bool) → IsState s → IsGapClosed gap s t → HasAnswer counting t made → HasAnswer less s made) → AreCarriedBack gaps fewer start less
carried-step gaps rest fewer gap start counting less r e closed law = record {
  closed = closed;
  back = λ s t made ok m answer.
      (let got : (u : State) × AreGapsClosed rest s u × HasAnswer counting u made = r.back s t made ok m answer in
      let found : (v : State) × AreGapsClosed fewer s v × IsGapClosed gap v got.0 = last-gap fewer gap s got.0 (subst (λ l. AreGapsClosed l s got.0) e got.1) in
      let still = gaps-still fewer s found.0 ok found.1 in
      (found.0, found.1, law found.0 got.0 made still.state found.2 got.2));
}

pub carried-all : (gaps rest : List ℕ) (start counting : List ℕ) → AreCarriedBack gaps rest start counting → rest ≡ [] → (s t : State) (made : Bool) → IsState s → AreGapsClosed gaps s t
    → HasAnswer start t made → HasAnswer counting s made
carried-all gaps rest start counting r e s t made ok m answer =
    let got : (u : State) × AreGapsClosed rest s u × HasAnswer counting u made = r.back s t made ok m answer in
    let same : s ≡ got.0 = subst (λ l. AreGapsClosed l s got.0) e got.1 in
    subst (λ x. HasAnswer counting x made) (sym same) got.2
