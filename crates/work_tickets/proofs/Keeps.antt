-- Each step keeps the rule of the word.
use Rattle.std.proofs.Common.{◌≡◌, ◌≢◌, ℕ, zero, suc, ◌+◌, ◌<◌, ◌≤◌, ◌==◌, List, [], ◌∷◌, ◌++◌, length-set, set, get_or-set_same, refl, sym, ap, ◌∙◌, subst, ⊎_elim, arith}
use Rattle.std.specs.Prelude.{slice_index}
use mathlib.Core.Option.{none, some, some-injective, some-ne-none}
use lib.ListN.{get_elem?}
use prog.Atomic.{either}
use Rattle.atomic_table.specs.Table.{State, Act, keeps, step, stepped, Allows, Splits, Joins, Valid, carried_after}
use Rattle.atomic_table.proofs.Lists.{at_set, at_snoc, set_again, exchanged}
use Rattle.work_tickets.specs.declared.rule.TicketView.{TicketView}
use Rattle.work_tickets.specs.Drawn.{times, times_in_all, once_below, EachOnce, IsKnown, Drawn, view, newcomer, both, spent, Sat, drew, compared, was_read}

pub times-append : (k : ℕ) (xs ys : List ℕ) → times k (xs ++ ys) ≡ times k xs + times k ys
times-append k [] ys = omega arith
times-append k (x ∷ xs) ys = let e = times-append k xs ys in omega arith

-- the times in all after a change of one view
pub times_set : (k : ℕ) (views : List TicketView) (i : ℕ) (v w : TicketView) → get_elem? views i ≡ some v → times_in_all k (set views i w) + times k v.numbers ≡ times_in_all k views + times k w.numbers
times_set k [] i v w at = absurd (some-ne-none v (sym at))
times_set k (x ∷ xs) zero v w at = let e = ap (λ (y : TicketView). times k y.numbers) (some-injective x v at) in omega arith
times_set k (x ∷ xs) (suc i) v w at = let e = times_set k xs i v w at in omega arith

pub times_push : (k : ℕ) (views : List TicketView) (w : TicketView) → times_in_all k (views ++ w ∷ []) ≡ times_in_all k views + times k w.numbers
times_push k [] w = omega arith
times_push k (x ∷ xs) w = let e = times_push k xs w in omega arith

-- one view's numbers are among all
pub times_part : (k : ℕ) (views : List TicketView) (i : ℕ) (v : TicketView) → get_elem? views i ≡ some v → times k v.numbers ≤ times_in_all k views
times_part k [] i v at = absurd (some-ne-none v (sym at))
times_part k (x ∷ xs) zero v at = let e = ap (λ (y : TicketView). times k y.numbers) (some-injective x v at) in omega arith
times_part k (x ∷ xs) (suc i) v at = let e = times_part k xs i v at in omega arith

-- what no pass exceeds stays so where one view changes and the bound doesn't fall
known_set : (n m : ℕ) (views : List TicketView) (i : ℕ) (w : TicketView) → n ≤ m → IsKnown n views → w.read ≤ m → IsKnown m (set views i w)
known_set n m views i w more known mine j u at =
    ⊎_elim
    (λ (t : (j ≡ i) × (w ≡ u)). subst (λ (y : TicketView). y.read ≤ m) t.1 mine)
    (λ (t : (j ≢ i) × (get_elem? views j ≡ some u)). let e = known j u t.1 in omega arith)
    (at_set views i j w u at)

known_push : (n : ℕ) (views : List TicketView) (w : TicketView) → IsKnown n views → w.read ≤ n → IsKnown n (views ++ w ∷ [])
known_push n views w known mine j u at =
    ⊎_elim
    (λ (was : get_elem? views j ≡ some u). known j u was)
    (λ (same : w ≡ u). subst (λ (y : TicketView). y.read ≤ n) same mine)
    (at_snoc views w u j at)

-- where the numbers of a view stay, those of all stay
same_times : (k : ℕ) (views : List TicketView) (i : ℕ) (v w : TicketView) → get_elem? views i ≡ some v → w.numbers ≡ v.numbers → times_in_all k (set views i w) ≡ times_in_all k views
same_times k views i v w at same = let e = times_set k views i v w at in let f = ap (times k) same in omega arith

-- the numbers below n + 1 are those below n, and n
below_more : (k n : ℕ) → once_below k (n + 1) ≡ once_below k n + times k (n ∷ [])
below_more k n = grind arith

below_same : (k n m : ℕ) → n ≡ m → once_below k (n + 1) ≡ once_below k (m + 1)
below_same k n m e = ap (λ (z : ℕ). once_below k (z + 1)) e

abbrev word : State Unit TicketView → ℕ
word s = slice_index s.words 0

-- the word becomes n, and one view changes
kept : (limit : ℕ) (s : State Unit TicketView) → Drawn limit s → (n id : ℕ) (cs : List (ℕ × Unit)) (w : TicketView) → n ≤ limit → IsKnown n (set s.views id w) → EachOnce n (set s.views id w) → Drawn limit (stepped s 0 n id cs w keeps)
kept limit s h n id cs w fits known once =
    let one = h.one_word in
    let now : slice_index (set s.words 0 n) 0 ≡ n = get_or-set_same s.words 0 n 0 (omega arith) in record {
      one_word = length-set s.words 0 n ∙ one;
      within = omega arith;
      known = subst (λ (z : ℕ). IsKnown z (set s.views id w)) (sym now) known;
      once = subst (λ (z : ℕ). EachOnce z (set s.views id w)) (sym now) once;
    }

abbrev after_draw : TicketView → ℕ → TicketView
after_draw v n = view v.limit (v.numbers ++ n ∷ []) (n + 1) (v.tries + 1)

abbrev after_miss : TicketView → ℕ → TicketView
after_miss v n = view v.limit v.numbers n (v.tries + 1)

pub draws : (limit slots id : ℕ) (m : Sat) (n : ℕ) → n < limit → m.0.limit ≡ limit → Allows (Drawn limit) slots id m 0 (λ x. either (x == n) (n + 1) x) (drew (step slots 0 n (n + 1) none) m)
draws limit slots id m n below is s h homes at fits =
    exchanged (word s) n (n + 1) (λ x. (w : TicketView) × (a : Act Unit) × Valid s.homes m.1 a × Drawn limit (stepped s 0 x id m.1 w a) × drew (step slots 0 n (n + 1) none) m (word s) (w, carried_after m.1 a))
    (λ hit. let w = after_draw m.0 (word s) in (
      w,
      keeps,
      tt,
      kept limit s h (n + 1) id m.1 w (omega arith) (known_set (word s) (n + 1) s.views id w (omega arith) h.known (omega arith))
          (λ k. let a = times_set k s.views id m.0 w at in let b = times-append k m.0.numbers (word s ∷ []) in let c = h.once k in let d = below_more k (word s) in let e = below_same k (word s) n hit in omega arith),
      (refl, refl, refl, omega arith, (λ _. (refl, refl)), (λ ne. absurd (ne hit))),
    ))
    (λ miss. let w = after_miss m.0 (word s) in (
      w,
      keeps,
      tt,
      kept limit s h (word s) id m.1 w h.within (known_set (word s) (word s) s.views id w (omega arith) h.known (omega arith)) (λ k. same_times k s.views id m.0 w at refl ∙ h.once k),
      (refl, refl, refl, (let b = h.within in omega arith), (λ e. absurd (miss e)), (λ _. (refl, refl, h.known id m.0 at))),
    ))

pub compares : (limit slots id : ℕ) (m : Sat) → Allows (Drawn limit) slots id m 0 (λ x. x) (compared (step slots 0 0 0 none) m)
compares limit slots id m s h homes at fits = (
  m.0,
  keeps,
  tt,
  kept limit s h (word s) id m.1 m.0 h.within (known_set (word s) (word s) s.views id m.0 (omega arith) h.known (h.known id m.0 at)) (λ k. same_times k s.views id m.0 m.0 at refl ∙ h.once k),
  (refl, λ k. let a = times_part k s.views id m.0 at in let b = h.once k in let c : once_below k (word s) ≤ 1 = grind arith in omega arith),
)

abbrev after_read : TicketView → ℕ → TicketView
after_read v n = view v.limit v.numbers n v.tries

pub reads : (limit slots id : ℕ) (m : Sat) → m.0.limit ≡ limit → Allows (Drawn limit) slots id m 0 (λ x. x) (was_read m)
reads limit slots id m is s h homes at fits =
    let w = after_read m.0 (word s) in (
      w,
      keeps,
      tt,
      kept limit s h (word s) id m.1 w h.within (known_set (word s) (word s) s.views id w (omega arith) h.known (omega arith)) (λ k. same_times k s.views id m.0 w at refl ∙ h.once k),
      (refl, refl, h.known id m.0 at, (let b = h.within in omega arith), λ k. let a = times_part k s.views id m.0 at in let b = h.once k in omega arith),
    )

pub splits : (limit id : ℕ) (v : TicketView) → Splits (Drawn limit) id v v (newcomer v)
splits limit id v s h at =
    let same = set_again s.views id v at in record {
      one_word = h.one_word;
      within = h.within;
      known = known_push (word s) (set s.views id v) (newcomer v) (subst (IsKnown (word s)) (sym same) h.known) (h.known id v at);
      once = λ k. let a = times_push k (set s.views id v) (newcomer v) in let b = ap (times_in_all k) same in let c = h.once k in omega arith;
    }

pub joins : (limit id other : ℕ) (v w : TicketView) → Joins (Drawn limit) id v other w (both v w) spent
joins limit id other v w s h at apart there =
    let theirs = ⊎_elim (λ (t : (other ≡ id) × (both v w ≡ w)). absurd (apart t.0)) (λ (t : (other ≢ id) × (get_elem? s.views other ≡ some w)). t.1) (at_set s.views id other (both v w) w there) in
    let mine = h.known id v at in
    let his = h.known other w theirs in record {
      one_word = h.one_word;
      within = h.within;
      known = known_set (word s) (word s) (set s.views id (both v w)) other spent (omega arith) (known_set (word s) (word s) s.views id (both v w) (omega arith) h.known (omega arith)) (omega arith);
      once = λ k.
          let a = times_set k s.views id v (both v w) at in
          let b = times_set k (set s.views id (both v w)) other w spent there in
          let c = times-append k v.numbers w.numbers in
          let d = h.once k in
          omega arith;
    }
