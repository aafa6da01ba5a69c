-- The lines that a line cites, one by one, and where they stand.
use Rattle.std.proofs.Common.{◌≡◌, ◌+◌, ◌-◌, ◌<◌, ◌≤◌, ◌∙◌, ◌↔◌, ℕ, suc, Bool, true, false, IsTrue, Option, List, [], ◌∷◌, ◌++◌, length, map, drop, get_or, All, AllPairs, Contains, refl, sym, ap, ap₂, subst, ⊎_elim, arith}
use Rattle.std.specs.List.{cons_option}
use Rattle.std.proofs.Math.Seq.{drop-cons}
use Rattle.std.proofs.lemmas.List.{drop_all}
use Rattle.std.proofs.lemmas.Bool.{false≢true}
use Rattle.std.proofs.lemmas.Option.{slice_get-get_or}
use Rattle.card_sets.specs.SetWords.{has_card}
use Rattle.strategy_games.proofs.Lists.{Contains-nil, Contains-here, Contains-there, Contains-cons, All-from, All-at}
use Rattle.strategy_games.proofs.Fronts.{AllPairs-nil, AllPairs-head, AllPairs-tail, AllPairs-cons}
use Rattle.strategy_tree.proofs.CardLists.{has_card-from_Contains, Contains-from_has_card}
use Rattle.log_check.specs.declared.lines.LogLine.{LogLine}
use Rattle.log_check.specs.Logs.{cited_lines, StandBehind}
use Rattle.log_check.specs.Steps.{AreNumbers, StandBehindSome}

-- what doesn't hold isn't found
pub refute : {P : Type 0} → (P → ⊥) → (b : Bool) → b ≡ false → IsTrue b ↔ P
refute never b is = (λ (h : IsTrue b). absurd (false≢true (sym is ∙ h)), λ p. absurd (never p))

pub confirm : {P : Type 0} → P → (b : Bool) → b ≡ true → IsTrue b ↔ P
confirm p b is = (λ (h : IsTrue b). p, λ q. is)

-- ---- one line after another

pub cited-next : (lines : List LogLine) (numbers : List ℕ) (i : ℕ) (d : LogLine) → AreNumbers (length lines) numbers → i < length numbers
    → cited_lines lines (drop i numbers) ≡ get_or lines (get_or numbers i 0 - 1) d ∷ cited_lines lines (drop (i + 1) numbers)
cited-next lines numbers i d are low =
    let j = get_or numbers i 0 - 1 in
    let n = are i 0 low in
    let first = n.0 in
    let last = n.1 in
    let here : j < length lines = omega arith in
    let next : suc i ≡ i + 1 = omega arith in
    ap (λ (ns : List ℕ). cited_lines lines ns) (drop-cons numbers i 0 low)
    ∙ ap (λ (o : Option LogLine). cons_option o (cited_lines lines (drop (suc i) numbers))) (slice_get-get_or lines j d here)
    ∙ ap (λ k. get_or lines j d ∷ cited_lines lines (drop k numbers)) next

pub cited-end : (lines : List LogLine) (numbers : List ℕ) (i : ℕ) → length numbers ≤ i → cited_lines lines (drop i numbers) ≡ []
cited-end lines numbers i past = ap (λ (ns : List ℕ). cited_lines lines ns) (drop_all i numbers past)

-- ---- each of them

pub each-next : (P : LogLine → Type 0) (ls tail : List LogLine) (l : LogLine) → ls ≡ l ∷ tail → P l
    → ((k : LogLine) → Contains ls k → P k) ↔ ((k : LogLine) → Contains tail k → P k)
each-next P ls tail l are here = (
  λ all k mem. all k (subst (λ (xs : List LogLine). Contains xs k) (sym are) (Contains-there l tail k mem)),
  λ rest k mem. ⊎_elim (λ (e : l ≡ k). subst P e here) (λ (m : Contains tail k). rest k m)
      (Contains-cons l tail k (subst (λ (xs : List LogLine). Contains xs k) are mem)),
)

pub each-not : (P : LogLine → Type 0) (ls tail : List LogLine) (l : LogLine) → ls ≡ l ∷ tail → (P l → ⊥)
    → ((k : LogLine) → Contains ls k → P k) → ⊥
each-not P ls tail l are never all = never (all l (subst (λ (xs : List LogLine). Contains xs l) (sym are) (Contains-here l tail)))

pub each-end : (P : LogLine → Type 0) (ls : List LogLine) → ls ≡ [] → (k : LogLine) → Contains ls k → P k
each-end P ls none k mem = absurd (Contains-nil k (subst (λ (xs : List LogLine). Contains xs k) none mem))

-- ---- behind a path, by the cards of a list

pub behind-next : (path rest next : List ℕ) (card : ℕ) (ls tail : List LogLine) (l : LogLine)
    → rest ≡ card ∷ next → ls ≡ l ∷ tail → l.path ≡ path ++ card ∷ [] → StandBehind path rest ls ↔ StandBehind path next tail
behind-next path rest next card ls tail l is are here = (
  λ h.
      let e : l.path ∷ map (λ (k : LogLine). k.path) tail ≡ (path ++ card ∷ []) ∷ map (λ c. path ++ c ∷ []) next
      = ap (λ (ks : List LogLine). map (λ (k : LogLine). k.path) ks) (sym are) ∙ h ∙ ap (λ (cs : List ℕ). map (λ c. path ++ c ∷ []) cs) is in
      cc,
  λ h. ap (λ (ks : List LogLine). map (λ (k : LogLine). k.path) ks) are
      ∙ ap₂ (λ (x : List ℕ) (xs : List (List ℕ)). x ∷ xs) here h
      ∙ ap (λ (cs : List ℕ). map (λ c. path ++ c ∷ []) cs) (sym is),
)

pub behind-none : (path rest : List ℕ) (ls tail : List LogLine) (l : LogLine) → rest ≡ [] → ls ≡ l ∷ tail → StandBehind path rest ls → ⊥
behind-none path rest ls tail l none are h =
    let e : l.path ∷ map (λ (k : LogLine). k.path) tail ≡ []
    = ap (λ (ks : List LogLine). map (λ (k : LogLine). k.path) ks) (sym are) ∙ h ∙ ap (λ (cs : List ℕ). map (λ c. path ++ c ∷ []) cs) none in
    cc

pub behind-first : (path rest next : List ℕ) (card : ℕ) (ls tail : List LogLine) (l : LogLine)
    → rest ≡ card ∷ next → ls ≡ l ∷ tail → StandBehind path rest ls → l.path ≡ path ++ card ∷ []
behind-first path rest next card ls tail l is are h =
    let e : l.path ∷ map (λ (k : LogLine). k.path) tail ≡ (path ++ card ∷ []) ∷ map (λ c. path ++ c ∷ []) next
    = ap (λ (ks : List LogLine). map (λ (k : LogLine). k.path) ks) (sym are) ∙ h ∙ ap (λ (cs : List ℕ). map (λ c. path ++ c ∷ []) cs) is in
    cc

pub behind-end : (path rest : List ℕ) (ls : List LogLine) → ls ≡ [] → StandBehind path rest ls ↔ (rest ≡ [])
behind-end path rest ls none = (
  λ h. go rest (ap (λ (ks : List LogLine). map (λ (k : LogLine). k.path) ks) (sym none) ∙ h),
  λ is. ap (λ (ks : List LogLine). map (λ (k : LogLine). k.path) ks) none ∙ ap (λ (cs : List ℕ). map (λ c. path ++ c ∷ []) cs) (sym is),
)
  where
    go : (cs : List ℕ) → [] ≡ map (λ c. path ++ c ∷ []) cs → cs ≡ []
    go [] e = refl
    go (c ∷ cs) e = absurd cc

-- where a line is left, a card is
pub behind-empty : (path rest : List ℕ) (lines : List LogLine) (numbers : List ℕ) (i : ℕ) → AreNumbers (length lines) numbers → i < length numbers
    → rest ≡ [] → StandBehind path rest (cited_lines lines (drop i numbers)) → ⊥
behind-empty path rest lines numbers i are low none h = go lines are h
  where
    go : (ls : List LogLine) → AreNumbers (length ls) numbers → StandBehind path rest (cited_lines ls (drop i numbers)) → ⊥
    go [] are h = let n = are i 0 low in let first = n.0 in let last = n.1 in omega arith
    go (d ∷ ls) are h = behind-none path rest (cited_lines (d ∷ ls) (drop i numbers)) (cited_lines (d ∷ ls) (drop (i + 1) numbers))
        (get_or (d ∷ ls) (get_or numbers i 0 - 1) d) none (cited-next (d ∷ ls) numbers i d are low) h

-- one card behind a path in one way alone
pub same_card : (path : List ℕ) (c card : ℕ) → path ++ c ∷ [] ≡ path ++ card ∷ [] → c ≡ card
same_card [] c card e = cc
same_card (p ∷ path) c card e = let tails : path ++ c ∷ [] ≡ path ++ card ∷ [] = cc in same_card path c card tails

-- ---- behind a path, by some cards in order

-- what is known of the cards of the lines from one on
behind_from : (path choices : List ℕ) (low : ℕ) (ls : List LogLine) → (cards : List ℕ) → AllPairs ◌<◌ cards → All (Contains choices) cards
    → All (λ card. low ≤ card) cards → StandBehind path cards ls → StandBehindSome path choices low ls
behind_from path choices low ls cards order are above behind = record { cards = cards; in_order = order; are_choices = are; above = above; behind = behind }

-- the first card of some
first_of : (path choices : List ℕ) (low : ℕ) (ls tail : List LogLine) (l : LogLine) → ls ≡ l ∷ tail → StandBehindSome path choices low ls
    → (card : ℕ) × (rest : List ℕ) × (l.path ≡ path ++ card ∷ []) × Contains choices card × (low ≤ card) × ((d : ℕ) → Contains rest d → card < d)
    × AllPairs ◌<◌ rest × ((d : ℕ) → Contains rest d → Contains choices d) × StandBehind path rest tail
first_of path choices low ls tail l are h = go h.cards h.in_order h.are_choices h.above h.behind
  where
    go : (cards : List ℕ) → AllPairs ◌<◌ cards → All (Contains choices) cards → All (λ card. low ≤ card) cards → StandBehind path cards ls
        → (card : ℕ) × (rest : List ℕ) × (l.path ≡ path ++ card ∷ []) × Contains choices card × (low ≤ card) × ((d : ℕ) → Contains rest d → card < d)
        × AllPairs ◌<◌ rest × ((d : ℕ) → Contains rest d → Contains choices d) × StandBehind path rest tail
    go [] order among above behind = absurd (behind-none path [] ls tail l refl are behind)
    go (c ∷ cs) order among above behind =
        let at = behind-first path (c ∷ cs) cs c ls tail l refl are behind in (
          c,
          cs,
          at,
          All-at (Contains choices) (c ∷ cs) among c (Contains-here c cs),
          All-at (λ card. low ≤ card) (c ∷ cs) above c (Contains-here c cs),
          AllPairs-head ◌<◌ c cs order,
          AllPairs-tail ◌<◌ c cs order,
          λ d mem. All-at (Contains choices) (c ∷ cs) among d (Contains-there c cs d mem),
          (behind-next path (c ∷ cs) cs c ls tail l refl are at).0 behind,
        )

pub some-next : (path choices : List ℕ) (low card : ℕ) (ls tail : List LogLine) (l : LogLine)
    → ls ≡ l ∷ tail → l.path ≡ path ++ card ∷ [] → has_card choices card ≡ true → low ≤ card
    → StandBehindSome path choices low ls ↔ StandBehindSome path choices (card + 1) tail
some-next path choices low card ls tail l are here has from = (
  λ h.
      let f = first_of path choices low ls tail l are h in
      let same : f.0 ≡ card = same_card path f.0 card (sym f.2 ∙ here) in
      behind_from path choices (card + 1) tail f.1 f.6 (All-from (Contains choices) f.1 f.7)
      (All-from (λ d. card + 1 ≤ d) f.1 (λ d mem. let less = f.5 d mem in omega arith)) f.8,
  λ h. behind_from path choices low ls (card ∷ h.cards)
      (AllPairs-cons ◌<◌ card h.cards (λ d mem. let over = All-at (λ x. card + 1 ≤ x) h.cards h.above d mem in omega arith) h.in_order)
      (All-from (Contains choices) (card ∷ h.cards) (λ d mem. ⊎_elim
      (λ (e : card ≡ d). subst (λ x. Contains choices x) e (Contains-from_has_card choices card has))
      (λ (m : Contains h.cards d). All-at (Contains choices) h.cards h.are_choices d m) (Contains-cons card h.cards d mem)))
      (All-from (λ d. low ≤ d) (card ∷ h.cards) (λ d mem. ⊎_elim
      (λ (e : card ≡ d). subst (λ x. low ≤ x) e from)
      (λ (m : Contains h.cards d). let over = All-at (λ x. card + 1 ≤ x) h.cards h.above d m in omega arith) (Contains-cons card h.cards d mem)))
      ((behind-next path (card ∷ h.cards) h.cards card ls tail l refl are here).1 h.behind),
)

pub some-none : (path choices : List ℕ) (low : ℕ) (ls tail : List LogLine) (l : LogLine) → ls ≡ l ∷ tail
    → ((card : ℕ) → l.path ≡ path ++ card ∷ [] → ⊥) → StandBehindSome path choices low ls → ⊥
some-none path choices low ls tail l are never h = let f = first_of path choices low ls tail l are h in never f.0 f.2

pub some-low : (path choices : List ℕ) (low card : ℕ) (ls tail : List LogLine) (l : LogLine) → ls ≡ l ∷ tail → l.path ≡ path ++ card ∷ []
    → card < low → StandBehindSome path choices low ls → ⊥
some-low path choices low card ls tail l are here under h =
    let f = first_of path choices low ls tail l are h in
    let same : f.0 ≡ card = same_card path f.0 card (sym f.2 ∙ here) in
    let over = f.4 in
    omega arith

pub some-not : (path choices : List ℕ) (low card : ℕ) (ls tail : List LogLine) (l : LogLine) → ls ≡ l ∷ tail → l.path ≡ path ++ card ∷ []
    → has_card choices card ≡ false → StandBehindSome path choices low ls → ⊥
some-not path choices low card ls tail l are here not h =
    let f = first_of path choices low ls tail l are h in
    let same : f.0 ≡ card = same_card path f.0 card (sym f.2 ∙ here) in
    false≢true (sym not ∙ subst (λ x. has_card choices x ≡ true) same (has_card-from_Contains choices f.0 f.3))

pub some-end : (path choices : List ℕ) (low : ℕ) (ls : List LogLine) → ls ≡ [] → StandBehindSome path choices low ls
some-end path choices low ls none = behind_from path choices low ls [] (AllPairs-nil ◌<◌)
    (All-from (Contains choices) [] (λ d mem. absurd (Contains-nil d mem)))
    (All-from (λ d. low ≤ d) [] (λ d mem. absurd (Contains-nil d mem)))
    ((behind-end path [] ls none).1 refl)
