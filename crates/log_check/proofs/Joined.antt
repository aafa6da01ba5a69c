-- Lists that cover each other, and the join of lines from the last number to the first.
use Rattle.std.proofs.Common.{◌≡◌, ◌+◌, ◌-◌, ◌<◌, ◌≤◌, ◌∙◌, ℕ, zero, suc, true, Option, None, Some, List, [], ◌∷◌, ◌++◌, length, map, drop, get_or, replicate, Contains, refl, sym, ap, ap₂, subst, arith, suc-le-suc}
use Rattle.std.specs.Prelude.{slice_get}
use Rattle.std.specs.List.{cons_option}
use Rattle.std.proofs.lemmas.List.{drop_all, length-map}
use Rattle.win_vectors.specs.Vectors.{meet_of, spread_of}
use Rattle.win_vectors.specs.Fronts.{Vector, Dominates, CoversAll, IsReduced, meets, spreads}
use Rattle.trick_rules.specs.Nodes.{NodeValue, child_mask}
use Rattle.strategy_games.specs.Joins.{joins}
use Rattle.strategy_games.proofs.Lists.{Contains-here, Contains-there, Contains-map, Contains-of_map}
use Rattle.strategy_games.proofs.Vectors.{Dominates-refl, Dominates-trans, Dominates-meet, Dominates-spread}
use Rattle.strategy_games.proofs.Fronts.{Contains-meets, Contains-of_meets}
use Rattle.log_check.specs.declared.lines.LogLine.{LogLine}
use Rattle.log_check.specs.Logs.{cited_lines, StandBehind}
use Rattle.log_check.specs.Steps.{AreNumbers, CoverAlike}
use Rattle.log_check.proofs.CitedLines.{cited-next, cited-end, behind-next, behind-none, behind-first, behind-empty, behind-end, same_card}

-- ---- lists that cover each other

pub alike-refl : (vs : List Vector) → CoverAlike vs vs
alike-refl vs = (λ v mem. (v, mem, Dominates-refl v), λ v mem. (v, mem, Dominates-refl v))

pub covers-trans : (a b c : List Vector) → CoversAll a b → CoversAll b c → CoversAll a c
covers-trans a b c ab bc v mem =
    let u = bc v mem in
    let w = ab u.0 u.1 in
    (w.0, w.1, Dominates-trans w.0 u.0 v w.2 u.2)

pub alike-trans : (a b c : List Vector) → CoverAlike a b → CoverAlike b c → CoverAlike a c
alike-trans a b c ab bc = (covers-trans a b c ab.0 bc.0, covers-trans c b a bc.1 ab.1)

-- what covers one covers the other
pub covered_alike : (vs a b : List Vector) → CoverAlike a b → CoversAll vs b → CoversAll vs a
covered_alike vs a b alike covers = covers-trans vs b a covers alike.1

pub alike-reduced : (all front : List Vector) → IsReduced all front → CoverAlike all front
alike-reduced all front reduced = (λ v mem. (v, reduced.reached v mem, Dominates-refl v), λ v mem. reduced.covered v mem)

pub covers-meets : (a a' b b' : List Vector) (mask : Vector) → CoversAll a a' → CoversAll b b'
    → CoversAll (meets a (spreads mask b)) (meets a' (spreads mask b'))
covers-meets a a' b b' mask firsts seconds v mem =
    let m = Contains-of_meets a' (spreads mask b') v mem in
    let s = Contains-of_map (λ w. spread_of w mask) b' m.1 m.3 in
    let x = firsts m.0 m.2 in
    let y = seconds s.0 s.1 in
    let spread = spread_of y.0 mask in (
      meet_of x.0 spread,
      Contains-meets a (spreads mask b) x.0 spread x.1 (Contains-map (λ w. spread_of w mask) b y.0 y.1),
      subst (Dominates (meet_of x.0 spread)) m.4
          (Dominates-meet x.0 m.0 spread m.1 x.2 (subst (Dominates spread) s.2 (Dominates-spread y.0 s.0 mask y.2))),
    )

pub alike-meets : (a a' b b' next : List Vector) (mask : Vector) → CoverAlike a a' → CoverAlike b b'
    → IsReduced (meets a' (spreads mask b')) next → CoverAlike (meets a (spreads mask b)) next
alike-meets a a' b b' next mask firsts seconds reduced = alike-trans (meets a (spreads mask b)) (meets a' (spreads mask b')) next
    (covers-meets a a' b b' mask firsts.0 seconds.0, covers-meets a' a b' b mask firsts.1 seconds.1)
    (alike-reduced (meets a' (spreads mask b')) next reduced)

-- ---- places of lists

drop-more : {X : Type 0} (xs : List X) (p : ℕ) (x : X) (rest : List X) → drop p xs ≡ x ∷ rest → drop (suc p) xs ≡ rest
drop-more [] zero x rest is = absurd cc
drop-more [] (suc p) x rest is = absurd cc
drop-more (y ∷ xs) zero x rest is = cc
drop-more (y ∷ xs) (suc p) x rest is = drop-more xs p x rest is

drop-member : {X : Type 0} (xs : List X) (p : ℕ) (x : X) (rest : List X) → drop p xs ≡ x ∷ rest → Contains xs x
drop-member [] zero x rest is = absurd cc
drop-member [] (suc p) x rest is = absurd cc
drop-member (y ∷ xs) zero x rest is = let e : y ≡ x = cc in subst (λ z. Contains (y ∷ xs) z) e (Contains-here y xs)
drop-member (y ∷ xs) (suc p) x rest is = Contains-there y xs x (drop-member xs p x rest is)

numbers_later : (count number : ℕ) (numbers : List ℕ) → AreNumbers count (number ∷ numbers) → AreNumbers count numbers
numbers_later count number numbers are k d low = are (suc k) d (suc-le-suc low)

cited-member : (lines : List LogLine) (numbers : List ℕ) (p : ℕ) (l : LogLine) → Contains (cited_lines lines (drop p numbers)) l
    → Contains (cited_lines lines numbers) l
cited-member lines numbers zero l mem = mem
cited-member lines [] (suc p) l mem = mem
cited-member lines (number ∷ numbers) (suc p) l mem = go (slice_get lines (number - 1)) (cited-member lines numbers p l mem)
  where
    go : (found : Option LogLine) → Contains (cited_lines lines numbers) l → Contains (cons_option found (cited_lines lines numbers)) l
    go None mem = mem
    go (Some k) mem = Contains-there k (cited_lines lines numbers) l mem

-- there is a line
some_line : (lines : List LogLine) → 1 ≤ length lines → LogLine
some_line [] low = absurd (omega arith)
some_line (l ∷ lines) low = l

behind-drop : (lines : List LogLine) (numbers path cards : List ℕ) (p : ℕ) → AreNumbers (length lines) numbers
    → StandBehind path cards (cited_lines lines numbers) → StandBehind path (drop p cards) (cited_lines lines (drop p numbers))
behind-drop lines numbers path cards zero are h = h
behind-drop lines [] path cards (suc p) are h =
    let none : cards ≡ [] = (behind-end path cards [] refl).0 h in
    (behind-end path (drop (suc p) cards) [] refl).1 (ap (λ (cs : List ℕ). drop (suc p) cs) none)
behind-drop lines (number ∷ numbers) path [] (suc p) are h =
    absurd (behind-empty path [] lines (number ∷ numbers) 0 are (omega arith) refl h)
behind-drop lines (number ∷ numbers) path (c ∷ cards) (suc p) are h =
    let n = are 0 0 (omega arith) in
    let first = n.0 in
    let last = n.1 in
    let d = some_line lines (omega arith) in
    let next = cited-next lines (number ∷ numbers) 0 d are (omega arith) in
    behind-drop lines numbers path cards p (numbers_later (length lines) number numbers are)
    ((behind-next path (c ∷ cards) cards c (cited_lines lines (number ∷ numbers)) (cited_lines lines numbers)
    (get_or lines (number - 1) d) refl next
    (behind-first path (c ∷ cards) cards c (cited_lines lines (number ∷ numbers)) (cited_lines lines numbers)
    (get_or lines (number - 1) d) refl next h)).0 h)

-- the line of a number, behind the path by a card of the list
pub record IsPlaced (path cards : List ℕ) (lines : List LogLine) (numbers : List ℕ) (p : ℕ) (l : LogLine) : Type 0 where
  pub card : ℕ
  pub path_is : l.path ≡ path ++ card ∷ []
  pub of_cards : Contains cards card
  pub cited : Contains (cited_lines lines numbers) l
  pub lines_are : cited_lines lines (drop p numbers) ≡ l ∷ cited_lines lines (drop (suc p) numbers)
  pub cards_are : drop p cards ≡ card ∷ drop (suc p) cards

pub placed : (path cards : List ℕ) (lines : List LogLine) (numbers : List ℕ) (p : ℕ) (l : LogLine) → AreNumbers (length lines) numbers
    → p < length numbers → l ≡ get_or lines (get_or numbers p 0 - 1) l → StandBehind path cards (cited_lines lines numbers)
    → IsPlaced path cards lines numbers p l
placed path cards lines numbers p l are low is h = go (drop p cards) refl
  where
    next : p + 1 ≡ suc p
    next = omega arith

    lines_are : cited_lines lines (drop p numbers) ≡ l ∷ cited_lines lines (drop (suc p) numbers)
    lines_are = cited-next lines numbers p l are low ∙ ap₂ (λ (k : LogLine) (n : ℕ). k ∷ cited_lines lines (drop n numbers)) (sym is) next

    at : StandBehind path (drop p cards) (cited_lines lines (drop p numbers))
    at = behind-drop lines numbers path cards p are h

    go : (ds : List ℕ) → drop p cards ≡ ds → IsPlaced path cards lines numbers p l
    go [] none = absurd (behind-none path (drop p cards) (cited_lines lines (drop p numbers)) (cited_lines lines (drop (suc p) numbers)) l none lines_are at)
    go (card ∷ ds) are_cards = record {
      card = card;
      path_is = behind-first path (drop p cards) ds card (cited_lines lines (drop p numbers)) (cited_lines lines (drop (suc p) numbers)) l are_cards lines_are at;
      of_cards = drop-member cards p card ds are_cards;
      cited = cited-member lines numbers p l (subst (λ (ls : List LogLine). Contains ls l) (sym lines_are) (Contains-here l (cited_lines lines (drop (suc p) numbers))));
      lines_are = lines_are;
      cards_are = are_cards ∙ ap (λ (cs : List ℕ). card ∷ cs) (sym (drop-more cards p card ds are_cards));
    }

-- the same of numbers that are these
pub placed_by : (path cards : List ℕ) (lines : List LogLine) (from numbers : List ℕ) (p : ℕ) (l : LogLine) → numbers ≡ from
    → AreNumbers (length lines) from → p < length numbers → l ≡ get_or lines (get_or numbers p 0 - 1) l
    → StandBehind path cards (cited_lines lines from) → IsPlaced path cards lines from p l
placed_by path cards lines from numbers p l same are low is h =
    placed path cards lines from p l are (subst (λ (ns : List ℕ). p < length ns) same low)
    (subst (λ (ns : List ℕ). l ≡ get_or lines (get_or ns p 0 - 1) l) same is) h

pub number_at : (lines : List LogLine) (from numbers : List ℕ) (p : ℕ) → numbers ≡ from → AreNumbers (length lines) from → p < length numbers
    → (1 ≤ get_or numbers p 0) × (get_or numbers p 0 ≤ length lines)
number_at lines from numbers p same are low = subst (λ (ns : List ℕ). AreNumbers (length lines) ns) (sym same) are p 0 low

-- what these lines leave together, behind a node by these cards
abbrev pub left_by : NodeValue → List ℕ → List LogLine → List Vector
left_by node cards lines = joins (length node.lefts) (map (λ card. child_mask node card) cards) (map (λ (l : LogLine). l.vectors) lines)

length-cited : (lines : List LogLine) (numbers : List ℕ) → length (cited_lines lines numbers) ≤ length numbers
length-cited lines [] = omega arith
length-cited lines (number ∷ numbers) = go (slice_get lines (number - 1)) (length-cited lines numbers)
  where
    go : (found : Option LogLine) → length (cited_lines lines numbers) ≤ length numbers → length (cons_option found (cited_lines lines numbers)) ≤ suc (length numbers)
    go None few = omega arith
    go (Some l) few = omega arith

behind-length : (path cards : List ℕ) (ls : List LogLine) → StandBehind path cards ls → length cards ≡ length ls
behind-length path cards ls h = sym (length-map cards (λ card. path ++ card ∷ [])) ∙ ap (λ (ps : List (List ℕ)). length ps) (sym h) ∙ length-map ls (λ (k : LogLine). k.path)

pub joined-start : (node : NodeValue) (path cards : List ℕ) (lines : List LogLine) (numbers : List ℕ) (p : ℕ) (front : List Vector)
    → length numbers ≤ p → StandBehind path cards (cited_lines lines numbers) → IsReduced (replicate (length node.lefts) true ∷ []) front
    → CoverAlike (left_by node (drop p cards) (cited_lines lines (drop p numbers))) front
joined-start node path cards lines numbers p front past behind reduced =
    let few = length-cited lines numbers in
    let same = behind-length path cards (cited_lines lines numbers) behind in
    let none = drop_all p cards (omega arith) in
    let over = cited-end lines numbers p past in
    subst (λ (vs : List Vector). CoverAlike vs front) (sym (ap₂ (λ (cs : List ℕ) (ls : List LogLine). left_by node cs ls) none over))
    (alike-reduced (replicate (length node.lefts) true ∷ []) front reduced)

pub joined-next : (node : NodeValue) (path cards : List ℕ) (lines : List LogLine) (numbers : List ℕ) (p : ℕ) (l : LogLine) (mask : Vector)
    (so_far won next : List Vector) → (at : IsPlaced path cards lines numbers p l) → mask ≡ child_mask node at.card
    → CoverAlike (left_by node (drop (suc p) cards) (cited_lines lines (drop (suc p) numbers))) so_far → CoverAlike l.vectors won
    → IsReduced (meets so_far (spreads mask won)) next → CoverAlike (left_by node (drop p cards) (cited_lines lines (drop p numbers))) next
joined-next node path cards lines numbers p l mask so_far won next at mask_is before here reduced =
    let later = left_by node (drop (suc p) cards) (cited_lines lines (drop (suc p) numbers)) in
    let is : meets later (spreads mask l.vectors) ≡ left_by node (drop p cards) (cited_lines lines (drop p numbers))
    = ap (λ (m : Vector). meets later (spreads m l.vectors)) mask_is
    ∙ sym (ap₂ (λ (cs : List ℕ) (ls : List LogLine). left_by node cs ls) at.cards_are at.lines_are) in
    subst (λ (vs : List Vector). CoverAlike vs next) is (alike-meets later so_far l.vectors won next mask before here reduced)

-- the card behind a path is the one at its place
pub last_card : (path line : List ℕ) (card found n : ℕ) → line ≡ path ++ card ∷ [] → n ≡ length path → slice_get line n ≡ Some found → found ≡ card
last_card path line card found n is end at = go path line n is end at
  where
    go : (path line : List ℕ) (n : ℕ) → line ≡ path ++ card ∷ [] → n ≡ length path → slice_get line n ≡ Some found → found ≡ card
    go [] [] n is end at = absurd cc
    go [] (x ∷ line) zero is end at = cc
    go [] (x ∷ line) (suc n) is end at = absurd (omega arith)
    go (p ∷ path) [] n is end at = absurd cc
    go (p ∷ path) (x ∷ line) zero is end at = absurd (omega arith)
    go (p ∷ path) (x ∷ line) (suc n) is end at = let tails : line ≡ path ++ card ∷ [] = cc in go path line n tails (omega arith) at

-- two lists of cards by which the same lines stand behind a path are the same
pub same_cards : (path : List ℕ) (cards others : List ℕ) (ls : List LogLine) → StandBehind path cards ls → StandBehind path others ls → cards ≡ others
same_cards path [] others [] h k = sym ((behind-end path others [] refl).0 k)
same_cards path (c ∷ cards) others [] h k = (behind-end path (c ∷ cards) [] refl).0 h ∙ sym ((behind-end path others [] refl).0 k)
same_cards path [] others (l ∷ ls) h k = absurd (behind-none path [] (l ∷ ls) ls l refl refl h)
same_cards path (c ∷ cards) [] (l ∷ ls) h k = absurd (behind-none path [] (l ∷ ls) ls l refl refl k)
same_cards path (c ∷ cards) (o ∷ others) (l ∷ ls) h k =
    let first = behind-first path (c ∷ cards) cards c (l ∷ ls) ls l refl refl h in
    let other = behind-first path (o ∷ others) others o (l ∷ ls) ls l refl refl k in
    let heads : c ≡ o = same_card path c o (sym first ∙ other) in
    let tails = same_cards path cards others ls
    ((behind-next path (c ∷ cards) cards c (l ∷ ls) ls l refl refl first).0 h)
    ((behind-next path (o ∷ others) others o (l ∷ ls) ls l refl refl other).0 k) in
    ap₂ (λ (x : ℕ) (xs : List ℕ). x ∷ xs) heads tails
