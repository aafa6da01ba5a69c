-- The log of a node is valid.
use Rattle.std.proofs.Common.{◌≡◌, ◌⊎◌, ◌+◌, ◌-◌, ◌<◌, ◌≤◌, ◌∙◌, ℕ, zero, suc, true, false, inl, inr, Some, List, [], ◌∷◌, ◌++◌, map, length, take, AllPairs, Contains, refl, sym, ap, subst, append_assoc, append-nil, ⊎_elim, arith}
use Rattle.std.specs.Prelude.{slice_get}
use Rattle.std.proofs.lemmas.List.{length-append}
use Rattle.card_sets.specs.SetWords.{IsCardSet}
use Rattle.card_sets.proofs.Sets.{IsCardSet-cards_where, IsCardSet-tail, tail-after}
use Rattle.win_vectors.specs.Fronts.{Vector, HaveWidth, Covers, CoversAll}
use Rattle.trick_rules.specs.Positions.{to_play}
use Rattle.trick_rules.specs.Play.{is_declarers, makes}
use Rattle.trick_rules.specs.Nodes.{NodeValue, IsNode, states, stops, choices, child, child_mask}
use Rattle.strategy_games.specs.Games.{mask}
use Rattle.strategy_games.specs.Plans.{IsFront}
use Rattle.strategy_games.specs.Joins.{unions, joins, AreFronts}
use Rattle.strategy_games.proofs.Lists.{Contains-here, Contains-there, Contains-nil, Contains-cons, Contains-append_first, Contains-append_second, All-from, map-agree}
use Rattle.strategy_games.proofs.Fronts.{AllPairs-nil, AllPairs-cons}
use Rattle.strategy_games.proofs.Vectors.{Dominates-refl}
use Rattle.strategy_tree.specs.Bridge.{bridge}
use Rattle.strategy_tree.proofs.CardLists.{has_card-from_Contains}
use Rattle.strategy_tree.proofs.Rules.{lawful, going_on}
use Rattle.strategy_tree.proofs.BridgeLaws.{one_front, recursion}
use Rattle.strategy_tree.proofs.BridgeNodes.{length-states, mask-bridge, stopped}
use Rattle.plain_fronts.proofs.CardByCard.{more_moves, live}
use Rattle.log_check.specs.declared.lines.Rule.{Rule}
use Rattle.log_check.specs.declared.lines.Rule.TheVariants.{Leaf, Union, Join}
use Rattle.log_check.specs.declared.lines.LogLine.{LogLine}
use Rattle.log_check.specs.declared.check.LogVerdict.{LogVerdict}
use Rattle.log_check.specs.declared.check.LogVerdict.TheVariants.{Yes}
use Rattle.log_check.specs.Logs.{IsPath, node_after, our_cards, cited_lines, StandBehind, IsLeaf, IsUnion, IsJoin, KeepsRule, IsSoundLine, AreSound, IsValidLog}
use Rattle.log_check.specs.LogVerdicts.{IsLogVerdict}
use Rattle.log_check.proofs.PathNodes.{our_turn, our_turn-ours, our_turn-theirs, node_after-more, our_cards-more}
use Rattle.log_check.proofs.Judged.{sound-none}
use Rattle.log_check.proofs.OneLogVerdict.{one_log_verdict}
use Rattle.log_check.specs.LogsFor.{line_of, IsLogFrom, AreLogsFrom, IsLogFor}
use Rattle.log_check.specs.LogsFor.IsLogFrom.{at_stop, at_declarer, at_defender}
use Rattle.log_check.specs.LogsFor.AreLogsFrom.{no_child, child_first}
use Rattle.log_maker.proofs.CitedChildren.{ends_at, AreCited, cited_children}

-- ---- a line more

slice_get-push : {X : Type 0} (xs : List X) (x : X) (i : ℕ) (y : X) → slice_get (xs ++ x ∷ []) i ≡ Some y
    → ((i < length xs) × (slice_get xs i ≡ Some y)) ⊎ ((i ≡ length xs) × (x ≡ y))
slice_get-push [] x zero y is = inr (refl, cc)
slice_get-push [] x (suc i) y is = absurd cc
slice_get-push (z ∷ xs) x zero y is = inl (omega arith, is)
slice_get-push (z ∷ xs) x (suc i) y is = ⊎_elim
    (λ (h : (i < length xs) × (slice_get xs i ≡ Some y)). let low = h.0 in inl (omega arith, h.1))
    (λ (h : (i ≡ length xs) × (x ≡ y)). let end = h.0 in inr (omega arith, h.1))
    (slice_get-push xs x i y is)

take-first : {X : Type 0} (xs ys : List X) (i : ℕ) → i ≤ length xs → take i (xs ++ ys) ≡ take i xs
take-first xs ys zero low = refl
take-first [] ys (suc i) low = absurd (omega arith)
take-first {X} (x ∷ xs) ys (suc i) low = ap (λ (zs : List X). x ∷ zs) (take-first xs ys i (omega arith))

take-whole : {X : Type 0} (xs ys : List X) → take (length xs) (xs ++ ys) ≡ xs
take-whole [] ys = refl
take-whole {X} (x ∷ xs) ys = ap (λ (zs : List X). x ∷ zs) (take-whole xs ys)

sound_push : (n : NodeValue) (moves : ℕ) (lines : List LogLine) (line : LogLine) → AreSound n moves lines → IsSoundLine n moves lines line
    → AreSound n moves (lines ++ line ∷ [])
sound_push n moves lines line are sound place l at = ⊎_elim
    (λ (h : (place < length lines) × (slice_get lines place ≡ Some l)).
    let low = h.0 in
    subst (λ (before : List LogLine). IsSoundLine n moves before l) (sym (take-first lines (line ∷ []) place (omega arith))) (are place l h.1))
    (λ (h : (place ≡ length lines) × (line ≡ l)).
    subst (λ k. IsSoundLine n moves (take k (lines ++ line ∷ [])) l) (sym h.0)
    (subst (λ (before : List LogLine). IsSoundLine n moves before l) (sym (take-whole lines (line ∷ [])))
    (subst (λ (k : LogLine). IsSoundLine n moves lines k) h.1 sound)))
    (slice_get-push lines line place l at)

-- ---- where a node stands

-- the path leads from the root to this node, and leaves this many of the moves
record StandsAt (root : NodeValue) (total : ℕ) (path : List ℕ) (n : NodeValue) (moves : ℕ) : Type 0 where
  led : IsPath root path
  is : node_after root path ≡ n
  left : moves + our_cards root path ≡ total

path-more : (n : NodeValue) (path : List ℕ) (card : ℕ) → IsPath n path → Contains (choices (node_after n path)) card → IsPath n (path ++ card ∷ [])
path-more n [] card led mem = (mem, tt)
path-more n (c ∷ path) card led mem = (led.0, path-more (child n c) path card led.1 mem)

stands_after : (root : NodeValue) (total : ℕ) (path : List ℕ) (n : NodeValue) (moves less card : ℕ) → StandsAt root total path n moves
    → Contains (choices n) card → less + our_turn n ≡ moves → StandsAt root total (path ++ card ∷ []) (child n card) less
stands_after root total path n moves less card at mem turn =
    let same : our_turn (node_after root path) ≡ our_turn n = ap (λ (q : NodeValue). our_turn q) at.is in
    let count = our_cards-more root path card in
    let left = at.left in
    record {
      led = path-more root path card at.led (subst (λ (q : NodeValue). Contains (choices q) card) (sym at.is) mem);
      is = node_after-more root path card ∙ ap (λ (q : NodeValue). child q card) at.is;
      left = omega arith;
    }

-- ---- the node's own line

covers_self : (vs : List Vector) → CoversAll vs vs
covers_self vs v mem = (v, mem, Dominates-refl v)

sound_line : (root n : NodeValue) (total moves : ℕ) (path from : List ℕ) (rule : Rule) (front : List Vector) (before : List LogLine)
    → StandsAt root total path n moves → IsFront bridge n moves front
    → ((k : ℕ) → Contains from k → (1 ≤ k) × (k ≤ length before))
    → KeepsRule rule n (line_of rule path moves from front) (cited_lines before from)
    → IsSoundLine root total before (line_of rule path moves from front)
sound_line root n total moves path from rule front before at is within keeps = record {
  path = at.led;
  moves_left = at.left;
  width = subst (λ (q : NodeValue). HaveWidth (length q.lefts) front) (sym at.is)
      (subst (λ w. HaveWidth w front) (length-states n) (one_front.wide n moves front is));
  cites = All-from (λ k. (1 ≤ k) × (k ≤ length before)) from within;
  rule = subst (λ (q : NodeValue). KeepsRule rule q (line_of rule path moves from front) (cited_lines before from)) (sym at.is) keeps;
}

leaf_keeps : (n : NodeValue) (moves : ℕ) (path : List ℕ) (front : List Vector) → stops n moves ≡ true → IsFront bridge n moves front
    → IsLeaf n (line_of Leaf path moves [] front)
leaf_keeps n moves path front stop is =
    let made = map (λ s. makes s) (states n) in
    let same : made ∷ [] ≡ front = one_front.unique n moves (made ∷ []) front (recursion.at_stop n moves (stopped n moves stop)) is in
    record { cites_none = refl; covered = subst (λ vs. Covers vs made) same (covers_self (made ∷ []) made (Contains-here made [])) }

in_unions : (ls : List LogLine) (l : LogLine) (v : Vector) → Contains ls l → Contains l.vectors v → Contains (unions (map (λ (k : LogLine). k.vectors) ls)) v
in_unions [] l v mem of = absurd (Contains-nil l mem)
in_unions (k ∷ ls) l v mem of = ⊎_elim
    (λ (same : k ≡ l). Contains-append_first k.vectors (unions (map (λ (j : LogLine). j.vectors) ls)) v (subst (λ (j : LogLine). Contains j.vectors v) (sym same) of))
    (λ (later : Contains ls l). Contains-append_second k.vectors (unions (map (λ (j : LogLine). j.vectors) ls)) v (in_unions ls l v later of))
    (Contains-cons k ls l mem)

union_keeps : (n : NodeValue) (moves : ℕ) (path numbers : List ℕ) (front : List Vector) (all : List LogLine) → IsNode n
    → stops n moves ≡ false → is_declarers (to_play n.position) ≡ true → IsFront bridge n moves front
    → AreCited n (moves - 1) path (choices n) numbers all
    → IsUnion n (line_of Union path moves numbers front) (cited_lines all numbers)
union_keeps n moves path numbers front all sound on ours is cited =
    let going = going_on n.position (live n moves on) in
    let best = (recursion.at_declarer n (moves - 1) (map (λ (l : LogLine). l.vectors) (cited_lines all numbers)) front sound going ours cited.fronts).0
    (subst (λ m. IsFront bridge n m front) (sym (more_moves n moves on)) is) in
    record {
      goes_on = on;
      ours = ours;
      behind = cited.behind;
      covered = λ l mem v of. best.covered v (in_unions (cited_lines all numbers) l v mem of);
    }

in_order : (cards : List ℕ) → IsCardSet cards → AllPairs ◌<◌ cards
in_order [] set = AllPairs-nil ◌<◌
in_order (c ∷ cards) set = AllPairs-cons ◌<◌ c cards (λ d mem. tail-after c cards set d (has_card-from_Contains cards d mem))
    (in_order cards (IsCardSet-tail c cards set))

some_number : (path cards numbers : List ℕ) (all : List LogLine) → StandBehind path cards (cited_lines all numbers) → numbers ≡ [] → cards ≡ []
some_number path [] numbers all behind none = refl
some_number path (c ∷ cards) numbers all behind none =
    let empty : StandBehind path (c ∷ cards) (cited_lines all []) = subst (λ ns. StandBehind path (c ∷ cards) (cited_lines all ns)) none behind in
    absurd cc

join_keeps : (n : NodeValue) (moves : ℕ) (path numbers : List ℕ) (front : List Vector) (all : List LogLine) → IsNode n
    → stops n moves ≡ false → is_declarers (to_play n.position) ≡ false → IsFront bridge n moves front
    → AreCited n moves path (choices n) numbers all
    → IsJoin n (line_of Join path moves numbers front) (cited_lines all numbers)
join_keeps n moves path numbers front all sound on theirs is cited =
    let going = going_on n.position (live n moves on) in
    let more = more_moves n moves on in
    let fs = map (λ (l : LogLine). l.vectors) (cited_lines all numbers) in
    let best = (recursion.at_defender n (moves - 1) fs front sound going theirs (subst (λ m. AreFronts bridge n m (choices n) fs) (sym more) cited.fronts)).0
    (subst (λ m. IsFront bridge n m front) (sym more) is) in
    let masks : map (λ c. mask bridge n c) (choices n) ≡ map (λ c. child_mask n c) (choices n)
    = map-agree (λ c. mask bridge n c) (λ c. child_mask n c) (choices n) (λ c mem. mask-bridge n c) in
    record {
      goes_on = on;
      theirs = theirs;
      some = λ none. lawful.some_card n sound going (some_number path (choices n) numbers all cited.behind none);
      cards = choices n;
      in_order = in_order (choices n) (IsCardSet-cards_where _);
      are_choices = All-from (Contains (choices n)) (choices n) (λ c mem. mem);
      behind = cited.behind;
      covered = subst (λ (ms : List Vector). CoversAll front (joins (length n.lefts) ms fs)) masks
          (subst (λ w. CoversAll front (joins w (map (λ c. mask bridge n c) (choices n)) fs)) (length-states n) best.covered);
    }

-- ---- line by line

mutual
  sound_node : (root : NodeValue) (total : ℕ) → (n : NodeValue) (moves : ℕ) (path : List ℕ) (earlier : ℕ) (lines : List LogLine)
      → IsLogFrom n moves path earlier lines → IsNode n → StandsAt root total path n moves
      → (before : List LogLine) → length before ≡ earlier → AreSound root total before → AreSound root total (before ++ lines)
  sound_node root total _ _ _ _ _ (at_stop n moves path earlier front stop is) sound at before long are =
      sound_push root total before (line_of Leaf path moves [] front) are
      (sound_line root n total moves path [] Leaf front before at is (λ k mem. absurd (Contains-nil k mem)) (leaf_keeps n moves path front stop is))
  sound_node root total _ _ _ _ _ (at_declarer n moves path earlier numbers lines front on ours is below) sound at before long are =
      let turn = our_turn-ours n ours in
      let more = more_moves n moves on in
      let children = sound_children root total n (moves - 1) path earlier (choices n) numbers lines below
      (λ c mem. lawful.holds n c sound mem)
      (λ c mem. stands_after root total path n moves (moves - 1) c at mem (omega arith)) before long are in
      let cited = cited_children n (moves - 1) path earlier (choices n) numbers lines before below long in
      subst (λ (ls : List LogLine). AreSound root total ls) (append_assoc before lines (line_of Union path moves numbers front ∷ []))
      (sound_push root total (before ++ lines) (line_of Union path moves numbers front) children
      (sound_line root n total moves path numbers Union front (before ++ lines) at is cited.within
      (union_keeps n moves path numbers front (before ++ lines) sound on ours is cited)))
  sound_node root total _ _ _ _ _ (at_defender n moves path earlier numbers lines front on theirs is below) sound at before long are =
      let turn = our_turn-theirs n theirs in
      let children = sound_children root total n moves path earlier (choices n) numbers lines below
      (λ c mem. lawful.holds n c sound mem)
      (λ c mem. stands_after root total path n moves moves c at mem (omega arith)) before long are in
      let cited = cited_children n moves path earlier (choices n) numbers lines before below long in
      subst (λ (ls : List LogLine). AreSound root total ls) (append_assoc before lines (line_of Join path moves numbers front ∷ []))
      (sound_push root total (before ++ lines) (line_of Join path moves numbers front) children
      (sound_line root n total moves path numbers Join front (before ++ lines) at is cited.within
      (join_keeps n moves path numbers front (before ++ lines) sound on theirs is cited)))

  sound_children : (root : NodeValue) (total : ℕ) → (n : NodeValue) (moves : ℕ) (path : List ℕ) (earlier : ℕ) (cards numbers : List ℕ) (lines : List LogLine)
      → AreLogsFrom n moves path earlier cards numbers lines
      → ((c : ℕ) → Contains cards c → IsNode (child n c))
      → ((c : ℕ) → Contains cards c → StandsAt root total (path ++ c ∷ []) (child n c) moves)
      → (before : List LogLine) → length before ≡ earlier → AreSound root total before → AreSound root total (before ++ lines)
  sound_children root total _ _ _ _ _ _ _ (no_child n moves path earlier) nodes at before long are =
      subst (λ (ls : List LogLine). AreSound root total ls) (sym (append-nil before)) are
  sound_children root total _ _ _ _ _ _ _ (child_first n moves path earlier card cards numbers first others log rest) nodes at before long are =
      let here = sound_node root total (child n card) moves (path ++ card ∷ []) earlier first log (nodes card (Contains-here card cards))
      (at card (Contains-here card cards)) before long are in
      subst (λ (ls : List LogLine). AreSound root total ls) (append_assoc before first others)
      (sound_children root total n moves path (earlier + length first) cards numbers others rest
      (λ c mem. nodes c (Contains-there card cards c mem)) (λ c mem. at c (Contains-there card cards c mem))
      (before ++ first) (omega (arith, length-append before first)) here)

-- ---- the whole

pub log_for_is_valid : (n : NodeValue) (moves : ℕ) (lines : List LogLine) (front : List Vector) → IsNode n
    → IsLogFor n moves lines → IsFront bridge n moves front → IsValidLog n moves front lines
log_for_is_valid n moves lines front sound log is =
    let end = ends_at n moves [] 0 lines log in
    let here : StandsAt n moves [] n moves = record { led = tt; is = refl; left = omega arith } in
    let none : AreSound n moves [] = sound-none n moves lines in
    record {
      sound = sound_node n moves n moves [] 0 lines log sound here [] refl none;
      ends = record {
        before = end.before;
        last = end.last;
        is = end.is;
        at_root = end.path_is;
        covered = subst (λ vs. CoversAll front vs) (one_front.unique n moves front end.last.vectors is end.front) (covers_self front);
      };
    }

pub log_for_is_accepted : (n : NodeValue) (moves : ℕ) (lines : List LogLine) (front : List Vector) (verdict : LogVerdict) → IsNode n
    → IsLogFor n moves lines → IsFront bridge n moves front → IsLogVerdict n moves front lines verdict → verdict ≡ Yes
log_for_is_accepted n moves lines front verdict sound log is told =
    one_log_verdict n moves front lines verdict Yes told (log_for_is_valid n moves lines front sound log is)
