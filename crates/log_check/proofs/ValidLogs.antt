-- A valid log covers what every strategy wins.
use Rattle.std.proofs.Common.{◌≡◌, ◌+◌, ◌<◌, ◌∙◌, ℕ, zero, suc, true, false, is_some, Some, List, [], ◌∷◌, ◌++◌, map, length, replicate, take, Contains, refl, sym, ap, subst, arith}
use Rattle.std.specs.Prelude.{slice_get}
use Rattle.std.specs.List.{AllZip}
use Rattle.std.proofs.lemmas.Bool.{true≢false}
use Rattle.win_vectors.specs.Vectors.{meet_of, spread_of}
use Rattle.win_vectors.specs.Fronts.{Vector, Dominates, Covers, CoversAll, spreads}
use Rattle.trick_rules.specs.Positions.{to_play}
use Rattle.trick_rules.specs.Play.{is_declarers, decided, makes}
use Rattle.trick_rules.specs.Nodes.{NodeValue, IsNode, states, choices, child, child_mask}
use Rattle.trick_rules.specs.Nodes as nodes
use Rattle.strategy_games.specs.Games.{mask}
use Rattle.strategy_games.specs.Plans.{Replies, Stop, Play, Hear, NoReply, Reply, cards_of, FitEach, wins, wins_vector, IsBelow}
use Rattle.strategy_games.specs.Joins.{joins}
use Rattle.strategy_games.proofs.Lists.{Contains-here, Contains-there, Contains-single, Contains-map, Contains-of_map, All-at}
use Rattle.strategy_games.proofs.Vectors.{Dominates-trans, Dominates-meet, Dominates-spread, Dominates-refl}
use Rattle.strategy_games.proofs.Masks.{Dominates-map, replicate-map}
use Rattle.strategy_games.proofs.Fronts.{Contains-meets}
use Rattle.strategy_games.proofs.Wins.{wins_vector-first}
use Rattle.strategy_games.proofs.Cuts.{some_replies}
use Rattle.strategy_tree.specs.Bridge.{bridge}
use Rattle.strategy_tree.proofs.Rules.{lawful}
use Rattle.strategy_tree.proofs.BridgeLaws.{recursion, cuts}
use Rattle.strategy_tree.proofs.BridgeNodes.{length-states, mask-bridge, stops-bridge}
use Rattle.log_check.specs.declared.lines.Rule.{Rule}
use Rattle.log_check.specs.declared.lines.Rule.TheVariants.{Leaf, Union, Join}
use Rattle.log_check.specs.declared.lines.LogLine.{LogLine}
use Rattle.log_check.specs.Logs.{node_after, our_cards, cited_lines, StandBehind, IsLeaf, IsUnion, IsJoin, KeepsRule, AreSound, IsValidLog}
use Rattle.log_check.proofs.PathNodes.{our_turn, our_turn-ours, our_turn-theirs, node_after-is_node, node_after-more, our_cards-more, slice_get-take, cited_place}

-- ---- a defender's replies

-- these vectors cover what each strategy wins behind each card
abbrev pub AreBelow : NodeValue → ℕ → List ℕ → List (List Vector) → Type 0
AreBelow n m cards fs = AllZip (λ card f. IsBelow bridge (child n card) m f) cards fs

join_covers : (n : NodeValue) (m : ℕ) (cards : List ℕ) (fs : List (List Vector)) (rs : Replies ℕ) → IsNode n
    → ((card : ℕ) → Contains cards card → Contains (choices n) card) → AreBelow n m cards fs
    → cards_of rs ≡ cards → FitEach bridge rs n m
    → Covers (joins (length n.lefts) (map (λ card. child_mask n card) cards) fs) (wins_vector bridge (Hear rs) n)
join_covers n m [] [] NoReply sound among below are fit =
    let all = replicate (length n.lefts) true in
    let same : all ≡ wins_vector bridge (Hear NoReply) n = sym (ap (λ k. replicate k true) (length-states n)) ∙ replicate-map true (states n) in
    (all, Contains-here all [], subst (Dominates all) same (Dominates-refl all))
join_covers n m [] [] (Reply c p rs) sound among below are fit = absurd cc
join_covers n m [] (f ∷ fs) rs sound among below are fit = absurd below
join_covers n m (card ∷ cards) [] rs sound among below are fit = absurd below
join_covers n m (card ∷ cards) (f ∷ fs) NoReply sound among below are fit = absurd cc
join_covers n m (card ∷ cards) (f ∷ fs) (Reply c p rs) sound among below are fit =
    let heads : c ≡ card = cc in
    let tails : cards_of rs ≡ cards = cc in
    let mem : Contains (choices n) c = subst (λ x. Contains (choices n) x) (sym heads) (among card (Contains-here card cards)) in
    let rest = join_covers n m cards fs rs sound (λ d k. among d (Contains-there card cards d k)) below.1 tails fit.1 in
    let here = subst (λ x. IsBelow bridge (child n x) m f) (sym heads) below.0 p fit.0 in
    let spread = spread_of here.0 (child_mask n card) in
    let masks : mask bridge n c ≡ child_mask n card = mask-bridge n c ∙ ap (λ x. child_mask n x) heads in
    let met : meet_of (wins_vector bridge (Hear rs) n) (spread_of (wins_vector bridge p (child n c)) (child_mask n card)) ≡ wins_vector bridge (Hear (Reply c p rs)) n
    = ap (λ (z : Vector). meet_of (wins_vector bridge (Hear rs) n) (spread_of (wins_vector bridge p (child n c)) z)) (sym masks)
    ∙ sym (wins_vector-first bridge IsNode lawful n c p rs sound mem) in (
      meet_of rest.0 spread,
      Contains-meets (joins (length n.lefts) (map (λ x. child_mask n x) cards) fs) (spreads (child_mask n card) f) rest.0 spread rest.1
          (Contains-map (λ v. spread_of v (child_mask n card)) f here.0 here.1),
      subst (Dominates (meet_of rest.0 spread)) met
          (Dominates-meet rest.0 (wins_vector bridge (Hear rs) n) spread (spread_of (wins_vector bridge p (child n c)) (child_mask n card)) rest.2
          (Dominates-spread here.0 (wins_vector bridge p (child n c)) (child_mask n card) here.2)),
    )

join_below : (n : NodeValue) (m : ℕ) (cards : List ℕ) (fs : List (List Vector)) (alpha : List Vector) → IsNode n
    → is_some (decided n.position) ≡ false → is_declarers (to_play n.position) ≡ false
    → ((card : ℕ) → Contains cards card → Contains (choices n) card) → AreBelow n (suc m) cards fs
    → CoversAll alpha (joins (length n.lefts) (map (λ card. child_mask n card) cards) fs) → IsBelow bridge n (suc m) alpha
join_below n m cards fs alpha sound live theirs among below covers Stop fit = absurd (true≢false (sym fit ∙ live))
join_below n m cards fs alpha sound live theirs among below covers (Play d q) fit = absurd (true≢false (sym fit.1 ∙ theirs))
join_below n m cards fs alpha sound live theirs among below covers (Hear rs) fit =
    let less = some_replies bridge rs n (suc m) cards (λ d k. subst (λ (l : List ℕ). Contains l d) (sym fit.2) (among d k)) fit.3 in
    let u = join_covers n (suc m) cards fs less.0 sound among below less.1 less.2.0 in
    let w = covers u.0 u.1 in (
      w.0,
      w.1,
      Dominates-trans w.0 u.0 (wins_vector bridge (Hear rs) n) w.2
          (Dominates-trans u.0 (wins_vector bridge (Hear less.0) n) (wins_vector bridge (Hear rs) n) u.2
          (Dominates-map (λ s. wins bridge (Hear less.0) s) (λ s. wins bridge (Hear rs) s) (states n) (λ s k h. less.2.1 s h))),
    )

-- ---- the rules

leaf_below : (q : NodeValue) (m : ℕ) (line : LogLine) → IsNode q → IsLeaf q line → IsBelow bridge q m line.vectors
leaf_below q m line sound leaf =
    let made = map (λ s. makes s) (states q) in
    let same : 0 + m ≡ m = omega arith in
    subst (λ k. IsBelow bridge q k line.vectors) same
    (cuts.deeper_by q 0 m (made ∷ []) line.vectors sound (recursion.at_stop q 0 refl)
    (λ v mem. subst (Covers line.vectors) (Contains-single made v mem) leaf.covered))

-- where play goes on there is a move, and the result is open
more_moves : (q : NodeValue) (moves : ℕ) → nodes.stops q moves ≡ false → (m : ℕ) × (suc m ≡ moves) × (is_some (decided q.position) ≡ false)
more_moves q zero off = absurd (true≢false (stops-bridge q zero ∙ off))
more_moves q (suc m) off = (m, refl, stops-bridge q (suc m) ∙ off)

-- what is known of a line that is cited
record IsCited (n : NodeValue) (moves : ℕ) (line : LogLine) : Type 0 where
  moves_left : line.moves + our_cards n line.path ≡ moves
  below : IsBelow bridge (node_after n line.path) line.moves line.vectors

-- a line behind a path, at the child
behind : (n : NodeValue) (moves m : ℕ) (path : List ℕ) (card : ℕ) (line : LogLine) → line.path ≡ path ++ card ∷ []
    → m + our_turn (node_after n path) + our_cards n path ≡ moves
    → IsCited n moves line → IsBelow bridge (child (node_after n path) card) m line.vectors
behind n moves m path card line is total cited =
    let count : our_cards n line.path ≡ our_cards n path + our_turn (node_after n path)
    = ap (λ p. our_cards n p) is ∙ our_cards-more n path card in
    let left = cited.moves_left in
    let same : line.moves ≡ m = omega arith in
    subst (λ k. IsBelow bridge (child (node_after n path) card) k line.vectors) same
    (subst (λ q. IsBelow bridge q line.moves line.vectors) (ap (λ p. node_after n p) is ∙ node_after-more n path card) cited.below)

zip_below : (n : NodeValue) (moves m : ℕ) (path cards : List ℕ) (cited : List LogLine)
    → is_declarers (to_play (node_after n path).position) ≡ false
    → m + our_cards n path ≡ moves → ((l : LogLine) → Contains cited l → IsCited n moves l)
    → StandBehind path cards cited → AreBelow (node_after n path) m cards (map (λ (l : LogLine). l.vectors) cited)
zip_below n moves m path [] [] theirs total each are = tt
zip_below n moves m path [] (l ∷ cited) theirs total each are = absurd cc
zip_below n moves m path (card ∷ cards) [] theirs total each are = absurd cc
zip_below n moves m path (card ∷ cards) (l ∷ cited) theirs total each are =
    let heads : l.path ≡ path ++ card ∷ [] = cc in
    let tails : StandBehind path cards cited = cc in
    let count = our_turn-theirs (node_after n path) theirs in (
      behind n moves m path card l heads (omega arith) (each l (Contains-here l cited)),
      zip_below n moves m path cards cited theirs total (λ k mem. each k (Contains-there l cited k mem)) tails,
    )

module _ (n : NodeValue) (moves : ℕ) (line : LogLine) (cited : List LogLine) (sound : IsNode (node_after n line.path)) (total : line.moves + our_cards n line.path ≡ moves)
    (each : (l : LogLine) → Contains cited l → IsCited n moves l) where
  union_below : IsUnion (node_after n line.path) line cited → IsBelow bridge (node_after n line.path) line.moves line.vectors
  union_below union =
      let q = node_after n line.path in
      let more = more_moves q line.moves union.goes_on in
      subst (λ m. IsBelow bridge q m line.vectors) more.1
      (cuts.at_declarer q more.0 line.vectors sound more.2 union.ours (λ card mem.
      let at = Contains-of_map (λ (l : LogLine). l.path) cited (line.path ++ card ∷ [])
      (subst (λ (ps : List (List ℕ)). Contains ps (line.path ++ card ∷ [])) (sym union.behind)
      (Contains-map (λ c. line.path ++ c ∷ []) (choices q) card mem)) in
      let count = our_turn-ours q union.ours in
      let enough = more.1 in
      cuts.wider (child q card) more.0 at.0.vectors line.vectors
      (behind n moves more.0 line.path card at.0 at.2 (omega arith) (each at.0 at.1))
      (union.covered at.0 at.1)))

  below_by_join : IsJoin (node_after n line.path) line cited → IsBelow bridge (node_after n line.path) line.moves line.vectors
  below_by_join join =
      let q = node_after n line.path in
      let more = more_moves q line.moves join.goes_on in
      let total_of : suc more.0 + our_cards n line.path ≡ moves = ap (λ k. k + our_cards n line.path) more.1 ∙ total in
      subst (λ m. IsBelow bridge q m line.vectors) more.1
      (join_below q more.0 join.cards (map (λ (l : LogLine). l.vectors) cited) line.vectors sound more.2 join.theirs
      (λ card mem. All-at (Contains (choices q)) join.cards join.are_choices card mem)
      (zip_below n moves (suc more.0) line.path join.cards cited join.theirs total_of each join.behind) join.covered)

  by_rule : (rule : Rule) → KeepsRule rule (node_after n line.path) line cited → IsBelow bridge (node_after n line.path) line.moves line.vectors
  by_rule Leaf rule = leaf_below (node_after n line.path) line.moves line sound rule
  by_rule Union rule = union_below rule
  by_rule Join rule = below_by_join rule

-- ---- line by line

within : (n : NodeValue) (moves : ℕ) (lines : List LogLine) → IsNode n → AreSound n moves lines
    → (bound place : ℕ) (line : LogLine) → place < bound → slice_get lines place ≡ Some line
    → IsBelow bridge (node_after n line.path) line.moves line.vectors
within n moves lines sound are zero place line low is = absurd (omega arith)
within n moves lines sound are (suc bound) place line low is =
    let s = are place line is in
    by_rule n moves line (cited_lines (take place lines) line.from) (node_after-is_node n line.path sound s.path) s.moves_left
    (λ l mem.
    let at = cited_place (take place lines) line.from l mem in
    let there = slice_get-take lines place at.0 l at.1 in
    let nearer = there.0 in
    record {
      moves_left = (are at.0 l there.1).moves_left;
      below = within n moves lines sound are bound at.0 l (omega arith) there.1;
    }) line.rule s.rule

pub sound_line_covers : (n : NodeValue) (moves : ℕ) (lines : List LogLine) (place : ℕ) (line : LogLine) → IsNode n
    → AreSound n moves lines → slice_get lines place ≡ Some line → IsBelow bridge (node_after n line.path) line.moves line.vectors
sound_line_covers n moves lines place line sound are is = within n moves lines sound are (suc place) place line (omega arith) is

-- the last of a list
last_place : {X : Type 0} (xs : List X) (x : X) → slice_get (xs ++ x ∷ []) (length xs) ≡ Some x
last_place [] x = refl
last_place (y ∷ xs) x = last_place xs x

pub valid_log_covers : (n : NodeValue) (moves : ℕ) (vectors : List Vector) (lines : List LogLine) → IsNode n
    → IsValidLog n moves vectors lines → IsBelow bridge n moves vectors
valid_log_covers n moves vectors lines sound valid =
    let e = valid.ends in
    let is : slice_get lines (length e.before) ≡ Some e.last = ap (λ (ls : List LogLine). slice_get ls (length e.before)) e.is ∙ last_place e.before e.last in
    let below = sound_line_covers n moves lines (length e.before) e.last sound valid.sound is in
    let total = (valid.sound (length e.before) e.last is).moves_left in
    let none : our_cards n e.last.path ≡ 0 = ap (λ p. our_cards n p) e.at_root in
    let same : e.last.moves ≡ moves = omega arith in
    cuts.wider n moves e.last.vectors vectors
    (subst (λ m. IsBelow bridge n m e.last.vectors) same
    (subst (λ q. IsBelow bridge q e.last.moves e.last.vectors) (ap (λ p. node_after n p) e.at_root) below)) e.covered
