-- The log of a root, card by card.
use Rattle.std.proofs.Common.{◌≡◌, ◌≤◌, ◌<◌, ◌+◌, ◌-◌, ◌*◌, ◌∙◌, ℕ, zero, suc, true, List, [], ◌∷◌, ◌++◌, length, Contains, refl, sym, ap, subst, ⊎_elim, arith}
use Rattle.std.proofs.lemmas.List.{length-append, length_push}
use Rattle.win_vectors.specs.Fronts.{Vector, IsFrontOf, IsReduced}
use Rattle.pareto_fronts.specs.FrontValue.{FrontValue}
use Rattle.trick_rules.specs.Positions.{to_play}
use Rattle.trick_rules.specs.Play.{is_declarers}
use Rattle.trick_rules.specs.Nodes.{NodeValue, IsNode, stops, choices, child}
use Rattle.strategy_games.specs.Plans.{IsFront, tree_size}
use Rattle.strategy_games.specs.Joins.{WinsByCard}
use Rattle.strategy_games.specs.Choosing.{IsFirstOf}
use Rattle.strategy_games.proofs.Lists.{Contains-append, Contains-single}
use Rattle.strategy_tree.specs.Bridge.{bridge}
use Rattle.strategy_tree.proofs.Rules.{lawful}
use Rattle.front_table.specs.Proven.{IsFrontAt}
use Rattle.log_check.specs.declared.lines.Rule.TheVariants.{Leaf}
use Rattle.log_check.specs.declared.lines.LogLine.{LogLine}
use Rattle.log_texts.specs.Written.{WrittenLog, begun, finished, IsLongerBy}
use Rattle.log_texts.proofs.Longer.{whole_text}
use Rattle.log_check.specs.LogsFor.{line_of, IsLogFrom}
use Rattle.log_texts.specs.LogText.{IsLogTextFor}
use Rattle.log_maker.specs.Steps.{HasGrown}
use Rattle.log_maker.proofs.LogSizes.{lines-counted}
use Rattle.log_maker.proofs.Growing.{AreWritten, written_none, grown_leaf}
use Rattle.plain_fronts.proofs.CardByCard.{member}
use Rattle.log_maker.proofs.FrontsSoFar.{cards_more, more_ours}
use Rattle.log_maker.proofs.CardsSoFar.{CardsSoFar, with_next, written_next}
use Rattle.log_maker.proofs.RootCards.{few_choices}

pub text_from_grown : (n : NodeValue) (moves : ℕ) (before after : WrittenLog) (text : List ℕ) → HasGrown n moves [] before after → before ≡ begun
    → text ≡ finished after → IsLogTextFor n moves text
text_from_grown n moves before after text grown start end = (
  grown.lines,
  subst (λ (w : WrittenLog). IsLogFrom n moves [] w.count grown.lines) start grown.are,
  whole_text grown.lines after text (subst (λ (w : WrittenLog). IsLongerBy grown.lines w after) start grown.longer) end,
)

-- ---- where the result is decided

pub leaf_text : (n : NodeValue) (moves : ℕ) (before after : WrittenLog) (front : List Vector) (line : LogLine) (text : List ℕ)
    → stops n moves ≡ true → IsFront bridge n moves front → line ≡ line_of Leaf [] moves [] front → before ≡ begun → IsLongerBy (line ∷ []) before after
    → text ≡ finished after → IsLogTextFor n moves text
leaf_text n moves before after front line text stop is line_is start longer end =
    text_from_grown n moves before after text (grown_leaf n moves [] before after front line stop is line_is longer) start end

pub some_nodes : (nodes : ℕ) → (nodes ≡ 0 → ⊥) → 1 ≤ nodes
some_nodes zero off = absurd (off refl)
some_nodes (suc nodes) off = omega arith

-- ---- by cards

pub written_at_start : (n : NodeValue) (moves : ℕ) (from : List ℕ) (log : WrittenLog) → from ≡ [] → log ≡ begun → AreWritten n moves [] begun [] from log
written_at_start n moves from log no_number start =
    subst (λ ns. AreWritten n moves [] begun [] ns log) (sym no_number)
    (subst (λ (w : WrittenLog). AreWritten n moves [] begun [] [] w) (sym start) (written_none n moves [] begun))

pub root_room : (n : NodeValue) (earlier rest : List ℕ) (card nodes : ℕ) (log : WrittenLog) → IsNode n → is_declarers (to_play n.position) ≡ true
    → choices n ≡ earlier ++ card ∷ rest → log.count ≤ 268435456 * length earlier → nodes ≤ 268435456 → log.count + nodes ≤ 4294967294
root_room n earlier rest card nodes log sound ours are short few =
    let most = few_choices n sound ours in
    let whole = ap (λ (cs : List ℕ). length cs) are ∙ length-append earlier (card ∷ rest) in
    omega arith

pub root_end : (n : NodeValue) (earlier rest : List ℕ) (log : WrittenLog) → IsNode n → is_declarers (to_play n.position) ≡ true
    → choices n ≡ earlier ++ rest → log.count ≤ 268435456 * length earlier → log.count < 4294967294
root_end n earlier rest log sound ours are short =
    let most = few_choices n sound ours in
    let whole = ap (λ (cs : List ℕ). length cs) are ∙ length-append earlier rest in
    omega arith

pub root_length : (earlier : List ℕ) (card nodes : ℕ) (mid after : WrittenLog) → mid.count ≤ 268435456 * length earlier → nodes ≤ 268435456
    → after.count ≤ mid.count + nodes → after.count ≤ 268435456 * length (earlier ++ card ∷ [])
root_length earlier card nodes mid after short few grown = omega (arith, length_push earlier card)

pub root_fits : (n : NodeValue) (moves nodes : ℕ) (earlier rest : List ℕ) (card : ℕ) (mid after : WrittenLog) → IsNode n → choices n ≡ earlier ++ card ∷ rest
    → HasGrown (child n card) moves (card ∷ []) mid after → after.count ≤ mid.count + nodes
    → ((c : ℕ) → Contains earlier c → tree_size bridge (child n c) moves ≤ nodes)
    → (c : ℕ) → Contains (earlier ++ card ∷ []) c → tree_size bridge (child n c) moves ≤ nodes
root_fits n moves nodes earlier rest card mid after sound are grown few fit c mem = ⊎_elim
    (λ (before : Contains earlier c). fit c before)
    (λ (last : Contains (card ∷ []) c).
    subst (λ d. tree_size bridge (child n d) moves ≤ nodes) (Contains-single card c last) here)
    (Contains-append earlier (card ∷ []) c mem)
  where
    here : tree_size bridge (child n card) moves ≤ nodes
    here =
        let size = lines-counted (child n card) moves (card ∷ []) (mid.count) grown.lines grown.are (lawful.holds n card sound (member (choices n) earlier rest card are)) in
        let long = grown.longer.count_is in
        omega arith

pub root_spent : (n : NodeValue) (moves nodes : ℕ) (earlier rest : List ℕ) (card other : ℕ) → choices n ≡ earlier ++ card ∷ rest
    → ((c : ℕ) → Contains earlier c → tree_size bridge (child n c) moves ≤ nodes)
    → (other ≡ card) × (nodes < tree_size bridge (child n card) moves)
    → IsFirstOf (λ c. nodes < tree_size bridge (child n c) moves) (choices n) other
root_spent n moves nodes earlier rest card other are fit spent =
    subst (λ d. IsFirstOf (λ c. nodes < tree_size bridge (child n c) moves) (choices n) d) (sym spent.0)
    (earlier, rest, are, λ c mem over. (let within = fit c mem in omega arith), spent.1)

-- the root cards so far: none of their trees is too large, and each has added no more lines than a root card may
pub record RootSoFar (n : NodeValue) (moves nodes : ℕ) (cards : List ℕ) (front : FrontValue) (numbers : List ℕ) (log : WrittenLog) : Type 0 where
  pub so : CardsSoFar (λ earlier vectors. IsFrontOf (WinsByCard bridge n (moves - 1) earlier) vectors) n (moves - 1) [] begun cards front numbers log
  pub short : log.count ≤ 268435456 * length so.earlier
  pub fit : (c : ℕ) → Contains so.earlier c → tree_size bridge (child n c) (moves - 1) ≤ nodes

-- with the next card
pub root_more : {n : NodeValue} {moves nodes : ℕ} {cards : List ℕ} {front : FrontValue} {numbers : List ℕ} {mid : WrittenLog} → RootSoFar n moves nodes cards front numbers mid
    → {card number : ℕ} {rest more_numbers : List ℕ} {won wider : FrontValue} {after : WrittenLog} → cards ≡ card ∷ rest → IsNode n → nodes ≤ 268435456
    → IsFrontAt (child n card) (moves - 1) won → wider.width ≡ front.width → IsReduced (front.vectors ++ won.vectors) wider.vectors
    → HasGrown (child n card) (moves - 1) (card ∷ []) mid after → after.count ≤ mid.count + nodes → number ≡ after.count → more_numbers ≡ numbers ++ number ∷ []
    → RootSoFar n moves nodes rest wider more_numbers after
root_more {n} {moves} {nodes} {cards} {front} {numbers} {mid} root {card} {number} {rest} {more_numbers} {won} {wider} {after} next sound few child_front same_width best grown fits number_is numbers_are =
    let so = root.so in
    let front_is = more_ours n (child n card) (moves - 1) so.earlier card front.vectors won.vectors wider.vectors so.best refl child_front.front best in
    record {
      so = record {
        earlier = so.earlier ++ card ∷ [];
        are = cards_more (choices n) so.earlier rest card (with_next so next);
        width = same_width ∙ so.width;
        best = front_is;
        written = written_next so card grown refl refl number_is numbers_are;
      };
      short = root_length so.earlier card nodes mid after root.short few fits;
      fit = root_fits n (moves - 1) nodes so.earlier rest card mid after sound (with_next so next) grown fits root.fit;
    }
