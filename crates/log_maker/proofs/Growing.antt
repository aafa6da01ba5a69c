-- A log that grows by the lines of one child after another.
use Rattle.std.proofs.Common.{◌≡◌, ◌+◌, ◌-◌, ◌<◌, ◌∙◌, ℕ, true, false, List, [], ◌∷◌, ◌++◌, length, sum_by, Contains, sym, ap, subst, append_assoc, append-nil, arith}
use Rattle.std.proofs.lemmas.List.{length-append}
use Rattle.std.proofs.lemmas.List.Sums.{sum_by-append, sum_by-cons}
use Rattle.win_vectors.specs.Fronts.{Vector}
use Rattle.trick_rules.specs.Positions.{to_play}
use Rattle.trick_rules.specs.Play.{is_declarers}
use Rattle.trick_rules.specs.Nodes.{NodeValue, IsNode, stops, choices, child}
use Rattle.strategy_games.specs.Plans.{IsFront, tree_size}
use Rattle.strategy_games.proofs.Lists.{Contains-append_first}
use Rattle.strategy_tree.specs.Bridge.{bridge}
use Rattle.strategy_tree.proofs.BridgeNodes.{stops-bridge}
use Rattle.alphamu_core.proofs.Paid.{size_after}
use Rattle.alphamu_core.proofs.OpenNodes.{size_ours, size_theirs}
use Rattle.log_check.specs.declared.lines.Rule.TheVariants.{Leaf, Union, Join}
use Rattle.log_check.specs.declared.lines.LogLine.{LogLine}
use Rattle.log_texts.specs.Written.{WrittenLog, IsLongerBy}
use Rattle.log_texts.proofs.Longer.{longer-none, longer-more}
use Rattle.log_check.specs.LogsFor.{line_of, IsLogFrom, AreLogsFrom}
use Rattle.log_check.specs.LogsFor.IsLogFrom.{at_stop, at_declarer, at_defender}
use Rattle.log_check.specs.LogsFor.AreLogsFrom.{no_child, child_first}
use Rattle.log_maker.specs.Steps.{HasGrown}
use Rattle.log_maker.proofs.LogSizes.{children-counted}

-- ---- one child more

abbrev LogsTo : NodeValue → ℕ → List ℕ → ℕ → List ℕ → List ℕ → ℕ → List LogLine → Type 0
LogsTo n moves path earlier cards numbers number lines = AreLogsFrom n moves path earlier cards (numbers ++ number ∷ []) lines

add_child : (n : NodeValue) (moves : ℕ) (path : List ℕ) (earlier : ℕ) (cards numbers : List ℕ) (lines : List LogLine) (card : ℕ) (more : List LogLine)
    → AreLogsFrom n moves path earlier cards numbers lines
    → IsLogFrom (child n card) moves (path ++ card ∷ []) (earlier + length lines) more
    → LogsTo n moves path earlier (cards ++ card ∷ []) numbers (earlier + length lines + length more) (lines ++ more)
add_child _ _ _ _ _ _ _ card more (no_child n moves path earlier) log =
    let none : earlier + 0 ≡ earlier = omega arith in
    let at : IsLogFrom (child n card) moves (path ++ card ∷ []) earlier more = subst (λ k. IsLogFrom (child n card) moves (path ++ card ∷ []) k more) none log in
    let number : earlier + length more ≡ earlier + 0 + length more = omega arith in
    subst (λ k. AreLogsFrom n moves path earlier (card ∷ []) (k ∷ []) more) number
    (subst (λ (ls : List LogLine). AreLogsFrom n moves path earlier (card ∷ []) ((earlier + length more) ∷ []) ls) (append-nil more)
    (child_first n moves path earlier card [] [] more [] at (no_child n moves path (earlier + length more))))
add_child _ _ _ _ _ _ _ card more (child_first n moves path earlier c cards numbers first others log rest) last =
    let long : earlier + length (first ++ others) ≡ earlier + length first + length others = omega (arith, length-append first others) in
    let at : IsLogFrom (child n card) moves (path ++ card ∷ []) (earlier + length first + length others) more
    = subst (λ k. IsLogFrom (child n card) moves (path ++ card ∷ []) k more) long last in
    let number : earlier + length first + length others + length more ≡ earlier + length (first ++ others) + length more = omega (arith, length-append first others) in
    let later = add_child n moves path (earlier + length first) cards numbers others card more rest at in
    subst (λ k. LogsTo n moves path earlier (c ∷ cards ++ card ∷ []) ((earlier + length first) ∷ numbers) k ((first ++ others) ++ more)) number
    (subst (λ (ls : List LogLine). LogsTo n moves path earlier (c ∷ cards ++ card ∷ []) ((earlier + length first) ∷ numbers) (earlier + length first + length others + length more) ls)
    (sym (append_assoc first others more))
    (child_first n moves path earlier c (cards ++ card ∷ []) (numbers ++ (earlier + length first + length others + length more) ∷ []) first (others ++ more) log later))

-- ---- the lines so far

-- the log has grown by the lines of the children by these cards
pub record AreWritten (n : NodeValue) (moves : ℕ) (path : List ℕ) (before : WrittenLog) (cards numbers : List ℕ) (after : WrittenLog) : Type 0 where
  pub lines : List LogLine
  pub longer : IsLongerBy lines before after
  pub are : AreLogsFrom n moves path (before.count) cards numbers lines

pub written_none : (n : NodeValue) (moves : ℕ) (path : List ℕ) (log : WrittenLog) → AreWritten n moves path log [] [] log
written_none n moves path log = record { lines = []; longer = longer-none log; are = no_child n moves path log.count }

pub written_more : (n kept : NodeValue) (moves : ℕ) (path behind : List ℕ) (before mid after : WrittenLog) (cards numbers : List ℕ) (card number : ℕ)
    → AreWritten n moves path before cards numbers mid → HasGrown kept moves behind mid after
    → kept ≡ child n card → behind ≡ path ++ card ∷ [] → number ≡ after.count
    → AreWritten n moves path before (cards ++ card ∷ []) (numbers ++ number ∷ []) after
written_more n kept moves path behind before mid after cards numbers card number so grown kept_is behind_is number_is =
    let long : mid.count ≡ before.count + length so.lines = so.longer.count_is in
    let at : IsLogFrom (child n card) moves (path ++ card ∷ []) (before.count + length so.lines) grown.lines
    = subst (λ k. IsLogFrom (child n card) moves (path ++ card ∷ []) k grown.lines) long
    (subst (λ p. IsLogFrom (child n card) moves p (mid.count) grown.lines) behind_is
    (subst (λ (k : NodeValue). IsLogFrom k moves behind (mid.count) grown.lines) kept_is grown.are)) in
    let last : after.count ≡ mid.count + length grown.lines = grown.longer.count_is in
    let number_at : before.count + length so.lines + length grown.lines ≡ number = omega arith in
    record {
      lines = so.lines ++ grown.lines;
      longer = longer-more so.lines grown.lines before mid after so.longer grown.longer;
      are = subst (λ k. LogsTo n moves path (before.count) (cards ++ card ∷ []) numbers k (so.lines ++ grown.lines)) number_at
          (add_child n moves path (before.count) cards numbers so.lines card grown.lines so.are at);
    }

-- ---- how long it is

pub written_size : (n : NodeValue) (moves : ℕ) (path : List ℕ) (before after : WrittenLog) (cards numbers rest : List ℕ) → IsNode n
    → choices n ≡ cards ++ rest → AreWritten n moves path before cards numbers after
    → after.count ≡ before.count + sum_by (size_after n moves) cards
written_size n moves path before after cards numbers rest sound are so =
    let long : after.count ≡ before.count + length so.lines = so.longer.count_is in
    let count = children-counted n moves path (before.count) cards numbers so.lines so.are sound
    (λ c mem. subst (λ cs. Contains cs c) (sym are) (Contains-append_first cards rest c mem)) in
    omega arith

pub sum_so_far : (size : ℕ → ℕ) (all cards rest : List ℕ) (card : ℕ) → all ≡ cards ++ card ∷ rest → sum_by size cards + size card + sum_by size rest ≡ sum_by size all
sum_so_far size all cards rest card are =
    let whole = ap (sum_by size) are ∙ sum_by-append size cards (card ∷ rest) in
    omega (arith, sum_by-cons size card rest)

-- ---- the node's own line

pub grown_leaf : (n : NodeValue) (moves : ℕ) (path : List ℕ) (before after : WrittenLog) (front : List Vector) (line : LogLine)
    → stops n moves ≡ true → IsFront bridge n moves front → line ≡ line_of Leaf path moves [] front → IsLongerBy (line ∷ []) before after
    → HasGrown n moves path before after
grown_leaf n moves path before after front line stop is line_is longer = record {
  lines = line_of Leaf path moves [] front ∷ [];
  longer = subst (λ (l : LogLine). IsLongerBy (l ∷ []) before after) line_is longer;
  are = at_stop n moves path (before.count) front stop is;
}
