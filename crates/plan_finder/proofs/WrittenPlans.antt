-- Plans that are written as text.
use Rattle.std.proofs.Common.{◌≡◌, ◌∙◌, ◌+◌, ◌-◌, ◌≤◌, ◌++◌, ℕ, true, false, Option, None, Some, Result, Ok, List, [], length, take, drop, sym, ap, subst, append_assoc, arith}
use Rattle.std.specs.List.{All, slice_range}
use Rattle.std.proofs.Math.Seq.{drop-append_seam, take-append_seam}
use Rattle.std.proofs.lemmas.List.{append-nil, length-append}
use Rattle.std.proofs.lemmas.List.Elements.{All-weaker}
use Rattle.win_vectors.specs.Fronts.{Vector, Covers}
use Rattle.win_vectors.proofs.Orders.{Dominates-refl}
use Rattle.trick_rules.specs.Nodes as nodes
use Rattle.trick_rules.specs.Nodes.{NodeValue, IsNode, choices}
use Rattle.strategy_games.specs.Choosing.{IsChosenPlan}
use Rattle.strategy_games.specs.Plans.{Plan, Replies, Stop, Play, Hear, NoReply, Reply, cards_of, stops}
use Rattle.strategy_tree.specs.Bridge.{bridge}
use Rattle.strategy_tree.specs.PlanText.{stop_line, play_line, hear_line, on_line, plan_text, replies_text}
use Rattle.strategy_tree.specs.PlanRead.{plan_read}
use Rattle.strategy_tree.specs.declared.plan_reader.PlanFault.{PlanFault}
use Rattle.strategy_tree.proofs.BridgeLaws.{chosen_plan}
use Rattle.strategy_tree.proofs.BridgeNodes.{stopped}
use Rattle.strategy_tree.proofs.Printing.{printed_plan}
use Rattle.strategy_tree.proofs.ReadBack.{reads_back}
use Rattle.plan_finder.specs.declared.choice.Choice.{Choice}
use Rattle.plan_finder.specs.declared.writer.WrittenPlan.{WrittenPlan}
use Rattle.plan_finder.specs.Choices.{IsFirstChoice}
use Rattle.plan_finder.specs.Targets.{IsOfFront}
use Rattle.plan_finder.specs.Written.{IsPlanWritten, AreRepliesWritten, StandsWritten, EndsWritten, SlotStands, AllStand}
use Rattle.plan_finder.proofs.Picks.{own_pick, play_chosen}
use Rattle.plan_finder.proofs.Replied.{RepliedSoFar, then_reply}

-- ---- a node and what is below it

pub stop_written : (n : NodeValue) (moves : ℕ) (vector : Vector) (before after : List ℕ) → nodes.stops n moves ≡ true → after ≡ before ++ stop_line → IsPlanWritten n moves vector before after
stop_written n moves vector before after stop lines = record { plan = Stop; chosen = stopped n moves stop; lines = lines }

pub play_written : (n : NodeValue) (moves : ℕ) (t : Vector) (choice : Choice) (before lined after : List ℕ) → stops bridge n moves ≡ false → bridge.is_ours n ≡ true → IsOfFront n moves t → IsFirstChoice n moves t choice
    → lined ≡ before ++ play_line choice.card → IsPlanWritten choice.child (moves - 1) choice.vector lined after → IsPlanWritten n moves t before after
play_written n moves t choice before lined after goes_on ours of first line rest = record {
  plan = Play choice.card rest.plan;
  chosen = play_chosen n moves t choice rest.plan goes_on ours of first rest.chosen;
  lines = rest.lines ∙ ap (λ text. text ++ plan_text rest.plan) line ∙ append_assoc before (play_line choice.card) (plan_text rest.plan);
}

pub hear_written : (n : NodeValue) (moves : ℕ) (vector : Vector) (count : ℕ) (before lined after : List ℕ) → stops bridge n moves ≡ false → bridge.is_ours n ≡ false → IsOfFront n moves vector
    → count ≡ length (choices n) → lined ≡ before ++ hear_line count → AreRepliesWritten n moves vector [] lined after → IsPlanWritten n moves vector before after
hear_written n moves vector count before lined after goes_on theirs of counted line r =
    let all : cards_of r.replies ≡ choices n = sym (r.split ∙ append-nil (cards_of r.replies)) in
    let count_of : count ≡ length (cards_of r.replies) = counted ∙ ap (λ (cards : List ℕ). length cards) (sym all) in
    record {
      plan = Hear r.replies;
      chosen = (goes_on, theirs, vector, own_pick n moves vector of, all, r.chosen);
      lines = r.lines ∙ ap (λ text. text ++ replies_text r.replies) (line ∙ ap (λ count. before ++ hear_line count) count_of) ∙ append_assoc before (hear_line (length (cards_of r.replies))) (replies_text r.replies);
    }

-- ---- replies

text-then : (replies : Replies ℕ) (card : ℕ) (plan : Plan ℕ) → replies_text (then_reply replies card plan) ≡ replies_text replies ++ (on_line card ++ plan_text plan)
text-then NoReply card plan = append-nil (on_line card ++ plan_text plan)
text-then (Reply c q later) card plan = ap (λ text. (on_line c ++ plan_text q) ++ text) (text-then later card plan) ∙ sym (append_assoc (on_line c ++ plan_text q) (replies_text later) (on_line card ++ plan_text plan))

regroup : (a b c d : List ℕ) → ((a ++ b) ++ c) ++ d ≡ a ++ (b ++ (c ++ d))
regroup a b c d = simp append_assoc

module _ (n : NodeValue) (moves : ℕ) (vector : Vector) where
  pub none_written : (cards before : List ℕ) → RepliedSoFar n moves vector cards NoReply → AreRepliesWritten n moves vector cards before before
  none_written cards before so = record { replies = NoReply; split = so.split; chosen = so.chosen; lines = sym (append-nil before) }

  pub so_far : {cards before after : List ℕ} (w : AreRepliesWritten n moves vector cards before after) → RepliedSoFar n moves vector cards w.replies
  so_far w = record { split = w.split; chosen = w.chosen }

  pub all_written : {cards before after : List ℕ} → AreRepliesWritten n moves vector cards before after → cards ≡ [] → AreRepliesWritten n moves vector [] before after
  all_written {before = before} {after = after} w ended = subst (λ cards. AreRepliesWritten n moves vector cards before after) ended w

  pub one_more_written : {cards before now : List ℕ} (w : AreRepliesWritten n moves vector cards before now) (rest lined after : List ℕ) (card : ℕ) (m : NodeValue) (above : Vector)
      → lined ≡ now ++ on_line card → (plan : IsPlanWritten m moves above lined after) → RepliedSoFar n moves vector rest (then_reply w.replies card plan.plan) → AreRepliesWritten n moves vector rest before after
  one_more_written {before = before} w rest lined after card m above line plan so = record {
    replies = then_reply w.replies card plan.plan;
    split = so.split;
    chosen = so.chosen;
    lines = plan.lines ∙ ap (λ text. text ++ plan_text plan.plan) (line ∙ ap (λ text. text ++ on_line card) w.lines) ∙ regroup before (replies_text w.replies) (on_line card) (plan_text plan.plan)
        ∙ ap (λ text. before ++ text) (sym (text-then w.replies card plan.plan));
  }

-- ---- what stands in the text

-- more behind it
stands_grown : (n : NodeValue) (moves : ℕ) (vector : Vector) (text more : List ℕ) (start end : ℕ) → StandsWritten n moves vector text start end → StandsWritten n moves vector (text ++ more) start end
stands_grown n moves vector text more start end s = record {
  plan = s.plan;
  chosen = s.chosen;
  before = s.before;
  after = s.after ++ more;
  lines = ap (λ text. text ++ more) s.lines ∙ append_assoc s.before (plan_text s.plan ++ s.after) more ∙ ap (λ text. s.before ++ text) (append_assoc (plan_text s.plan) s.after more);
  begins = s.begins;
  ends = s.ends;
}

slot_grown : (text more : List ℕ) (slot : Option WrittenPlan) → SlotStands text slot → SlotStands (text ++ more) slot
slot_grown text more None s = s
slot_grown text more (Some w) s = stands_grown w.key.node w.key.moves w.key.vector text more w.lines.start w.lines.end s

pub all_grown : (text more : List ℕ) (slots : List (Option WrittenPlan)) → AllStand text slots → AllStand (text ++ more) slots
all_grown text more slots all = All-weaker (SlotStands text) (SlotStands (text ++ more)) (slot_grown text more) slots all

slot_empty : (text : List ℕ) (slot : Option WrittenPlan) → slot ≡ None → SlotStands text slot
slot_empty text slot none = subst (λ slot. SlotStands text slot) (sym none) tt

pub all_empty : (text : List ℕ) (slots : List (Option WrittenPlan)) → All (λ slot. slot ≡ None) slots → AllStand text slots
all_empty text slots none = All-weaker (λ slot. slot ≡ None) (SlotStands text) (slot_empty text) slots none

-- the plan at the end of the text
pub stands_at_end : (n : NodeValue) (moves : ℕ) (vector : Vector) (text : List ℕ) (start : ℕ) → EndsWritten n moves vector text start → StandsWritten n moves vector text start (length text)
stands_at_end n moves vector text start e = record {
  plan = e.written.plan;
  chosen = e.written.chosen;
  before = e.before;
  after = [];
  lines = e.written.lines ∙ ap (λ text. e.before ++ text) (sym (append-nil (plan_text e.written.plan)));
  begins = e.begins;
  ends = ap (λ (text : List ℕ). length text) e.written.lines ∙ length-append e.before (plan_text e.written.plan);
}

-- remembered with a copy of the node
pub remembered_stands : (copied n : NodeValue) (moves : ℕ) (vector : Vector) (text old : List ℕ) (start end : ℕ) → copied ≡ n → text ≡ old → end ≡ length text → EndsWritten n moves vector old start → StandsWritten copied moves vector text start end
remembered_stands copied n moves vector text old start end same kept long e =
    subst (λ k. StandsWritten copied moves vector text start k) (sym long)
    (stands_at_end copied moves vector text start
    (subst (λ (m : NodeValue). EndsWritten m moves vector text start) (sym same) (subst (λ (t : List ℕ). EndsWritten n moves vector t start) (sym kept) e)))

-- ---- once more

module _ {n : NodeValue} {moves : ℕ} {vector : Vector} {text : List ℕ} {start end : ℕ} (s : StandsWritten n moves vector text start end) where
  pub range_forwards : start ≤ end
  range_forwards = let b = s.begins in let e = s.ends in omega arith

  whole : length text ≡ length s.before + (length (plan_text s.plan) + length s.after)
  whole = ap (λ (text : List ℕ). length text) s.lines ∙ length-append s.before (plan_text s.plan ++ s.after) ∙ ap (λ k. length s.before + k) (length-append (plan_text s.plan) s.after)

  pub range_within : end ≤ length text
  range_within = let w = whole in let e = s.ends in omega arith

  range_is : slice_range text start end ≡ plan_text s.plan
  range_is =
      let from : drop start text ≡ plan_text s.plan ++ s.after = ap (λ k. drop k text) s.begins ∙ ap (λ (text : List ℕ). drop (length s.before) text) s.lines ∙ drop-append_seam s.before (plan_text s.plan ++ s.after) in
      let b = s.begins in
      let e = s.ends in
      let long : end - start ≡ length (plan_text s.plan) = omega arith in
      ap (λ k. take k (drop start text)) long ∙ ap (λ (text : List ℕ). take (length (plan_text s.plan)) text) from ∙ take-append_seam (plan_text s.plan) s.after

  pub written_again : (after : List ℕ) → after ≡ text ++ slice_range text start end → IsPlanWritten n moves vector text after
  written_again after lines = record { plan = s.plan; chosen = s.chosen; lines = lines ∙ ap (λ more. text ++ more) range_is }

-- ---- read

read_same : (read other : Plan ℕ × ℕ) (result : Result (Plan ℕ × ℕ) PlanFault) → result ≡ Ok read → result ≡ Ok other → read.0 ≡ other.0
read_same read other result is also = let same : read ≡ other = cc in ap (λ (p : Plan ℕ × ℕ). p.0) same

-- what is read of a text with one plan is the chosen plan
pub read_chosen : (n : NodeValue) (moves : ℕ) (vector : Vector) (empty text slice : List ℕ) (read : Plan ℕ) (end : ℕ) → IsNode n → IsOfFront n moves vector → empty ≡ [] → IsPlanWritten n moves vector empty text
    → slice ≡ text → plan_read slice 0 ≡ Ok (read, end) → IsChosenPlan bridge read n moves vector
read_chosen n moves vector empty text slice read end sound of none written all is =
    let covered : Covers of.0 vector = (vector, of.2, Dominates-refl vector) in
    let fits = (chosen_plan.wins written.plan n moves vector of.0 sound of.1 covered written.chosen).0 in
    let printed = printed_plan written.plan n moves sound fits in
    let whole : ([] ++ plan_text written.plan) ++ [] ≡ slice = append-nil (plan_text written.plan) ∙ sym (all ∙ written.lines ∙ ap (λ before. before ++ plan_text written.plan) none) in
    let back : plan_read slice 0 ≡ Ok (written.plan, length ([] ++ plan_text written.plan)) =
    subst (λ t. plan_read t 0 ≡ Ok (written.plan, length ([] ++ plan_text written.plan))) whole (reads_back written.plan [] [] printed.0 printed.1 printed.2) in
    let plan : read ≡ written.plan = read_same (read, end) (written.plan, length ([] ++ plan_text written.plan)) (plan_read slice 0) is back in
    subst (λ p. IsChosenPlan bridge p n moves vector) (sym plan) written.chosen
