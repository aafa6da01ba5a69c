-- What is written of a plan is read back.
use Rattle.std.proofs.Common.{◌≡◌, ℕ, suc, ◌-◌, ◌<◌, ◌≤◌, Bool, true, ◌&&◌, Option, Some, Result, Ok, List, ◌++◌, length, codes, refl, sym, ap, ◌∙◌, arith, append_assoc, append-nil}
use Rattle.std.specs.Option.{option_map, option_or}
use Rattle.std.specs.List.{list_all, range_with_len}
use Rattle.std.specs.Fmt.{decimal}
use Rattle.std.proofs.lemmas.Bool.{and_parts}
use Rattle.card_letters.specs.Letters.{letters_of}
use Rattle.strategy_games.specs.Plans as games
use Rattle.strategy_games.specs.Plans.{Plan, Replies, cards_of}
use Rattle.strategy_tree.specs.declared.plan_reader.PlanFault.{PlanFault}
use Rattle.strategy_tree.specs.declared.plan_reader.PlanLine.TheVariants.{Stop, Play, Hear}
use Rattle.byte_text.specs.Lines.{line_of, said_at}
use Rattle.strategy_tree.specs.PlanText.{stop_line, play_line, hear_line, on_line, plan_text, replies_text, levels_of, levels_below, HasReplies, HaveReplies, HasCards, HaveCards}
use Rattle.strategy_tree.specs.PlanRead.{card_named, play_said, hear_said, plan_line, reply_line, replies_read, node_read, plan_read, most_levels}
use Rattle.byte_text.proofs.ReadNumbers.{number_within-decimal}
use Rattle.byte_text.proofs.PlainLines.{is_plain, decimal_plain, said_at-here}
use Rattle.strategy_tree.proofs.BelowLimit.{is_number, number_is, below_limit}
use Rattle.strategy_tree.proofs.ReadingNodes.{node_read-stop, node_read-play, node_read-hear}

-- ---- what each line says

-- each card is read from its two letters, which end no line
abbrev reads_card : ℕ → Bool
reads_card card = is_number (card_named (letters_of card)) card && is_plain (letters_of card)

reads_each_card : list_all reads_card (range_with_len 0 52) ≡ true
reads_each_card = refl

card_named-letters_of : (card : ℕ) → card < 52 → (card_named (letters_of card) ≡ Some card) × (is_plain (letters_of card) ≡ true)
card_named-letters_of card low =
    let parts = and_parts _ _ (below_limit reads_card 52 card reads_each_card low) in (number_is _ card parts.0, parts.1)

-- ---- the four lines

stop-said : plan_line (codes "stop") ≡ Some Stop
unfolding plan_line
stop-said = refl

play-said : (card : ℕ) → card < 52 → plan_line (codes "play " ++ letters_of card) ≡ Some (Play card)
unfolding plan_line play_said
play-said card low = ap (λ named. option_or (option_map Play named) (hear_said (codes "play " ++ letters_of card))) (card_named-letters_of card low).0

on-said : (card : ℕ) → card < 52 → reply_line (codes "on " ++ letters_of card) ≡ Some card
unfolding reply_line
on-said card low = (card_named-letters_of card low).0

hear-said : (count : ℕ) → 1 ≤ count → count ≤ 52 → plan_line (codes "hear " ++ decimal count) ≡ Some (Hear count)
unfolding plan_line hear_said play_said
hear-said count from to = ap (λ named. option_map Hear named) (number_within-decimal 1 52 count from to (omega arith))

-- ---- plans

-- a node's line behind these bytes, and what follows it
line_here : {A : Type 0} (says : List ℕ → Option A) (bytes before text rest more : List ℕ) (x : A) → is_plain text ≡ true → says text ≡ Some x → more ≡ line_of text ++ rest → bytes ≡ before ++ more
    → Some (x, length (before ++ line_of text)) ≡ said_at says bytes (length before)
line_here says bytes before text rest more x line said is bytes_are = rw (bytes_are, is) (sym (said_at-here says before text rest x line said))

replies_read-reply : (below : ℕ → Result (Plan ℕ × ℕ) PlanFault) (bytes : List ℕ) (at card next : ℕ) (plan : Plan ℕ) (end : ℕ) (later : Replies ℕ) (last count : ℕ)
    → Some (card, next) ≡ said_at reply_line bytes at → below next ≡ Ok (plan, end) → replies_read below count bytes end ≡ Ok (later, last)
    → replies_read below (suc count) bytes at ≡ Ok (games.Reply card plan later, last)
replies_read-reply below bytes at card next plan end later last count said read more = rw (← said, read, more) refl

-- behind one part, and then behind the next
part : (before first second rest bytes : List ℕ) → bytes ≡ before ++ (first ++ second ++ rest) → bytes ≡ (before ++ first) ++ (second ++ rest)
part before first second rest bytes are = are ∙ ap (λ more. before ++ more) (append_assoc first second rest) ∙ sym (append_assoc before first (second ++ rest))

mutual
  unfolding stop_line play_line hear_line on_line

  pub reads_plan : (plan : Plan ℕ) (levels : ℕ) (bytes before rest : List ℕ) → levels_of plan ≤ levels → HasReplies plan → HasCards plan → bytes ≡ before ++ (plan_text plan ++ rest)
      → node_read levels bytes (length before) ≡ Ok (plan, length (before ++ plan_text plan))
  reads_plan games.Stop levels bytes before rest fits replies cards are =
      node_read-stop levels bytes (length before) (length (before ++ stop_line)) (omega arith) (line_here plan_line bytes before (codes "stop") rest _ Stop refl stop-said refl are)
  reads_plan (games.Play card plan) levels bytes before rest fits replies cards are =
      let said = line_here plan_line bytes before (codes "play " ++ letters_of card) (plan_text plan ++ rest) _ (Play card) (card_named-letters_of card cards.0).1 (play-said card cards.0) (append_assoc (play_line card) (plan_text plan) rest) are in
      let below = reads_plan plan (levels - 1) bytes (before ++ play_line card) rest (omega arith) replies cards.1 (part before (play_line card) (plan_text plan) rest bytes are) in
      node_read-play levels bytes (length before) card (length (before ++ play_line card)) plan _ (omega arith) said below ∙ ap (λ text. Ok (games.Play card plan, length text)) (append_assoc before (play_line card) (plan_text plan))
  reads_plan (games.Hear rs) levels bytes before rest fits replies cards are =
      let count = length (cards_of rs) in
      let said = line_here plan_line bytes before (codes "hear " ++ decimal count) (replies_text rs ++ rest) _ (Hear count) (decimal_plain count) (hear-said count replies.0 replies.1) (append_assoc (hear_line count) (replies_text rs) rest) are in
      let below = reads_replies rs (levels - 1) bytes (before ++ hear_line count) rest (omega arith) replies.2 cards (part before (hear_line count) (replies_text rs) rest bytes are) in
      node_read-hear levels bytes (length before) count (length (before ++ hear_line count)) rs _ (omega arith) said below ∙ ap (λ text. Ok (games.Hear rs, length text)) (append_assoc before (hear_line count) (replies_text rs))

  reads_replies : (rs : Replies ℕ) (levels : ℕ) (bytes before rest : List ℕ) → levels_below rs ≤ levels → HaveReplies rs → HaveCards rs → bytes ≡ before ++ (replies_text rs ++ rest)
      → replies_read (λ place. node_read levels bytes place) (length (cards_of rs)) bytes (length before) ≡ Ok (rs, length (before ++ replies_text rs))
  reads_replies games.NoReply levels bytes before rest fits replies cards are = ap (λ text. Ok (games.NoReply, length text)) (sym (append-nil before))
  reads_replies (games.Reply card plan later) levels bytes before rest fits replies cards are =
      let first = on_line card in
      let all = first ++ plan_text plan ++ replies_text later in
      let here : bytes ≡ before ++ (first ++ (plan_text plan ++ (replies_text later ++ rest))) = are ∙ ap (λ more. before ++ more) (append_assoc (first ++ plan_text plan) (replies_text later) rest ∙ append_assoc first (plan_text plan) (replies_text later ++ rest)) in
      let said = line_here reply_line bytes before (codes "on " ++ letters_of card) (plan_text plan ++ (replies_text later ++ rest)) _ card (card_named-letters_of card cards.0).1 (on-said card cards.0) refl here in
      let below = reads_plan plan levels bytes (before ++ first) (replies_text later ++ rest) (omega arith) replies.0 cards.1 (here ∙ sym (append_assoc before first (plan_text plan ++ (replies_text later ++ rest)))) in
      let after = reads_replies later levels bytes (before ++ first ++ plan_text plan) rest (omega arith) replies.1 cards.2
      (here ∙ sym (append_assoc before first (plan_text plan ++ (replies_text later ++ rest))) ∙ sym (append_assoc (before ++ first) (plan_text plan) (replies_text later ++ rest))) in
      replies_read-reply (λ place. node_read levels bytes place) bytes (length before) card (length (before ++ first)) plan (length (before ++ first ++ plan_text plan)) later _ (length (cards_of later)) said below after
      ∙ ap (λ text. Ok (games.Reply card plan later, length text)) (ap (λ text. text ++ replies_text later) (append_assoc before first (plan_text plan)) ∙ append_assoc before (first ++ plan_text plan) (replies_text later))

-- what is written behind some bytes is read back from there, whatever follows
pub reads_back : (plan : Plan ℕ) (old rest : List ℕ) → levels_of plan ≤ most_levels → HasReplies plan → HasCards plan → plan_read ((old ++ plan_text plan) ++ rest) (length old) ≡ Ok (plan, length (old ++ plan_text plan))
unfolding plan_read
reads_back plan old rest fits replies cards = reads_plan plan 64 ((old ++ plan_text plan) ++ rest) old rest fits replies cards (append_assoc old (plan_text plan) rest)
