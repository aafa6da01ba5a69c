-- How a plan is written: one line a node, and one before each reply.
use Rattle.std.specs.Prelude.{ℕ, ◌+◌, ◌<◌, ◌≤◌, max, ⊤, List, [], ◌++◌, length, codes}
use Rattle.std.specs.Fmt.{decimal}
use Rattle.byte_text.specs.Lines.{line_of}
use Rattle.card_letters.specs.Letters.{letters_of}
use Rattle.strategy_games.specs.Plans.{Plan, Replies, Stop, Play, Hear, NoReply, Reply, cards_of}

unfoldable pub stop_line : List ℕ
stop_line = line_of (codes "stop")

-- declarer's side plays the card
unfoldable pub play_line : ℕ → List ℕ
play_line card = line_of (codes "play " ++ letters_of card)

-- this many replies follow
unfoldable pub hear_line : ℕ → List ℕ
hear_line count = line_of (codes "hear " ++ decimal count)

-- a defender's card, whose reply follows
unfoldable pub on_line : ℕ → List ℕ
on_line card = line_of (codes "on " ++ letters_of card)

abbrev mutual
  -- the lines of a plan, each node before those below it
  pub plan_text : Plan ℕ → List ℕ
  plan_text Stop = stop_line
  plan_text (Play card rest) = play_line card ++ plan_text rest
  plan_text (Hear replies) = hear_line (length (cards_of replies)) ++ replies_text replies

  pub replies_text : Replies ℕ → List ℕ
  replies_text NoReply = []
  replies_text (Reply card plan later) = on_line card ++ plan_text plan ++ replies_text later

abbrev mutual
  -- how many nodes stand one below another, from the root to the lowest leaf
  pub levels_of : Plan ℕ → ℕ
  levels_of Stop = 1
  levels_of (Play card rest) = 1 + levels_of rest
  levels_of (Hear replies) = 1 + levels_below replies

  pub levels_below : Replies ℕ → ℕ
  levels_below NoReply = 0
  levels_below (Reply card plan later) = max (levels_of plan) (levels_below later)

abbrev mutual
  -- each defender's node has 1 to 52 replies
  pub HasReplies : Plan ℕ → Type 0
  HasReplies Stop = ⊤
  HasReplies (Play card rest) = HasReplies rest
  HasReplies (Hear replies) = (1 ≤ length (cards_of replies)) × (length (cards_of replies) ≤ 52) × HaveReplies replies

  pub HaveReplies : Replies ℕ → Type 0
  HaveReplies NoReply = ⊤
  HaveReplies (Reply card plan later) = HasReplies plan × HaveReplies later

abbrev mutual
  -- each card of the plan is one of the 52
  pub HasCards : Plan ℕ → Type 0
  HasCards Stop = ⊤
  HasCards (Play card rest) = (card < 52) × HasCards rest
  HasCards (Hear replies) = HaveCards replies

  pub HaveCards : Replies ℕ → Type 0
  HaveCards NoReply = ⊤
  HaveCards (Reply card plan later) = (card < 52) × HasCards plan × HaveCards later
