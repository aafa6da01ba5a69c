-- The plain words for each job: its name, and just the options that it requires.
use Rattle.std.specs.Prelude.{ℕ, List, [], ◌∷◌, codes, true}
use Rattle.job_words.specs.declared.asks.Search.{Search}

-- a job on a deal and its layouts, and what else the job requires
abbrev words_on_layouts : List ℕ → List ℕ → List ℕ → List (List ℕ) → List (List ℕ)
words_on_layouts job deal layouts more = codes "--job" ∷ job ∷ codes "--deal" ∷ deal ∷ codes "--layouts" ∷ layouts ∷ more

-- every best trade-off for a deal and its layouts
abbrev pub solve_words : List ℕ → List ℕ → List ℕ → List (List ℕ)
solve_words deal layouts moves = words_on_layouts (codes "solve") deal layouts (codes "--moves" ∷ moves ∷ [])

-- the card to play
abbrev pub card_words : List ℕ → List ℕ → List ℕ → List (List ℕ)
card_words deal layouts moves = words_on_layouts (codes "card") deal layouts (codes "--moves" ∷ moves ∷ [])

-- the first strategy of the front, played out in the layout of this number
abbrev pub match_words : List ℕ → List ℕ → List ℕ → List ℕ → List (List ℕ)
match_words deal layouts moves layout =
    words_on_layouts (codes "match") deal layouts (codes "--moves" ∷ moves ∷ codes "--layout" ∷ layout ∷ [])

-- what plain sampling believes of each card
abbrev pub fusion_words : List ℕ → List ℕ → List (List ℕ)
fusion_words deal layouts = words_on_layouts (codes "fusion") deal layouts []

-- all layouts of a deal
abbrev pub list_words : List ℕ → List (List ℕ)
list_words deal = codes "--job" ∷ codes "list" ∷ codes "--deal" ∷ deal ∷ []

-- the check of a report
abbrev pub check_words : List ℕ → List ℕ → List ℕ → List (List ℕ)
check_words deal layouts report = words_on_layouts (codes "check") deal layouts (codes "--report" ∷ report ∷ [])

-- the problem made from a number
abbrev pub made_words : List ℕ → List (List ℕ)
made_words number = codes "--job" ∷ codes "made" ∷ codes "--number" ∷ number ∷ []

-- the log that proves a front complete, by trees of 10,000,000 nodes at most
abbrev pub prove_words : List ℕ → List ℕ → List ℕ → List (List ℕ)
prove_words deal layouts moves = words_on_layouts (codes "prove") deal layouts (codes "--moves" ∷ moves ∷ [])

-- the audit of a report by a log
abbrev pub audit_words : List ℕ → List ℕ → List ℕ → List ℕ → List (List ℕ)
audit_words deal layouts report log =
    words_on_layouts (codes "audit") deal layouts (codes "--report" ∷ report ∷ codes "--log" ∷ log ∷ [])

-- every game of a deal file, each on its own layout file
abbrev pub boards_words : List ℕ → List ℕ → List ℕ → List (List ℕ)
boards_words deal layouts moves = words_on_layouts (codes "boards") deal layouts (codes "--moves" ∷ moves ∷ [])

-- how to search if the words say nothing of it
abbrev pub plain_search : Search
plain_search = record {
  nodes = 10000000;
  workers = 1;
  shards = 16;
  room = 16384;
  table = true;
  cuts = true;
}
