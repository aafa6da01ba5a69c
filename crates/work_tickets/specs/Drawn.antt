-- The rule of the word from which numbers are drawn, and what each step tells.
use Rattle.std.specs.Prelude.{◌≡◌, ◌≢◌, ℕ, ◌+◌, ◌≤◌, ◌==◌, cond, ltb, List, [], ◌∷◌, ◌++◌, max, length, slice_index}
use mathlib.Core.Option.{some}
use lib.ListN.{get_elem?}
use Rattle.atomic_table.specs.Table.{State, Me, Step}
use Rattle.work_tickets.specs.declared.rule.TicketView.{TicketView}

-- how often k stands in the list
abbrev pub times : ℕ → List ℕ → ℕ
times k [] = 0
times k (x ∷ xs) = cond (x == k) 1 0 + times k xs

-- no number stands in the list twice
abbrev pub IsOnce : List ℕ → Type 0
IsOnce xs = (k : ℕ) → times k xs ≤ 1

-- how often k stands among the numbers of all passes
abbrev pub times_in_all : ℕ → List TicketView → ℕ
times_in_all k [] = 0
times_in_all k (v ∷ vs) = times k v.numbers + times_in_all k vs

-- once for a number below n, and else not at all
abbrev pub once_below : ℕ → ℕ → ℕ
once_below k n = cond (ltb k n) 1 0

-- the numbers of all passes are the numbers below n, each once
abbrev pub EachOnce : ℕ → List TicketView → Type 0
EachOnce n views = (k : ℕ) → times_in_all k views ≡ once_below k n

-- no pass has read more than the word
abbrev pub IsKnown : ℕ → List TicketView → Type 0
IsKnown word views = (i : ℕ) (v : TicketView) → get_elem? views i ≡ some v → v.read ≤ word

-- The rule: the word is at most the limit, and the numbers below it were drawn, each once
pub record Drawn (limit : ℕ) (s : State Unit TicketView) : Type 0 where
  pub one_word : length s.words ≡ 1
  pub within : slice_index s.words 0 ≤ limit
  pub known : IsKnown (slice_index s.words 0) s.views
  pub once : EachOnce (slice_index s.words 0) s.views

abbrev pub view : ℕ → List ℕ → ℕ → ℕ → TicketView
view limit numbers read tries = record { limit = limit; numbers = numbers; read = read; tries = tries }

abbrev pub first_view : ℕ → TicketView
first_view limit = view limit [] 0 0

-- a new pass has drawn nothing, and has read what the one has of which it is split off
abbrev pub newcomer : TicketView → TicketView
newcomer v = view v.limit [] v.read 0

-- two passes that are one
abbrev pub both : TicketView → TicketView → TicketView
both v w = view v.limit (v.numbers ++ w.numbers) (max v.read w.read) (v.tries + w.tries)

-- what is left of a pass that joined another
abbrev pub spent : TicketView
spent = view 0 [] 0 0

abbrev pub Sat : Type 0
Sat = Me Unit TicketView

-- an exchange that found its number draws it; one that didn't has read another
abbrev pub drew : Step Unit → Sat → ℕ → Sat → Type 0
drew step m found k =
    (k.1 ≡ m.1) × (k.0.limit ≡ m.0.limit) × (k.0.tries ≡ m.0.tries + 1) × (found ≤ m.0.limit)
    × (found ≡ step.first → (k.0.numbers ≡ m.0.numbers ++ found ∷ []) × (k.0.read ≡ found + 1))
    × (found ≢ step.first → (k.0.numbers ≡ m.0.numbers) × (k.0.read ≡ found) × (m.0.read ≤ found))

-- the numbers of a pass are compared
abbrev pub compared : Step Unit → Sat → ℕ → Sat → Type 0
compared step m found k = (k ≡ m) × IsOnce m.0.numbers

-- the word is read: of the pass's numbers each is below it, and stands once
abbrev pub was_read : Sat → ℕ → Sat → Type 0
was_read m found k =
    (k.1 ≡ m.1) × (k.0 ≡ view m.0.limit m.0.numbers found m.0.tries) × (m.0.read ≤ found) × (found ≤ m.0.limit)
    × ((k : ℕ) → times k m.0.numbers ≤ once_below k found)
