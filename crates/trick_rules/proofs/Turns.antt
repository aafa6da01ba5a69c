-- Whose turn it is, and how many cards of a trick are a seat's.
use Rattle.std.proofs.Common.{◌≡◌, ℕ, zero, suc, ◌+◌, ◌<◌, refl, arith, add-one}
use Rattle.std.specs.Prelude.{nat_lt, if◌then◌else◌, ◌==◌}
use Rattle.card_sets.specs.declared.seat.Seat.{Seat}
use Rattle.card_sets.specs.declared.seat.Seat.TheVariants.{Declarer, Left, Dummy, Right}
use Rattle.card_sets.specs.Seats.{next_seat}
use Rattle.trick_rules.specs.Positions.{seat_after, seat_place, places_on}

-- how many cards of a trick of n cards are a seat's
abbrev pub count_in : Seat → ℕ → Seat → ℕ
count_in leader n seat = if nat_lt (places_on leader seat) n then 1 else 0

-- 1 where the two seats are the same
abbrev pub same_seat : Seat → Seat → ℕ
same_seat a b = if seat_place a == seat_place b then 1 else 0

each_seat : (P : Seat → Type 0) → P Declarer → P Left → P Dummy → P Right → (seat : Seat) → P seat
each_seat P a b c d Declarer = a
each_seat P a b c d Left = b
each_seat P a b c d Dummy = c
each_seat P a b c d Right = d

-- the cards of a trick rise by the card of the seat whose turn it is
abbrev Rises : ℕ → Seat → Seat → Type 0
Rises n leader seat = count_in leader (suc n) seat ≡ count_in leader n seat + same_seat (seat_after n leader) seat

rises_each : (n : ℕ) → ((seat : Seat) → Rises n Declarer seat) → ((seat : Seat) → Rises n Left seat) → ((seat : Seat) → Rises n Dummy seat) → ((seat : Seat) → Rises n Right seat) → (leader seat : Seat) → Rises n leader seat
rises_each n a b c d leader seat = each_seat (λ l. (s : Seat) → Rises n l s) a b c d leader seat

rises0 : (leader seat : Seat) → Rises 0 leader seat
rises0 = rises_each 0 (each_seat (Rises 0 Declarer) refl refl refl refl) (each_seat (Rises 0 Left) refl refl refl refl) (each_seat (Rises 0 Dummy) refl refl refl refl) (each_seat (Rises 0 Right) refl refl refl refl)

rises1 : (leader seat : Seat) → Rises 1 leader seat
rises1 = rises_each 1 (each_seat (Rises 1 Declarer) refl refl refl refl) (each_seat (Rises 1 Left) refl refl refl refl) (each_seat (Rises 1 Dummy) refl refl refl refl) (each_seat (Rises 1 Right) refl refl refl refl)

rises2 : (leader seat : Seat) → Rises 2 leader seat
rises2 = rises_each 2 (each_seat (Rises 2 Declarer) refl refl refl refl) (each_seat (Rises 2 Left) refl refl refl refl) (each_seat (Rises 2 Dummy) refl refl refl refl) (each_seat (Rises 2 Right) refl refl refl refl)

rises3 : (leader seat : Seat) → Rises 3 leader seat
rises3 = rises_each 3 (each_seat (Rises 3 Declarer) refl refl refl refl) (each_seat (Rises 3 Left) refl refl refl refl) (each_seat (Rises 3 Dummy) refl refl refl refl) (each_seat (Rises 3 Right) refl refl refl refl)

pub count_in-suc : (n : ℕ) (leader seat : Seat) → n < 4 → count_in leader (suc n) seat ≡ count_in leader n seat + same_seat (seat_after n leader) seat
count_in-suc zero leader seat h = rises0 leader seat
count_in-suc (suc zero) leader seat h = rises1 leader seat
count_in-suc (suc (suc zero)) leader seat h = rises2 leader seat
count_in-suc (suc (suc (suc zero))) leader seat h = rises3 leader seat
count_in-suc (suc (suc (suc (suc n)))) leader seat h = absurd (omega arith)

-- nobody has played to a trick with no card
pub count_in-none : (leader seat : Seat) → count_in leader 0 seat ≡ 0
count_in-none = each_seat (λ l. (s : Seat) → count_in l 0 s ≡ 0) (each_seat (λ s. count_in Declarer 0 s ≡ 0) refl refl refl refl) (each_seat (λ s. count_in Left 0 s ≡ 0) refl refl refl refl) (each_seat (λ s. count_in Dummy 0 s ≡ 0) refl refl refl refl) (each_seat (λ s. count_in Right 0 s ≡ 0) refl refl refl refl)

-- all have played to a trick with four
pub count_in-all : (leader seat : Seat) → count_in leader 4 seat ≡ 1
count_in-all = each_seat (λ l. (s : Seat) → count_in l 4 s ≡ 1) (each_seat (λ s. count_in Declarer 4 s ≡ 1) refl refl refl refl) (each_seat (λ s. count_in Left 4 s ≡ 1) refl refl refl refl) (each_seat (λ s. count_in Dummy 4 s ≡ 1) refl refl refl refl) (each_seat (λ s. count_in Right 4 s ≡ 1) refl refl refl refl)

pub same_seat-self : (seat : Seat) → same_seat seat seat ≡ 1
same_seat-self = each_seat (λ s. same_seat s s ≡ 1) refl refl refl refl

-- the seat to play has not played
pub count_in-turn : (n : ℕ) (leader : Seat) → n < 4 → count_in leader n (seat_after n leader) ≡ 0
count_in-turn zero leader h = each_seat (λ l. count_in l 0 (seat_after 0 l) ≡ 0) refl refl refl refl leader
count_in-turn (suc zero) leader h = each_seat (λ l. count_in l 1 (seat_after 1 l) ≡ 0) refl refl refl refl leader
count_in-turn (suc (suc zero)) leader h = each_seat (λ l. count_in l 2 (seat_after 2 l) ≡ 0) refl refl refl refl leader
count_in-turn (suc (suc (suc zero))) leader h = each_seat (λ l. count_in l 3 (seat_after 3 l) ≡ 0) refl refl refl refl leader
count_in-turn (suc (suc (suc (suc n)))) leader h = absurd (omega arith)

-- one place further
pub seat_after_more : (n : ℕ) (seat : Seat) → seat_after (n + 1) seat ≡ next_seat (seat_after n seat)
seat_after_more n seat = rw add-one (one_more n seat)
  where
    one_more : (n : ℕ) (seat : Seat) → seat_after n (next_seat seat) ≡ next_seat (seat_after n seat)
    one_more zero seat = refl
    one_more (suc n) seat = one_more n (next_seat seat)
