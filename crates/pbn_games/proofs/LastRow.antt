-- A play trick by trick, and what is left of it at its end.
use Rattle.std.proofs.Common.{◌≡◌, ◌<◌, ◌≤◌, ◌+◌, ◌++◌, ℕ, List, [], ◌∷◌, length, take, drop, get_or, codes, append_assoc, refl, sym, ap, ap₂, ◌∙◌, arith}
use Rattle.card_letters.specs.Letters.{letters_of}
use Rattle.card_sets.specs.declared.seat.Seat.{Seat}
use Rattle.card_sets.specs.declared.seat.Seat.TheVariants.{Declarer, Left, Dummy, Right}
use Rattle.trick_rules.specs.declared.trump.Trump.{Trump}
use Rattle.pbn_games.specs.PlayRows.{by_columns, winner_from, row_text, rows_text, one_if_ours, tricks_won}

pub no_row : (trump : Trump) (first leader : Seat) (rest : List ℕ) → length rest < 4 → rows_text trump first leader rest ≡ []
no_row trump first leader [] short = refl
no_row trump first leader (a ∷ []) short = refl
no_row trump first leader (a ∷ b ∷ []) short = refl
no_row trump first leader (a ∷ b ∷ c ∷ []) short = refl
no_row trump first leader (a ∷ b ∷ c ∷ d ∷ rest) short = absurd (omega (arith, short))

pub none_won : (trump : Trump) (leader : Seat) (rest : List ℕ) → length rest < 4 → tricks_won trump leader rest ≡ 0
none_won trump leader [] short = refl
none_won trump leader (a ∷ []) short = refl
none_won trump leader (a ∷ b ∷ []) short = refl
none_won trump leader (a ∷ b ∷ c ∷ []) short = refl
none_won trump leader (a ∷ b ∷ c ∷ d ∷ rest) short = absurd (omega (arith, short))

-- ---- the next trick

pub one_row : (trump : Trump) (first leader : Seat) (rest : List ℕ) → 4 ≤ length rest
    → rows_text trump first leader rest ≡ row_text (by_columns first leader (take 4 rest)) ++ rows_text trump first (winner_from trump leader (take 4 rest)) (drop 4 rest)
one_row trump first leader [] long = absurd (omega (arith, long))
one_row trump first leader (a ∷ []) long = absurd (omega (arith, long))
one_row trump first leader (a ∷ b ∷ []) long = absurd (omega (arith, long))
one_row trump first leader (a ∷ b ∷ c ∷ []) long = absurd (omega (arith, long))
one_row trump first leader (a ∷ b ∷ c ∷ d ∷ rest) long = refl

pub one_trick : (trump : Trump) (leader : Seat) (rest : List ℕ) → 4 ≤ length rest
    → tricks_won trump leader rest ≡ one_if_ours (winner_from trump leader (take 4 rest)) + tricks_won trump (winner_from trump leader (take 4 rest)) (drop 4 rest)
one_trick trump leader [] long = absurd (omega (arith, long))
one_trick trump leader (a ∷ []) long = absurd (omega (arith, long))
one_trick trump leader (a ∷ b ∷ []) long = absurd (omega (arith, long))
one_trick trump leader (a ∷ b ∷ c ∷ []) long = absurd (omega (arith, long))
one_trick trump leader (a ∷ b ∷ c ∷ d ∷ rest) long = refl

pub four_cards : (cards : List ℕ) (a b c d : ℕ) → length cards ≡ 4 → a ≡ get_or cards 0 a → b ≡ get_or cards 1 b → c ≡ get_or cards 2 c → d ≡ get_or cards 3 d
    → a ∷ b ∷ c ∷ d ∷ [] ≡ cards
four_cards [] a b c d long is_a is_b is_c is_d = absurd (omega (arith, long))
four_cards (x ∷ []) a b c d long is_a is_b is_c is_d = absurd (omega (arith, long))
four_cards (x ∷ y ∷ []) a b c d long is_a is_b is_c is_d = absurd (omega (arith, long))
four_cards (x ∷ y ∷ z ∷ []) a b c d long is_a is_b is_c is_d = absurd (omega (arith, long))
four_cards (x ∷ y ∷ z ∷ w ∷ v ∷ rest) a b c d long is_a is_b is_c is_d = absurd (omega (arith, long))
four_cards (x ∷ y ∷ z ∷ w ∷ []) a b c d long is_a is_b is_c is_d =
    ap₂ (λ p q. p ∷ q) is_a (ap₂ (λ p q. p ∷ q) is_b (ap₂ (λ p q. p ∷ q) is_c (ap (λ p. p ∷ []) is_d)))

pub next_row : (trump : Trump) (first leader winner : Seat) (rest front later trick row text now all : List ℕ) → 4 ≤ length rest → front ≡ take 4 rest → later ≡ drop 4 rest
    → trick ≡ front → row ≡ by_columns first leader trick → now ≡ text ++ row_text row → winner ≡ winner_from trump leader trick
    → text ++ rows_text trump first leader rest ≡ all → now ++ rows_text trump first winner later ≡ all
next_row trump first leader winner rest front later trick row text now all long is_front is_later is_trick is_row is_now is_winner so_far =
    let cards : trick ≡ take 4 rest = is_trick ∙ is_front in
    let columns : row ≡ by_columns first leader (take 4 rest) = is_row ∙ ap (λ cs. by_columns first leader cs) cards in
    let won : winner ≡ winner_from trump leader (take 4 rest) = is_winner ∙ ap (λ cs. winner_from trump leader cs) cards in
    ap₂ (λ (t r : List ℕ). t ++ r) (is_now ∙ ap (λ cs. text ++ row_text cs) columns) (ap₂ (λ (w : Seat) (cs : List ℕ). rows_text trump first w cs) won is_later)
    ∙ append_assoc text (row_text (by_columns first leader (take 4 rest))) (rows_text trump first (winner_from trump leader (take 4 rest)) (drop 4 rest))
    ∙ ap (λ r. text ++ r) (sym (one_row trump first leader rest long)) ∙ so_far

pub at_most_one : (seat : Seat) → one_if_ours seat ≤ 1
at_most_one Declarer = omega arith
at_most_one Left = omega arith
at_most_one Dummy = omega arith
at_most_one Right = omega arith

pub next_trick : (trump : Trump) (leader winner : Seat) (rest front later trick : List ℕ) (won one all : ℕ) → 4 ≤ length rest → front ≡ take 4 rest → later ≡ drop 4 rest
    → trick ≡ front → winner ≡ winner_from trump leader trick → one ≡ one_if_ours winner
    → won + tricks_won trump leader rest ≡ all → won + one + tricks_won trump winner later ≡ all
next_trick trump leader winner rest front later trick won one all long is_front is_later is_trick is_winner is_one so_far =
    let next : winner ≡ winner_from trump leader (take 4 rest) = is_winner ∙ ap (λ cs. winner_from trump leader cs) (is_trick ∙ is_front) in
    let left : tricks_won trump winner later ≡ tricks_won trump (winner_from trump leader (take 4 rest)) (drop 4 rest) = ap₂ (λ (w : Seat) (cs : List ℕ). tricks_won trump w cs) next is_later in
    let here : one ≡ one_if_ours (winner_from trump leader (take 4 rest)) = is_one ∙ ap (λ w. one_if_ours w) next in
    omega (arith, left, here, one_trick trump leader rest long, so_far)

-- ---- a row as it is written

pub row_written : (a b c d : ℕ) (text one two three four : List ℕ) → one ≡ text ++ (letters_of a ++ codes " ") → two ≡ one ++ (letters_of b ++ codes " ")
    → three ≡ two ++ (letters_of c ++ codes " ") → four ≡ three ++ (letters_of d ++ codes "\n") → four ≡ text ++ row_text (a ∷ b ∷ c ∷ d ∷ [])
unfolding row_text
row_written a b c d text one two three four is_one is_two is_three is_four =
    let last = letters_of d ++ codes "\n" in
    is_four ∙ ap (λ t. t ++ last) (is_three ∙ ap (λ t. t ++ (letters_of c ++ codes " ")) (is_two ∙ ap (λ t. t ++ (letters_of b ++ codes " ")) is_one))
    ∙ append_assoc ((text ++ (letters_of a ++ codes " ")) ++ (letters_of b ++ codes " ")) (letters_of c ++ codes " ") last
    ∙ append_assoc (text ++ (letters_of a ++ codes " ")) (letters_of b ++ codes " ") ((letters_of c ++ codes " ") ++ last)
    ∙ append_assoc text (letters_of a ++ codes " ") ((letters_of b ++ codes " ") ++ ((letters_of c ++ codes " ") ++ last))
