-- Who sits, and what they are told.
use Rattle.std.proofs.Common.{◌≡◌, ◌<◌, ◌≤◌, ℕ, suc, ◌+◌, ◌==◌, Bool, true, false, cond, nat_lt, IfSome, List, [], ◌∷◌, ◌++◌, length, take, slice_get, Option, None, Some, refl, sym, ap, ap₂, ◌∙◌, append_assoc, arith}
use Rattle.std.proofs.lemmas.Bool.{lt-ltb, le-ltb, ltb-true, ltb-false, eqb-true, eqb-false}
use Rattle.std.proofs.lemmas.List.{append-nil, take_more, take_all, length_push}
use Rattle.std.proofs.lemmas.Option.{slice_get_within, get_or_from_slice_get}
use Rattle.card_sets.specs.declared.seat.Seat.{Seat}
use Rattle.card_sets.specs.declared.seat.Seat.TheVariants.{Declarer, Left, Dummy, Right}
use Rattle.am_match.specs.Defences.{Sitter, sitter, tell, with_told, tell_table, at_seat, seat, Change, IsChange, table_at, table_for_next, left_waiting}

-- ---- what one is told

with_told-none : (heard : Option (List ℕ)) → with_told [] heard ≡ heard
with_told-none None = refl
with_told-none (Some cards) = ap (λ cs. Some cs) (append-nil cards)

with_told-more : (cards more : List ℕ) (heard : Option (List ℕ)) → with_told more (with_told cards heard) ≡ with_told (cards ++ more) heard
with_told-more cards more None = refl
with_told-more cards more (Some earlier) = ap (λ cs. Some cs) (append_assoc earlier cards more)

pub tell-none : (who : Sitter) → tell [] who ≡ who
tell-none who = ap (λ heard. sitter who.style heard) (with_told-none who.heard)

pub tell-more : (cards more : List ℕ) (who : Sitter) → tell more (tell cards who) ≡ tell (cards ++ more) who
tell-more cards more who = ap (λ heard. sitter who.style heard) (with_told-more cards more who.heard)

pub told_one_more : (cards : List ℕ) (place card : ℕ) (who : Sitter) → slice_get cards place ≡ Some card
    → tell (card ∷ []) (tell (take place cards) who) ≡ tell (take (place + 1) cards) who
told_one_more cards place card who is =
    tell-more (take place cards) (card ∷ []) who
    ∙ ap (λ cs. tell cs who) (sym (take_more cards place card (slice_get_within cards place card is) ∙ ap (λ c. take place cards ++ c ∷ []) (get_or_from_slice_get cards place card card is)))

pub told_all : (cards : List ℕ) (place count : ℕ) (who : Sitter) → count ≡ length cards → count ≤ place → tell (take place cards) who ≡ tell cards who
told_all cards place count who is past = ap (λ cs. tell cs who) (take_all place cards (omega arith))

-- ---- what the table is told

pub tell_table-none : (table : List Sitter) → tell_table [] table ≡ table
tell_table-none [] = refl
tell_table-none (left ∷ []) = ap (λ a. a ∷ []) (tell-none left)
tell_table-none (left ∷ right ∷ others) = ap₂ (λ a b. a ∷ b ∷ others) (tell-none left) (tell-none right)

pub tell_table-more : (cards more : List ℕ) (table : List Sitter) → tell_table more (tell_table cards table) ≡ tell_table (cards ++ more) table
tell_table-more cards more [] = refl
tell_table-more cards more (left ∷ []) = ap (λ a. a ∷ []) (tell-more cards more left)
tell_table-more cards more (left ∷ right ∷ others) = ap₂ (λ a b. a ∷ b ∷ others) (tell-more cards more left) (tell-more cards more right)

pub at_seat-told : (cards : List ℕ) (table : List Sitter) (place : Seat) (who : Sitter) → at_seat table place ≡ Some who
    → at_seat (tell_table cards table) place ≡ Some (tell cards who)
at_seat-told cards [] Left who is = cc
at_seat-told cards (left ∷ []) Left who is = let same : left ≡ who = cc in ap (λ a. Some (tell cards a)) same
at_seat-told cards (left ∷ right ∷ others) Left who is = let same : left ≡ who = cc in ap (λ a. Some (tell cards a)) same
at_seat-told cards [] Right who is = cc
at_seat-told cards (left ∷ []) Right who is = cc
at_seat-told cards (left ∷ right ∷ others) Right who is = let same : right ≡ who = cc in ap (λ a. Some (tell cards a)) same
at_seat-told cards table Declarer who is = cc
at_seat-told cards table Dummy who is = cc

-- one who was told the cards takes a seat at a table that was
seat-told : (cards : List ℕ) (place : Seat) (who : Sitter) (table : List Sitter)
    → seat place (tell cards who) (tell_table cards table) ≡ tell_table cards (seat place who table)
seat-told cards Left who [] = refl
seat-told cards Left who (left ∷ []) = refl
seat-told cards Left who (left ∷ right ∷ others) = refl
seat-told cards Right who [] = refl
seat-told cards Right who (left ∷ []) = refl
seat-told cards Right who (left ∷ right ∷ others) = refl
seat-told cards Declarer who table = refl
seat-told cards Dummy who table = refl

-- ---- the change

-- the change that is still to come after this many cards
abbrev pub waiting_after : Option Change → ℕ → Option Change
waiting_after None played = None
waiting_after (Some change) played = cond (nat_lt played change.at) (Some change) None

pub waiting_is_change : (change : Option Change) (played : ℕ) → IfSome change IsChange → IfSome (waiting_after change played) IsChange
waiting_is_change None played valid = valid
waiting_is_change (Some change) played valid = go (nat_lt played change.at)
  where
    go : (b : Bool) → IfSome (cond b (Some change) None) IsChange
    go true = valid
    go false = tt

-- ---- before the next card

pub none_made : (change : Option Change) (table : List Sitter) → IfSome change IsChange → table_at table change 0 ≡ table
none_made None table valid = refl
none_made (Some change) table valid = ap (λ b. cond b table (seat change.seat change.who table)) (lt-ltb 0 change.at (omega (arith, valid.numbered)))

pub all_to_come : (change : Option Change) → IfSome change IsChange → waiting_after change 0 ≡ change
all_to_come None valid = refl
all_to_come (Some change) valid = ap (λ b. cond b (Some change) None) (lt-ltb 0 change.at (omega (arith, valid.numbered)))

-- a table where each change was made in its time, and the change that is to come
pub record IsSeated (first : List Sitter) (change : Option Change) (cards : List ℕ) (table : List Sitter) (waiting : Option Change) : Type 0 where
  pub table_is : table ≡ tell_table cards (table_at first change (length cards))
  pub waiting_is : waiting ≡ waiting_after change (length cards)

-- the same before the next card, with those who sit as it is played
pub record IsSeatedNext (first : List Sitter) (change : Option Change) (cards : List ℕ) (table : List Sitter) (waiting : Option Change) : Type 0 where
  pub table_is : table ≡ tell_table cards (table_at first change (suc (length cards)))
  pub waiting_is : waiting ≡ waiting_after change (suc (length cards))

pub seated_at_first : (first : List Sitter) (change : Option Change) → IfSome change IsChange → IsSeated first change [] first change
seated_at_first first change valid = record {
  table_is = sym (tell_table-none (table_at first change 0) ∙ none_made change first valid);
  waiting_is = sym (all_to_come change valid);
}

-- before the card of a change that is still to come, by whether it is due
still_to_come : (first table : List Sitter) (change : Change) (cards : List ℕ) (waiting : Option Change) → IsSeated first (Some change) cards table waiting
    → nat_lt (length cards) change.at ≡ true → (d : Bool) → (change.at == suc (length cards)) ≡ d
    → (table_for_next waiting cards table ≡ cond d (seat change.seat (tell cards change.who) (tell_table cards first)) (tell_table cards first))
    × (left_waiting waiting (length cards) ≡ cond d None (Some change))
still_to_come first table change cards waiting seated before d is_d =
    let w : waiting ≡ Some change = seated.waiting_is ∙ ap (λ b. cond b (Some change) None) before in
    let t : table ≡ tell_table cards first = seated.table_is ∙ ap (λ b. tell_table cards (cond b first (seat change.seat change.who first))) before in (
      ap₂ (λ w t. table_for_next w cards t) w t
          ∙ ap (λ b. cond b (seat change.seat (tell cards change.who) (tell_table cards first)) (tell_table cards first)) is_d,
      ap (λ w. left_waiting w (length cards)) w ∙ ap (λ b. cond b None (Some change)) is_d,
    )

-- for a change at a card, by whether it is still to come, and whether it is due
seated_by : (first table : List Sitter) (change : Change) (cards : List ℕ) (waiting : Option Change) → IsSeated first (Some change) cards table waiting
    → (b d : Bool) → nat_lt (length cards) change.at ≡ b → (change.at == suc (length cards)) ≡ d
    → IsSeatedNext first (Some change) cards (table_for_next waiting cards table) (left_waiting waiting (length cards))
seated_by first table change cards waiting seated true true before due =
    let later : nat_lt (suc (length cards)) change.at ≡ false = le-ltb (suc (length cards)) change.at (omega (arith, eqb-true change.at (suc (length cards)) due)) in
    let now = still_to_come first table change cards waiting seated before true due in
    record {
      table_is = now.0 ∙ seat-told cards change.seat change.who first ∙ ap (λ b. tell_table cards (cond b first (seat change.seat change.who first))) (sym later);
      waiting_is = now.1 ∙ ap (λ b. cond b (Some change) None) (sym later);
    }
seated_by first table change cards waiting seated true false before not_due =
    let later : nat_lt (suc (length cards)) change.at ≡ true = lt-ltb (suc (length cards)) change.at (beyond (ltb-true (length cards) change.at before) (eqb-false change.at (suc (length cards)) not_due)) in
    let now = still_to_come first table change cards waiting seated before false not_due in
    record {
      table_is = now.0 ∙ ap (λ b. tell_table cards (cond b first (seat change.seat change.who first))) (sym later);
      waiting_is = now.1 ∙ ap (λ b. cond b (Some change) None) (sym later);
    }
  where
    beyond : length cards < change.at → (change.at ≡ suc (length cards) → ⊥) → suc (length cards) < change.at
    beyond below other = omega arith
seated_by first table change cards waiting seated false d made is_d =
    let later : nat_lt (suc (length cards)) change.at ≡ false = le-ltb (suc (length cards)) change.at (omega (arith, ltb-false (length cards) change.at made)) in
    let w : waiting ≡ None = seated.waiting_is ∙ ap (λ b. cond b (Some change) None) made in
    let t : table ≡ tell_table cards (seat change.seat change.who first) = seated.table_is ∙ ap (λ b. tell_table cards (cond b first (seat change.seat change.who first))) made in
    record {
      table_is =
          ap₂ (λ w t. table_for_next w cards t) w t
          ∙ ap (λ b. tell_table cards (cond b first (seat change.seat change.who first))) (sym later);
      waiting_is = ap (λ w. left_waiting w (length cards)) w ∙ ap (λ b. cond b (Some change) None) (sym later);
    }

pub seated_for_next : (first table : List Sitter) (change : Option Change) (cards : List ℕ) (waiting : Option Change) → IsSeated first change cards table waiting
    → IsSeatedNext first change cards (table_for_next waiting cards table) (left_waiting waiting (length cards))
seated_for_next first table None cards waiting seated = record {
  table_is = ap (λ w. table_for_next w cards table) seated.waiting_is ∙ seated.table_is;
  waiting_is = ap (λ w. left_waiting w (length cards)) seated.waiting_is;
}
seated_for_next first table (Some change) cards waiting seated =
    seated_by first table change cards waiting seated (nat_lt (length cards) change.at) (change.at == suc (length cards)) refl refl

-- after the card that both were told
pub seated_after : (first table : List Sitter) (change : Option Change) (cards : List ℕ) (card : ℕ) (waiting : Option Change)
    → IsSeatedNext first change cards table waiting → IsSeated first change (cards ++ card ∷ []) (tell_table (card ∷ []) table) waiting
seated_after first table change cards card waiting seated =
    let longer : length (cards ++ card ∷ []) ≡ suc (length cards) = omega (arith, length_push cards card) in
    record {
      table_is =
          ap (λ t. tell_table (card ∷ []) t) seated.table_is
          ∙ tell_table-more cards (card ∷ []) (table_at first change (suc (length cards)))
          ∙ ap (λ n. tell_table (cards ++ card ∷ []) (table_at first change n)) (sym longer);
      waiting_is = seated.waiting_is ∙ ap (λ n. waiting_after change n) (sym longer);
    }
