-- Texts that have grown by one piece more.
use Rattle.std.proofs.Common.{◌≡◌, ℕ, zero, suc, ◌+◌, ◌<◌, Bool, Some, List, [], ◌∷◌, ◌++◌, length, take, flat_map, slice_get, get_or, max, All, arith, refl, sym, ap, subst, ◌∙◌, append_assoc, codes}
use Rattle.std.proofs.lemmas.List.{append-nil}
use Rattle.std.proofs.lemmas.Grind.{take_at_read, flat_map-append}
use Rattle.std.proofs.lemmas.List.Elements.{All-get_or}
use Rattle.std.proofs.lemmas.Option.{slice_get_within, get_or_from_slice_get}
use Rattle.std.specs.Fmt.{decimal}
use Rattle.card_sets.specs.declared.seat.Seat.TheVariants.{Declarer, Dummy}
use Rattle.trick_rules.specs.Positions.{PositionValue, to_play}
use Rattle.pbn_deal.specs.Boards.{BoardValue}
use Rattle.win_vectors.specs.Weights.{weight_of}
use Rattle.fusion_base.specs.declared.table.CardVector.{CardVector}
use Rattle.byte_text.specs.Lines.{line_of}
use Rattle.strategy_tree.specs.PlanText.{plan_text}
use Rattle.am_report.specs.Answers.{EntryValue}
use Rattle.am_report.specs.Fusion.{greatest_of}
use Rattle.am_report.specs.Lines.{spaced, space_before}
use Rattle.am_report.specs.Head.{seat_text, trump_text, hand_line, trick_line, position_text}
use Rattle.am_report.specs.Solve.{vector_line, entry_text}

-- the first elements of a list, and one more
take-more : {X : Type 0} (xs : List X) (k : ℕ) (x : X) → k < length xs → x ≡ get_or xs k x → take (k + 1) xs ≡ take k xs ++ x ∷ []
take-more xs k x inside is = (take_at_read xs k x inside).1 ∙ ap (λ y. take k xs ++ y ∷ []) (sym is)

-- one more piece of a text
pub piece_more : {X : Type 0} (f : X → List ℕ) (start now next : List ℕ) (xs : List X) (k : ℕ) (x : X) → k < length xs → x ≡ get_or xs k x
    → now ≡ start ++ flat_map f (take k xs) → next ≡ now ++ f x → next ≡ start ++ flat_map f (take (k + 1) xs)
piece_more f start now next xs k x inside is so_far grew =
    grew ∙ ap (λ t. t ++ f x) so_far ∙ append_assoc start (flat_map f (take k xs)) (f x)
    ∙ ap (λ t. start ++ t) (ap (λ t. flat_map f (take k xs) ++ t) (sym (append-nil (f x))) ∙ sym (flat_map-append f (take k xs) (x ∷ [])) ∙ ap (flat_map f) (sym (take-more xs k x inside is)))

-- ---- what stands at a place of a table

-- an entry has a bit for each layout
pub wide_entry : {A : Type 0} (vector : A → List Bool) (weights : List ℕ) (items : List A) (k : ℕ) (item : A) → k < length items → item ≡ get_or items k item
    → All (λ x. length weights ≡ length (vector x)) items → length weights ≡ length (vector item)
wide_entry vector weights items k item inside is all =
    subst (λ x. length weights ≡ length (vector x)) (sym is) (All-get_or (λ x. length weights ≡ length (vector x)) items k item inside all)

greatest_of-push : (weights : List ℕ) (table : List CardVector) (entry : CardVector) → greatest_of weights (table ++ entry ∷ []) ≡ max (greatest_of weights table) (weight_of weights entry.vector)
greatest_of-push weights [] entry = omega arith
greatest_of-push weights (first ∷ table) entry = omega (arith, greatest_of-push weights table entry)

-- the greatest weight of one card more
pub greatest_more : (weights : List ℕ) (table : List CardVector) (k greatest next : ℕ) (entry : CardVector) → k < length table → entry ≡ get_or table k entry → greatest ≡ greatest_of weights (take k table)
    → next ≡ max greatest (weight_of weights entry.vector) → next ≡ greatest_of weights (take (k + 1) table)
greatest_more weights table k greatest next entry inside is so_far more =
    more ∙ ap (λ m. max m (weight_of weights entry.vector)) so_far ∙ sym (greatest_of-push weights (take k table) entry) ∙ ap (greatest_of weights) (sym (take-more table k entry inside is))

-- ---- vectors with their plans

entry_text-whole : (weights : List ℕ) (entry : EntryValue) → vector_line weights entry.vector ++ plan_text entry.plan ≡ entry_text weights entry
unfolding entry_text
entry_text-whole weights entry = refl

-- one more vector with its plan
pub entry_more : (weights start now lined next : List ℕ) (entries : List EntryValue) (k : ℕ) (entry : EntryValue) → k < length entries → entry ≡ get_or entries k entry
    → now ≡ start ++ flat_map (entry_text weights) (take k entries) → lined ≡ now ++ vector_line weights entry.vector → next ≡ lined ++ plan_text entry.plan
    → next ≡ start ++ flat_map (entry_text weights) (take (k + 1) entries)
entry_more weights start now lined next entries k entry inside is so_far line plan =
    piece_more (entry_text weights) start now next entries k entry inside is so_far
    (plan ∙ ap (λ t. t ++ plan_text entry.plan) line ∙ append_assoc now (vector_line weights entry.vector) (plan_text entry.plan) ∙ ap (λ t. now ++ t) (entry_text-whole weights entry))

-- ---- pieces one after another

seven_pieces : (start a b c d e f g : List ℕ) → ((((((start ++ a) ++ b) ++ c) ++ d) ++ e) ++ f) ++ g ≡ start ++ (a ++ b ++ c ++ d ++ e ++ f ++ g)
seven_pieces start a b c d e f g = simp append_assoc

-- the lines of the contract, the hands, the trick and the turn
pub position_grown : (start t1 t2 t3 t4 t5 t6 : List ℕ) (board : BoardValue) (table : PositionValue)
    → t1 ≡ start ++ line_of (codes "declarer " ++ seat_text board Declarer)
    → t2 ≡ t1 ++ line_of (codes "trump " ++ trump_text table.trump)
    → t3 ≡ t2 ++ line_of (codes "need " ++ decimal table.need)
    → t4 ≡ t3 ++ hand_line board Declarer table.declarer
    → t5 ≡ t4 ++ hand_line board Dummy table.dummy
    → t6 ≡ t5 ++ trick_line board table.trick
    → t6 ++ line_of (codes "turn " ++ seat_text board (to_play table)) ≡ start ++ position_text board table
unfolding position_text
position_grown start t1 t2 t3 t4 t5 t6 board table e1 e2 e3 e4 e5 e6 =
    rw (e6, e5, e4, e3, e2, e1)
    (seven_pieces start (line_of (codes "declarer " ++ seat_text board Declarer)) (line_of (codes "trump " ++ trump_text table.trump)) (line_of (codes "need " ++ decimal table.need)) (hand_line board Declarer table.declarer) (hand_line board Dummy table.dummy) (trick_line board table.trick) (line_of (codes "turn " ++ seat_text board (to_play table))))

-- ---- items with spaces between them

module _ (written : ℕ → List ℕ) where
  spaced-push : (first : ℕ) (items : List ℕ) (item : ℕ) → spaced written (first ∷ (items ++ item ∷ [])) ≡ spaced written (first ∷ items) ++ (codes " " ++ written item)
  spaced-push first items item =
      let behind : ℕ → List ℕ = λ x. codes " " ++ written x in
      let all : flat_map behind (items ++ item ∷ []) ≡ flat_map behind items ++ flat_map behind (item ∷ []) = flat_map-append behind items (item ∷ []) in
      let last : flat_map behind (item ∷ []) ≡ codes " " ++ written item = append-nil (behind item) in
      ap (λ t. written first ++ t) (all ∙ ap (λ t. flat_map behind items ++ t) last)
      ∙ sym (append_assoc (written first) (flat_map behind items) (codes " " ++ written item))

  -- one item more
  pub item_more : (start now parted next items : List ℕ) (k item : ℕ) → slice_get items k ≡ Some item
      → now ≡ start ++ spaced written (take k items) → parted ≡ now ++ space_before k → next ≡ parted ++ written item
      → next ≡ start ++ spaced written (take (k + 1) items)
  item_more start now parted next [] k item here so_far blank grew = absurd (omega (arith, slice_get_within [] k item here))
  item_more start now parted next (first ∷ items) zero item here so_far blank grew =
      let one = take-more (first ∷ items) 0 item (slice_get_within (first ∷ items) 0 item here) (sym (get_or_from_slice_get (first ∷ items) 0 item item here)) in
      grew ∙ ap (λ t. t ++ written item) (blank ∙ append-nil now ∙ so_far ∙ append-nil start)
      ∙ ap (λ t. start ++ t) (sym (append-nil (written item)) ∙ ap (spaced written) (sym one))
  item_more start now parted next (first ∷ items) (suc k) item here so_far blank grew =
      let all = first ∷ items in
      let more = take-more all (suc k) item (slice_get_within all (suc k) item here) (sym (get_or_from_slice_get all (suc k) item item here)) in
      grew ∙ ap (λ t. t ++ written item) (blank ∙ ap (λ t. t ++ codes " ") so_far)
      ∙ append_assoc (start ++ spaced written (take (suc k) all)) (codes " ") (written item)
      ∙ append_assoc start (spaced written (take (suc k) all)) (codes " " ++ written item)
      ∙ ap (λ t. start ++ t) (sym (ap (spaced written) more ∙ spaced-push first (take k items) item))
