-- The Play section, token by token.
use Rattle.std.proofs.Common.{◌≡◌, ℕ, ◌+◌, ◌<◌, Bool, true, false, not, List, [], ◌∷◌, ◌++◌, Option, None, Some, Ok, Err, Result, map, refl, sym, ap, ◌∙◌, arith}
use Rattle.std.specs.Prelude.{count_by, filter, find, nat_lt, ◌&&◌, ◌||◌, is_some, cond}
use Rattle.std.specs.List.{list_any}
use Rattle.std.proofs.lemmas.Bool.{lt-ltb}
use Rattle.std.proofs.lemmas.List.{append_assoc}
use Rattle.std.proofs.lemmas.List.Sums.{sum_by-cons}
use Rattle.pbn_text.specs.Games.{TokenValue}
use Rattle.pbn_deal.specs.declared.fault.BoardRefusal.{BoardRefusal}
use Rattle.pbn_deal.specs.declared.mark.Mark.{Mark}
use Rattle.pbn_deal.specs.declared.mark.Mark.TheVariants.{End, Plus, Gap, Note, Card, Other}
use Rattle.pbn_deal.specs.declared.section.Entry.{Entry}
use Rattle.pbn_deal.specs.Marks.{mark_of}
use Rattle.pbn_deal.specs.Sections.{is_end, is_plus, is_skipped_mark, is_other, card_marked, is_card, before_end, before_last_plus, section_of, entry_of, unless_other, section_read, prepend}

pub prepend-prepend : {A : Type 0} (xs : List A) (x : A) (rest : Result (List A) BoardRefusal) → prepend (xs ++ x ∷ []) rest ≡ prepend xs (prepend (x ∷ []) rest)
prepend-prepend xs x (Ok ys) = ap Ok (append_assoc xs (x ∷ []) ys)
prepend-prepend xs x (Err e) = refl

count-cons : (t : TokenValue) (ts : List TokenValue) → count_by is_card (t ∷ ts) ≡ cond (is_card t) 1 0 + count_by is_card ts
count-cons t ts = sum_by-cons (λ x. cond (is_card x) 1 0) t ts

-- the tokens that count, of the first part of a list
abbrev kept : List TokenValue → List TokenValue
kept ts = filter (λ t. not (is_skipped_mark (mark_of t.text))) ts

-- ---- one token more at the front

before_end-cons : (t : TokenValue) (ts : List TokenValue) → is_end (mark_of t.text) ≡ false → before_end (t ∷ ts) ≡ t ∷ before_end ts
before_end-cons t ts goes = ap (λ b. cond b [] (t ∷ before_end ts)) goes

kept-cons : (t : TokenValue) (ts : List TokenValue) → is_skipped_mark (mark_of t.text) ≡ false → kept (t ∷ ts) ≡ t ∷ kept ts
kept-cons t ts counts = ap (λ b. cond (not b) (t ∷ kept ts) (kept ts)) counts

kept-cons_skipped : (t : TokenValue) (ts : List TokenValue) → is_skipped_mark (mark_of t.text) ≡ true → kept (t ∷ ts) ≡ kept ts
kept-cons_skipped t ts skipped = ap (λ b. cond (not b) (t ∷ kept ts) (kept ts)) skipped

before_last_plus-cons : (t : TokenValue) (ts : List TokenValue) → (is_plus (mark_of t.text) && not (list_any is_card ts)) ≡ false → before_last_plus (t ∷ ts) ≡ t ∷ before_last_plus ts
before_last_plus-cons t ts goes = ap (λ b. cond b [] (t ∷ before_last_plus ts)) goes

before_last_plus-cons_end : (t : TokenValue) (ts : List TokenValue) → (is_plus (mark_of t.text) && not (list_any is_card ts)) ≡ true → before_last_plus (t ∷ ts) ≡ []
before_last_plus-cons_end t ts ends = ap (λ b. cond b [] (t ∷ before_last_plus ts)) ends

-- the cards of a list whose first token is no end
pub count-before_end : (t : TokenValue) (ts : List TokenValue) (m : Mark) → mark_of t.text ≡ m → is_end m ≡ false
    → count_by is_card (before_end (t ∷ ts)) ≡ cond (is_some (card_marked m)) 1 0 + count_by is_card (before_end ts)
count-before_end t ts m is goes =
    ap (count_by is_card) (before_end-cons t ts (ap is_end is ∙ goes)) ∙ count-cons t (before_end ts) ∙ ap (λ m. cond (is_some (card_marked m)) 1 0 + count_by is_card (before_end ts)) is

any-kept_counted : (t : TokenValue) (ts : List TokenValue) → is_skipped_mark (mark_of t.text) ≡ false
    → (is_some (card_marked (mark_of t.text)) || list_any is_card (kept ts)) ≡ nat_lt 0 (cond (is_some (card_marked (mark_of t.text))) 1 0 + count_by is_card ts)
    → list_any is_card (kept (t ∷ ts)) ≡ nat_lt 0 (count_by is_card (t ∷ ts))
any-kept_counted t ts counts e = ap (list_any is_card) (kept-cons t ts counts) ∙ e ∙ sym (ap (nat_lt 0) (count-cons t ts))

any-kept_no_card : (t : TokenValue) (ts : List TokenValue) → list_any is_card (kept ts) ≡ nat_lt 0 (count_by is_card ts)
    → is_some (card_marked (mark_of t.text)) ≡ false → is_skipped_mark (mark_of t.text) ≡ false → list_any is_card (kept (t ∷ ts)) ≡ nat_lt 0 (count_by is_card (t ∷ ts))
any-kept_no_card t ts rest is counts =
    let same : 0 + count_by is_card ts ≡ count_by is_card ts = omega arith in
    any-kept_counted t ts counts (ap (λ b. b || list_any is_card (kept ts)) is ∙ rest ∙ sym (ap (λ b. nat_lt 0 (cond b 1 0 + count_by is_card ts)) is ∙ ap (nat_lt 0) same))

any-kept_step : (t : TokenValue) (ts : List TokenValue) → list_any is_card (kept ts) ≡ nat_lt 0 (count_by is_card ts) → (m : Mark) → mark_of t.text ≡ m
    → list_any is_card (kept (t ∷ ts)) ≡ nat_lt 0 (count_by is_card (t ∷ ts))
any-kept_step t ts rest End e = any-kept_no_card t ts rest (ap (λ m. is_some (card_marked m)) e) (ap is_skipped_mark e)
any-kept_step t ts rest Plus e = any-kept_no_card t ts rest (ap (λ m. is_some (card_marked m)) e) (ap is_skipped_mark e)
any-kept_step t ts rest Gap e = any-kept_no_card t ts rest (ap (λ m. is_some (card_marked m)) e) (ap is_skipped_mark e)
any-kept_step t ts rest Note e =
    let same : 0 + count_by is_card ts ≡ count_by is_card ts = omega arith in
    ap (list_any is_card) (kept-cons_skipped t ts (ap is_skipped_mark e)) ∙ rest
    ∙ ap (nat_lt 0) (sym (count-cons t ts ∙ ap (λ m. cond (is_some (card_marked m)) 1 0 + count_by is_card ts) e ∙ same))
any-kept_step t ts rest (Card card) e =
    let is : is_some (card_marked (mark_of t.text)) ≡ true = ap (λ m. is_some (card_marked m)) e in
    any-kept_counted t ts (ap is_skipped_mark e)
    (ap (λ b. b || list_any is_card (kept ts)) is ∙ sym (ap (λ b. nat_lt 0 (cond b 1 0 + count_by is_card ts)) is ∙ lt-ltb 0 (1 + count_by is_card ts) (omega arith)))
any-kept_step t ts rest Other e = any-kept_no_card t ts rest (ap (λ m. is_some (card_marked m)) e) (ap is_skipped_mark e)

-- whether a card is among the tokens that count, by the number of cards
any-kept : (ts : List TokenValue) → list_any is_card (kept ts) ≡ nat_lt 0 (count_by is_card ts)
any-kept [] = refl
any-kept (t ∷ ts) = any-kept_step t ts (any-kept ts) (mark_of t.text) refl

unless_other-cons : (found : Option TokenValue) (entry : Entry) (entries : List Entry) → unless_other found (entry ∷ entries) ≡ prepend (entry ∷ []) (unless_other found entries)
unless_other-cons None entry entries = refl
unless_other-cons (Some token) entry entries = refl

-- a `+` with no card after it ends the section
pub section_read-last_plus : (t : TokenValue) (ts : List TokenValue) → mark_of t.text ≡ Plus → count_by is_card (before_end ts) ≡ 0 → section_read (t ∷ ts) ≡ Ok []
unfolding section_read
section_read-last_plus t ts plus none =
    let ends : (is_plus (mark_of t.text) && not (list_any is_card (kept (before_end ts)))) ≡ true =
    ap (λ m. is_plus m && not (list_any is_card (kept (before_end ts)))) plus ∙ ap not (any-kept (before_end ts) ∙ ap (nat_lt 0) none) in
    let section : section_of (t ∷ ts) ≡ [] =
    ap (λ xs. before_last_plus (kept xs)) (before_end-cons t ts (ap is_end plus)) ∙ ap before_last_plus (kept-cons t (before_end ts) (ap is_skipped_mark plus))
    ∙ before_last_plus-cons_end t (kept (before_end ts)) ends in
    ap (λ xs. unless_other (find (λ token. is_other (mark_of token.text)) xs) (map entry_of xs)) section

-- a token that counts makes the section's first entry
pub section_read-entry : (t : TokenValue) (ts : List TokenValue) (m : Mark) → mark_of t.text ≡ m → is_end m ≡ false → is_skipped_mark m ≡ false → is_other m ≡ false
    → (is_plus m ≡ true → 0 < count_by is_card (before_end ts))
    → section_read (t ∷ ts) ≡ prepend (record { card = card_marked m; line = t.line } ∷ []) (section_read ts)
unfolding section_read
section_read-entry t ts m is goes counts known more =
    let rest = kept (before_end ts) in
    let stays : (p : Bool) → is_plus m ≡ p → (is_plus m && not (list_any is_card rest)) ≡ false = λ p e.
    elim p as (λ p. is_plus m ≡ p → (is_plus m && not (list_any is_card rest)) ≡ false) [
      | true ↦ λ e. ap (λ b. b && not (list_any is_card rest)) e ∙ ap not (any-kept (before_end ts) ∙ lt-ltb 0 (count_by is_card (before_end ts)) (more e))
      | false ↦ λ e. ap (λ b. b && not (list_any is_card rest)) e
    ] e in
    let section : section_of (t ∷ ts) ≡ t ∷ section_of ts =
    ap (λ xs. before_last_plus (kept xs)) (before_end-cons t ts (ap is_end is ∙ goes)) ∙ ap before_last_plus (kept-cons t (before_end ts) (ap is_skipped_mark is ∙ counts))
    ∙ before_last_plus-cons t rest (ap (λ m. is_plus m && not (list_any is_card rest)) is ∙ stays (is_plus m) refl) in
    ap (λ xs. unless_other (find (λ token. is_other (mark_of token.text)) xs) (map entry_of xs)) section
    ∙ ap (λ m. unless_other (cond (is_other m) (Some t) (find (λ token. is_other (mark_of token.text)) (section_of ts))) (record { card = card_marked m; line = t.line } ∷ map entry_of (section_of ts))) is
    ∙ ap (λ b. unless_other (cond b (Some t) (find (λ token. is_other (mark_of token.text)) (section_of ts))) (record { card = card_marked m; line = t.line } ∷ map entry_of (section_of ts))) known
    ∙ unless_other-cons (find (λ token. is_other (mark_of token.text)) (section_of ts)) (record { card = card_marked m; line = t.line }) (map entry_of (section_of ts))

-- an entry that is read at a place moves from the tokens left to the entries so far
pub entry_more : (tokens ts : List TokenValue) (t : TokenValue) (entries longer : List Entry) (left : List TokenValue) (m : Mark)
    → section_read tokens ≡ prepend entries (section_read left) → left ≡ t ∷ ts → mark_of t.text ≡ m
    → is_end m ≡ false → is_skipped_mark m ≡ false → is_other m ≡ false → (is_plus m ≡ true → 0 < count_by is_card (before_end ts))
    → longer ≡ entries ++ (record { card = card_marked m; line = t.line } ∷ [])
    → section_read tokens ≡ prepend longer (section_read ts)
entry_more tokens ts t entries longer left m before split is goes counts known more pushed =
    before ∙ ap (λ xs. prepend entries (section_read xs)) split ∙ ap (prepend entries) (section_read-entry t ts m is goes counts known more)
    ∙ sym (ap (λ xs. prepend xs (section_read ts)) pushed ∙ prepend-prepend entries (record { card = card_marked m; line = t.line }) (section_read ts))

-- a `+` is no card
pub plus_no_card : (m : Mark) → is_plus m ≡ true → cond {A = ℕ} (is_some (card_marked m)) 1 0 ≡ 0
plus_no_card End plus = refl
plus_no_card Plus plus = refl
plus_no_card Gap plus = refl
plus_no_card Note plus = refl
plus_no_card (Card card) plus = cc
plus_no_card Other plus = refl
