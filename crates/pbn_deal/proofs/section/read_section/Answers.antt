use Rattle.std.proofs.Common.{◌≡◌, ℕ, ◌<◌, ◌+◌, ◌-◌, List, ◌∷◌, ◌++◌, [], ◌∙◌, ap, sym, arith, length, drop, get_or, refl, Ok, Option, true, false}
use Rattle.std.specs.Prelude.{count_by, is_ok, is_some, cond}
use Rattle.std.proofs.lemmas.List.{append-nil}
use Rattle.pbn_text.specs.Games.{TokenValue}
use Rattle.pbn_deal.specs.declared.mark.Mark.{Mark}
use Rattle.pbn_deal.specs.declared.mark.Mark.TheVariants.{Plus, Gap, Card}
use Rattle.pbn_deal.specs.declared.section.Entry.{Entry}
use Rattle.pbn_deal.specs.Marks.{mark_of}
use Rattle.pbn_deal.specs.Sections.{section_read, prepend, is_end, is_plus, is_skipped_mark, is_other, is_card, before_end, card_marked}
use Rattle.pbn_deal.proofs.SectionSteps.{section_read-last_plus, count-before_end, entry_more, plus_no_card}
use Rattle.pbn_deal.proofs.Split.{split_at}
use Rattle.pbn_deal.proofs.section.read_section.Goals as goal
use Rattle.pbn_deal.proofs.section.read_section.Goals.{in-Card, in-Plus-2, in-Gap}

-- what the token at hand says
mark_at : {t inside : TokenValue} (bytes : List ℕ) (read m : Mark) → inside ≡ t → bytes ≡ inside.text → read ≡ mark_of bytes → read ≡ m → mark_of t.text ≡ m
mark_at bytes read m view same reads is = sym (ap (λ v. mark_of v.text) view) ∙ sym (ap mark_of same) ∙ sym reads ∙ is

pub returns-in-Plus : goal.returns-in-Plus
returns-in-Plus c =
    let t = c.token-item.result in
    let tokens = c.args.tokens.now in
    let i = c.loop-token.token-index in
    let split = split_at tokens i t (omega arith) c.token-item.is in
    let is = mark_at _ _ Plus c.token.view_is c.bytes.ensures c.read_mark.ensures c.in-Plus.is in
    let counted = ap (λ ts. count_by is_card (before_end ts)) split ∙ count-before_end t (drop (i + 1) tokens) Plus is refl in
    let none : count_by is_card (before_end (drop (i + 1) tokens)) ≡ 0 = omega (arith, counted, c.loop-token.invariant.cards) in
    c.loop-token.invariant.read ∙ ap (λ ts. prepend c.loop-token.entries.items (section_read ts)) split
    ∙ ap (prepend c.loop-token.entries.items) (section_read-last_plus t (drop (i + 1) tokens) is none)
    ∙ ap Ok (append-nil c.loop-token.entries.items)

-- the invariant after a token that makes an entry
entry_step : (tokens : List TokenValue) (i : ℕ) (t inside : TokenValue) (left now : ℕ) (entries longer : List Entry) (card : Option ℕ) (m : Mark)
    → left ≡ count_by is_card (before_end (drop i tokens)) → section_read tokens ≡ prepend entries (section_read (drop i tokens))
    → i < length tokens → t ≡ get_or tokens i t → mark_of t.text ≡ m
    → is_end m ≡ false → is_skipped_mark m ≡ false → is_other m ≡ false → (is_plus m ≡ true → 0 < left)
    → longer ≡ entries ++ (record { card = card; line = inside.line } ∷ []) → inside ≡ t → card ≡ card_marked m → now ≡ left - cond (is_some (card_marked m)) 1 0
    → record { cards : now ≡ count_by is_card (before_end (drop (i + 1) tokens)); read : section_read tokens ≡ prepend longer (section_read (drop (i + 1) tokens)) }
entry_step tokens i t inside left now entries longer card m cards read low here is goes counts known more pushed view same falls =
    let split = split_at tokens i t low here in
    let counted = cards ∙ ap (λ ts. count_by is_card (before_end ts)) split ∙ count-before_end t (drop (i + 1) tokens) m is goes in
    let plus : (p : is_plus m ≡ true) → 0 < count_by is_card (before_end (drop (i + 1) tokens)) = λ p.
    let some = more p in let none : cond {A = ℕ} (is_some (card_marked m)) 1 0 ≡ 0 = plus_no_card m p in omega (arith, counted) in
    record {
      cards = omega (arith, counted, falls);
      read = entry_more tokens (drop (i + 1) tokens) t entries longer (drop i tokens) m read split is goes counts known plus
          (pushed ∙ ap (λ card. entries ++ (record { card = card; line = inside.line } ∷ [])) same ∙ ap (λ v. entries ++ (record { card = card_marked m; line = v.line } ∷ [])) view);
    }

pub loop-token-preserved : goal.loop-token-preserved
loop-token-preserved c =
    let ok : is_ok c.push.result ≡ true = sym c.map_err.ensures.variant ∙ ap is_ok c.in_ok-map_err.was in
    let pushed = c.push.ensures.items ∙ ap (λ b. cond b (c.loop-token.entries.items ++ record { card = c.match-read_mark.card; line = c.token.inside.line } ∷ []) c.loop-token.entries.items) ok in
    elim c.match-read_mark.branch [
      | in-Card w ↦
          entry_step c.args.tokens.now c.loop-token.token-index c.token-item.result _ _ _ _ _ _ (Card w.in-Card.card) c.loop-token.invariant.cards c.loop-token.invariant.read (omega arith) c.token-item.is
          (mark_at _ _ (Card w.in-Card.card) c.token.view_is c.bytes.ensures c.read_mark.ensures w.in-Card.is) refl refl refl (λ p. cc) pushed c.token.view_is w.card-is w.cards_left-is
      | in-Plus-2 w ↦
          entry_step c.args.tokens.now c.loop-token.token-index c.token-item.result _ _ _ _ _ _ Plus c.loop-token.invariant.cards c.loop-token.invariant.read (omega arith) c.token-item.is
          (mark_at _ _ Plus c.token.view_is c.bytes.ensures c.read_mark.ensures w.in-Plus-2.is) refl refl refl (λ p. omega arith) pushed c.token.view_is w.card-is (w.cards_left-is ∙ omega arith)
      | in-Gap w ↦
          entry_step c.args.tokens.now c.loop-token.token-index c.token-item.result _ _ _ _ _ _ Gap c.loop-token.invariant.cards c.loop-token.invariant.read (omega arith) c.token-item.is
          (mark_at _ _ Gap c.token.view_is c.bytes.ensures c.read_mark.ensures w.in-Gap.is) refl refl refl (λ p. cc) pushed c.token.view_is w.card-is (w.cards_left-is ∙ omega arith)
    ]
