use Rattle.std.proofs.Common.{◌≡◌, ℕ, List, [], nat_lt, ap, ◌∙◌, sym, inl, inr, arith}
use Rattle.std.specs.Prelude.{◌||◌, min, filter}
use Rattle.std.specs.List.{list_all}
use Rattle.card_sets.specs.SetWords.{has_card, cards_where}
use Rattle.trick_rules.specs.Play.{of_suit}
use Rattle.sure_tricks.specs.Sure.{taken_from}
use Rattle.sure_tricks.proofs.Looking.{none_taken, none_above, in_one_of}
use Rattle.sure_tricks.proofs.count.SeenHands.sure_of.Goals as goal

pub returns-then-is_empty : goal.returns-then-is_empty
returns-then-is_empty c =
    let h = c.args.self.now in
    let r = c.args.ruffs.now in
    let suit = c.args.suit in
    let own : List ℕ = of_suit suit h.own in
    let next : List ℕ = of_suit suit h.next in
    let partner : List ℕ = of_suit suit h.partner in
    let last : List ℕ = of_suit suit h.last in
    let n : ℕ = taken_from r.next own next in
    let p : ℕ = taken_from r.partner own partner in
    let l : ℕ = taken_from r.last own last in
    let all : List ℕ = of_suit suit (cards_where (λ d. has_card (cards_where (λ e. has_card h.next e || has_card h.partner e)) d || has_card h.last d)) in
    let others : c.of_suit.result ≡ all = c.of_suit.ensures.value ∙ ap (of_suit suit) (c.either-others.ensures.value
    ∙ ap (λ cards. cards_where (λ d. has_card cards d || has_card h.last d)) c.either.ensures.value) in
    let none : filter (λ d. list_all (λ e. nat_lt e d) all) own ≡ [] =
    ap (λ cards. filter (λ d. list_all (λ e. nat_lt e d) cards) own) (sym others) ∙ ap (λ cards. filter (λ d. list_all (λ e. nat_lt e d) c.of_suit.result) cards) (sym c.of_suit-own.ensures.value)
    ∙ sym c.after_each.ensures.value ∙ c.is_empty.ensures.value.0 c.if-is_empty.true in
    elim (none_above own next partner last all (in_one_of suit h.next h.partner h.last) none) as (λ _. 0 ≡ min n (min p l)) [
      | inl a ↦ (let e = none_taken r.next own next a in omega arith)
      | inr o ↦ elim o as (λ _. 0 ≡ min n (min p l)) [
        | inl b ↦ (let e = none_taken r.partner own partner b in omega arith)
        | inr d ↦ (let e = none_taken r.last own last d in omega arith)
      ]
    ]
