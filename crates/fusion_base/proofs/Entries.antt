-- The entries of plain sampling, in card order.
use Rattle.std.proofs.Common.{◌≡◌, ℕ, ◌<◌, List, length, map, get_or, Contains, subst, sym, ap, ◌∙◌, arith}
use Rattle.std.proofs.lemmas.List.{length-map, get_or_default}
use Rattle.std.proofs.Math.ListN.{get_or-map}
use Rattle.std.proofs.lemmas.List.Elements.{Contains-get_or}
use Rattle.trick_rules.specs.Nodes.{NodeValue, choices}
use Rattle.fusion_base.specs.declared.table.CardVector.{CardVector}
use Rattle.fusion_base.specs.Sampling.{made_after, card_vectors}
use Rattle.fusion_base.proofs.Sampled.{line_of}

module _ (n : NodeValue) (table : List CardVector) (place : ℕ) (entry : CardVector) (is : table ≡ card_vectors n) (inside : place < length table) (same : entry ≡ get_or table place entry) where
  pub within : place < length (choices n)
  within = omega (arith, inside, ap (length {A = CardVector}) is, length-map (choices n) (line_of n))

  entry_is : entry ≡ line_of n (get_or (choices n) place 0)
  entry_is =
      same
      ∙ ap (λ t. get_or t place entry) is
      ∙ get_or_default (map (line_of n) (choices n)) place entry (line_of n 0) (omega (arith, within, length-map (choices n) (line_of n)))
      ∙ get_or-map (line_of n) (choices n) place 0

  first_is : entry.card ≡ get_or (choices n) place 0
  first_is = ap (λ e. e.card) entry_is

  pub entry_card : entry.card ≡ get_or (choices n) place entry.card
  entry_card = first_is ∙ get_or_default (choices n) place 0 entry.card within

  pub entry_member : Contains (choices n) entry.card
  entry_member = subst (Contains (choices n)) (sym first_is) (Contains-get_or (choices n) place 0 within)

  pub entry_vector : entry.vector ≡ made_after n entry.card
  entry_vector = ap (λ e. e.vector) entry_is ∙ ap (made_after n) (sym first_is)
