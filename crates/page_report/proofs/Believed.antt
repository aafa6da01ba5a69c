-- What plain sampling believes of a card has a bit for each layout.
use Rattle.std.proofs.Common.{◌≡◌, ◌∙◌, ℕ, List, length, All, slice_index_or, sym, subst}
use Rattle.std.proofs.lemmas.List.{length-map}
use Rattle.std.proofs.lemmas.List.Elements.{All-map}
use Rattle.trick_rules.specs.Nodes.{NodeValue}
use Rattle.fusion_base.specs.declared.table.CardVector.{CardVector}
use Rattle.fusion_base.specs.Sampling.{made_after, card_vectors}

made_wide : (n : NodeValue) (card : ℕ) → length (made_after n card) ≡ length n.lefts
made_wide n card = simp length-map

pub believed_wide : (n : NodeValue) (weights : List ℕ) (table : List CardVector) → table ≡ card_vectors n → length weights ≡ length n.lefts
    → All (λ (judged : CardVector). length weights ≡ length judged.vector) table
believed_wide n weights table is weighed =
    subst (λ (entries : List CardVector). All (λ (judged : CardVector). length weights ≡ length judged.vector) entries) (sym is)
    (All-map (λ (judged : CardVector). length weights ≡ length judged.vector) (λ (card : ℕ). record { card = card; vector = made_after n card }) _
    (λ k d inside. weighed ∙ sym (made_wide n (slice_index_or _ k d))))
