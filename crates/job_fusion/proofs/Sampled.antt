-- What plain sampling believes of a card has a bit for each layout.
use Rattle.std.proofs.Common.{◌≡◌, ◌∙◌, ℕ, List, length, All, slice_index_or, sym, subst}
use Rattle.std.proofs.lemmas.List.{length-map}
use Rattle.std.proofs.lemmas.List.Elements.{All-map}
use Rattle.fusion_base.specs.declared.table.CardVector.{CardVector}
use Rattle.fusion_base.specs.Sampling.{made_after, card_vectors}
use Rattle.am_answer.specs.declared.root.Root.{Root}

made_wide : (root : Root) (card : ℕ) → length (made_after root.kept.node card) ≡ length root.kept.node.lefts
made_wide root card = simp length-map

sampled_wide : (root : Root) → length root.kept.weights ≡ length root.kept.node.lefts → All (λ (e : CardVector). length root.kept.weights ≡ length e.vector) (card_vectors root.kept.node)
sampled_wide root weighed =
    All-map (λ (e : CardVector). length root.kept.weights ≡ length e.vector) (λ (card : ℕ). record { card = card; vector = made_after root.kept.node card }) _
    (λ k d inside. weighed ∙ sym (made_wide root (slice_index_or _ k d)))

-- of a root as it is opened
pub table_wide : (opened root : Root) (table : List CardVector) → opened ≡ root → table ≡ card_vectors root.kept.node → length root.kept.weights ≡ length root.kept.node.lefts
    → All (λ (e : CardVector). length opened.kept.weights ≡ length e.vector) table
table_wide opened root table same is weighed =
    subst (λ (r : Root). All (λ (e : CardVector). length r.kept.weights ≡ length e.vector) table) (sym same)
    (subst (λ (entries : List CardVector). All (λ (e : CardVector). length root.kept.weights ≡ length e.vector) entries) (sym is) (sampled_wide root weighed))
