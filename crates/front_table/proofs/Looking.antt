-- A walk through a bucket.
use Rattle.std.proofs.Common.{◌≡◌, ◌≢◌, ℕ, ◌-◌, ◌%◌, ◌<◌, ◌≤◌, List, length, map, sym, ap, subst, ◌∙◌, arith, get_or, inl, inr}
use Rattle.std.proofs.lemmas.List.{length-map, get_or-map}
use Rattle.std.proofs.lemmas.Bool.{cases_order}
use Rattle.trick_rules.specs.Nodes.{NodeValue}
use Rattle.front_table.specs.Buckets.{bucket_at, IsLast}
use Rattle.front_table.specs.Digests.{digest_of}
use Rattle.front_table.specs.Entries.{StoredFrontValue, HasKey, IsOfKey}

abbrev pub key_digest : StoredFrontValue → ℕ
key_digest e = digest_of e.node e.moves

-- the entries behind a walk, which stands at the place before `last` of its bucket, aren't of this key
pub record IsPassed (list : List StoredFrontValue) (digests : List ℕ) (buckets digest : ℕ) (node : NodeValue) (moves last : ℕ) : Type 0 where
  pub within : last ≤ length list
  pub there : 0 < last → bucket_at digests buckets (last - 1) ≡ digest % buckets
  pub behind : (place : ℕ) (e : StoredFrontValue) → last ≤ place → place < length list → get_or list place e ≡ e → ¬ IsOfKey node moves e

-- the digest at a place is that of the entry there
pub digest_there : (list : List StoredFrontValue) (digests : List ℕ) (place : ℕ) (e : StoredFrontValue) → digests ≡ map key_digest list → place < length list → get_or list place e ≡ e → get_or digests place 0 ≡ key_digest e
digest_there list digests place e kept within is = rw (kept, get_or-map key_digest list place e 0 within) (ap key_digest is)

-- an entry of the key has its digest
pub key_has_digest : (node : NodeValue) (moves : ℕ) (e : StoredFrontValue) → IsOfKey node moves e → key_digest e ≡ digest_of node moves
key_has_digest node moves e h = rw (h.node, h.moves) (λ i. digest_of node moves)

-- in a bucket's gap there is no entry of the key
none_between : (list : List StoredFrontValue) (digests : List ℕ) (buckets : ℕ) (node : NodeValue) (moves limit last : ℕ) → digests ≡ map key_digest list
    → IsLast digests buckets (digest_of node moves % buckets) limit last → (place : ℕ) (e : StoredFrontValue) → last ≤ place → place < limit → place < length list → get_or list place e ≡ e
    → ¬ IsOfKey node moves e
none_between list digests buckets node moves limit last kept h place e low high within is key =
    h.none_after place low high (ap (λ d. d % buckets) (digest_there list digests place e kept within is ∙ key_has_digest node moves e key))

pub passed-first : (list : List StoredFrontValue) (digests : List ℕ) (buckets digest : ℕ) (node : NodeValue) (moves last : ℕ) → digests ≡ map key_digest list → digest ≡ digest_of node moves
    → IsLast digests buckets (digest % buckets) (length digests) last → IsPassed list digests buckets digest node moves last
passed-first list digests buckets digest node moves last kept is h =
    let long : length digests ≡ length list = ap length kept ∙ rw length-map (λ i. length list) in
    let here : IsLast digests buckets (digest_of node moves % buckets) (length digests) last = subst (λ d. IsLast digests buckets (d % buckets) (length digests) last) is h in
    record {
      within = omega (arith, h.within);
      there = h.there;
      behind = λ place e low within at. none_between list digests buckets node moves (length digests) last kept here place e low (omega arith) within at;
    }

pub passed-more : (list : List StoredFrontValue) (digests : List ℕ) (buckets digest : ℕ) (node : NodeValue) (moves last place next : ℕ) → digests ≡ map key_digest list → digest ≡ digest_of node moves
    → 0 < last → place ≡ last - 1 → IsPassed list digests buckets digest node moves last
    → ((e : StoredFrontValue) → get_or list place e ≡ e → ¬ IsOfKey node moves e)
    → IsLast digests buckets (bucket_at digests buckets place) place next → IsPassed list digests buckets digest node moves next
passed-more list digests buckets digest node moves last place next kept is some at_place h other step =
    let bucket : bucket_at digests buckets place ≡ digest % buckets = subst (λ k. bucket_at digests buckets k ≡ digest % buckets) (sym at_place) (h.there some) in
    let here : IsLast digests buckets (digest % buckets) place next = subst (λ b. IsLast digests buckets b place next) bucket step in
    let gap : IsLast digests buckets (digest_of node moves % buckets) place next = subst (λ d. IsLast digests buckets (d % buckets) place next) is here in
    record {
      within = omega (arith, h.within, step.within);
      there = here.there;
      behind = λ k e low within at. elim (cases_order k place) [
        | inl same ↦ other e (subst (λ j. get_or list j e ≡ e) same at)
        | inr (inl below) ↦ none_between list digests buckets node moves place next kept gap k e low below within at
        | inr (inr above) ↦ h.behind k e (omega arith) within at
      ];
    }

-- an entry with another digest isn't of the key
pub other_digest : (list : List StoredFrontValue) (digests : List ℕ) (digest : ℕ) (node : NodeValue) (moves place : ℕ) → digests ≡ map key_digest list → digest ≡ digest_of node moves → place < length list
    → get_or digests place 0 ≢ digest → (e : StoredFrontValue) → get_or list place e ≡ e → ¬ IsOfKey node moves e
other_digest list digests digest node moves place kept is within apart e at key =
    apart (digest_there list digests place e kept within at ∙ key_has_digest node moves e key ∙ sym is)

-- a walk to its end finds none
pub passed-all : (list : List StoredFrontValue) (digests : List ℕ) (buckets digest : ℕ) (node : NodeValue) (moves last : ℕ) → last ≤ 0 → IsPassed list digests buckets digest node moves last → ¬ HasKey list node moves
passed-all list digests buckets digest node moves last none h (e, (place, within, is), key) = h.behind place e (omega arith) within is key
