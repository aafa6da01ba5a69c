-- Places in buckets, each by its digest.
use Rattle.std.specs.Prelude.{◌≡◌, ◌≢◌, ℕ, ◌-◌, ◌%◌, ◌<◌, ◌≤◌, List, length, slice_index}

-- how many buckets there are, and the digest of each place
pub record BucketsValue : Type 0 where
  pub buckets : ℕ
  pub digests : List ℕ

-- the bucket of a place, among this many
abbrev pub bucket_at : List ℕ → ℕ → ℕ → ℕ
bucket_at digests buckets place = slice_index digests place % buckets

-- `last` is one more than the last place of the bucket among the places below a limit, and 0 if there is none
pub record IsLast (digests : List ℕ) (buckets bucket limit last : ℕ) : Type 0 where
  pub within : last ≤ limit
  pub there : 0 < last → bucket_at digests buckets (last - 1) ≡ bucket
  pub none_after : (place : ℕ) → last ≤ place → place < limit → bucket_at digests buckets place ≢ bucket

-- the first `count` places are linked: a bucket's head is its last place, and each place names the one before it in its bucket
pub record AreLinked (digests heads earlier : List ℕ) (count : ℕ) : Type 0 where
  pub head : (bucket : ℕ) → bucket < length heads → IsLast digests (length heads) bucket count (slice_index heads bucket)
  pub link : (place : ℕ) → place < count → IsLast digests (length heads) (bucket_at digests (length heads) place) place (slice_index earlier place)
