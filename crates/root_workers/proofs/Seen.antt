-- Passes that see more and more.
pub use Rattle.worker_pool.proofs.Seen.{seen_none, seen_more, seen_parted, seen_joined}
