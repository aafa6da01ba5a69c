pub mod Keys
pub mod Shard
pub mod Shards
pub mod Passes
pub mod Stores
pub mod Limits
pub mod Ends
