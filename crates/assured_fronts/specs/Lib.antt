pub mod AssuredAt
pub mod AssuredSearches
pub mod AfterReplies
