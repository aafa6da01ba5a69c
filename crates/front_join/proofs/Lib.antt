mod JoinLemmas
pub mod JoinLaws
