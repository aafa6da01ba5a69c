pub mod FinesseLemmas
