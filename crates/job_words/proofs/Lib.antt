mod CommandLemmas
mod ConditionLemmas
mod NumberLemmas
mod PlainLemmas
mod PlaceLemmas
mod TextLemmas
