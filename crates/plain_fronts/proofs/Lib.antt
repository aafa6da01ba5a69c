pub mod SameFronts
pub mod CardByCard
