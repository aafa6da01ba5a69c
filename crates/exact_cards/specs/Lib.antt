pub mod ExactRows
pub mod Laws
