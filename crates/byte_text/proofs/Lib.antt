pub mod Places
pub mod Words
pub mod ReadLines
pub mod ReadNumbers
pub mod PlainLines
