mod MovedUp
mod Closing
mod Relative
mod Hands
