pub mod Given
pub mod Told
pub mod Held
pub mod Feed
pub mod Rows
