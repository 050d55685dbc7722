pub mod Keys
pub mod Same
pub mod ElementCodes
