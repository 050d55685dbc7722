pub mod ExitStatus
pub mod LineNotes
pub mod Noted
pub mod Recorded
