pub mod Parts
pub mod Command
pub mod CommandView
pub mod Stack
pub mod StackView
pub mod Standing
pub mod Internal
