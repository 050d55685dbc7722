-- What no claim names: the machine that private contracts and proofs go by.
pub mod AtomScanning
pub mod ByteKinds
pub mod LexerStates
pub mod ReaderState
pub mod Scanning
