-- What no claim names: tables that private contracts and proofs go by.
pub mod Digits
pub mod SortCodes
pub mod SortTokens
