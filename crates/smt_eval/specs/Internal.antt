pub mod DefinitionValues
pub mod GivenBodies
pub mod ItemFault
