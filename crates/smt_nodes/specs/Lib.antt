pub mod Node
pub mod NodeView
pub mod NodeParts
pub mod Literals
pub mod Elements
pub mod PartsView
pub mod Nodes
pub mod Internal
