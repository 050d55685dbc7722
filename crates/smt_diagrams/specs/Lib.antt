pub mod Diagram
