pub mod InForce
