-- Laws that several proofs cite.
pub mod Plain
pub mod Answering
pub mod Laying
pub mod Naming
pub mod Recording
