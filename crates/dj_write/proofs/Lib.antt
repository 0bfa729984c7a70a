pub mod LawProofs
mod Facts
