pub mod Actions
pub mod Does
pub mod Tops
pub mod Moves
pub mod Results
pub mod DoesOnHeap
pub mod Arrays
