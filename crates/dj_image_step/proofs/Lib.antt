pub mod Tops
pub mod SoundNext
pub mod SoundFlows
pub mod CheckLaws
pub mod UsedLaws
pub mod GivenOperands
pub mod Stops
pub mod Alike
pub mod ActedLaws
pub mod Awaited
pub mod HostLaws
pub mod Answered
pub mod Called
pub mod Prepared
pub mod Turned
pub mod TableLaws
pub mod ShortTables
pub mod Performed
pub mod UnnamedLaws
pub mod SoundActed
pub mod SoundPrepared
pub mod SoundRuns
pub mod BegunLaws
mod TurningFacts
mod MemoryFacts
