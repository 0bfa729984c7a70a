mod Numbers
mod TypeLaws
mod FormLaws
mod FrameLaws
pub mod WholeLaws
mod TypeFaults
mod FrameFaults
pub mod WholeFaults
mod Loop
mod Written
mod Facts
mod Tested
mod Formed
mod Moved
