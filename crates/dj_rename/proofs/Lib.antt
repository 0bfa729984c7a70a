pub mod ClassTexts
pub mod NameLaws
pub mod TextLaws
pub mod PoolLaws
pub mod Utf8
pub mod Places
pub mod Walking
pub mod PoolTexts
pub mod Seeking
pub mod States
pub mod Appended
pub mod Settled
pub mod Halfway
pub mod Accounting
pub mod Fitting
pub mod Undoing
mod Facts
