pub mod Results
pub mod Resuming
pub mod Returns
pub mod Unwinding
pub mod HandlerRows
pub mod Short
