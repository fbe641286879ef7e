pub mod Buffers
pub mod Records
pub mod Answers
pub mod Requests
pub mod Texts
