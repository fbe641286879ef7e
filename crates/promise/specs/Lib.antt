pub mod History
pub mod Promise
pub mod Requests
pub mod Conduct
