pub mod Filing
pub mod Format
pub mod Reading
pub mod Statement
pub mod Told
pub mod Opened
pub mod Opening
