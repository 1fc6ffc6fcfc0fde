pub mod Reading
pub mod Hiding
pub mod Pages
pub mod Ends
