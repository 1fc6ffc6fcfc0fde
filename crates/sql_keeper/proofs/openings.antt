-- A keeper that is made or opened, and why it isn't.
pub mod Causes
pub mod Empty
pub mod Held
pub mod Made
pub mod MetaFound
pub mod Opens
pub mod RuledOpening
