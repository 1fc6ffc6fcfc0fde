-- A connection that is shut, a keeper that is stopped, and its database opened again.
pub mod Reopening
pub mod Standing
pub mod StillOpen
pub mod Stopped
