pub mod Text
pub mod Grammar
pub mod Places
pub mod Faults
pub mod Items
pub mod Writable
