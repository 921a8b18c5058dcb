pub mod Held
pub mod Links
pub mod Order
pub mod Slab
pub mod Tickets
