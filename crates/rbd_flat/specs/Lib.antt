pub mod Series
pub mod Flat
pub mod Laws
pub mod Read
pub mod Site
pub mod Texts
