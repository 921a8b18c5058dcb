pub mod Listed
pub mod Most
pub mod Paging
pub mod Places
pub mod Sheaves
pub mod Sheets
