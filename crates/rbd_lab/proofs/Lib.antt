mod Built
mod Complete
mod Generated
mod Played
mod Refused
mod Shown
mod Summed
mod Taken
pub mod OneText
