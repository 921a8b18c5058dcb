mod CountLemmas
mod NameLemmas
mod FourTurns
mod SizeLemmas
