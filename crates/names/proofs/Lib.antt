pub mod LawsCodes
pub mod LawsUpper
pub mod By_code
pub mod LawsOrder
pub mod LawsHash
pub mod Turns
pub mod Figures
pub mod LawsHints
