pub mod SoundLines
pub mod AppendedLines
pub mod AppendedReading
pub mod FileNumbers
pub mod NamedLines
pub mod WholePrograms
pub mod FinishedReading
