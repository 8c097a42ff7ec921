pub mod Lists
pub mod Decided
pub mod Directions
pub mod Doubled
pub mod Descents
pub mod Moves
pub mod Refuted
pub mod Stationary
pub mod Counts
pub mod Lengths
pub mod Every
pub mod Few
pub mod WalkSteps
pub mod WalkLengths
pub mod RegionAnswers
pub mod SomeAnswer
pub mod RegionRays
pub mod SpentSites
pub mod OneEnd
pub mod OneAnswer
pub mod FirstSpent
pub mod ValueOps
pub mod Tested
mod WorkedValley
mod WorkedHill
mod WorkedSlope
mod WorkedPortfolio
pub mod Worked
