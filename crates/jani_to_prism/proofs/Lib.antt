pub mod Kept
pub mod Named
mod ActionLabels
mod GainItems
mod GivenTo
mod Joining
mod LineLists
mod LongActions
mod MapKept
mod MapMade
mod OneLine
mod PairedActions
mod ShortActions
mod Utf8Lines
