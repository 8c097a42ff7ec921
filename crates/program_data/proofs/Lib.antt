mod Found
mod Rows
mod Padded
mod Changed
mod KeptLemmas
