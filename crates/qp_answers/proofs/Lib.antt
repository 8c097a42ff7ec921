mod Written
mod SmallNumbers
