pub mod Places
pub mod Divisors
pub mod Products
pub mod Divided
pub mod Units
pub mod Below
