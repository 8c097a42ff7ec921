mod Equations
mod Exchanges
