pub mod Trace
pub mod Demand
