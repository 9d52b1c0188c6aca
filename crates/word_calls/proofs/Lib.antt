pub mod WordDemands
