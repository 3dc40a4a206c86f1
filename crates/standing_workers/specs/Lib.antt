-- Standing workers: jobs, outcomes, and the accounts of both.
-- Source: this project's rule.
pub mod Desks
pub mod Jobs
pub mod Seats
pub mod Standing
pub mod Tallies
