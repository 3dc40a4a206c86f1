-- Errands: what answers what was asked, and whose turn it is.
-- Source: this project's rule.
pub mod Ends
pub mod Turns
