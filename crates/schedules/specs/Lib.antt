-- Schedules: what becomes of a journal on which events are played.
-- Source: this project's rule.
pub mod Playing
