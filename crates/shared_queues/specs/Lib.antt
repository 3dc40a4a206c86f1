-- Accounts with a shared queue, and the rule that they keep.
-- Source: this project's rule.
pub mod Accounts
pub mod Queues
