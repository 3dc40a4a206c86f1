-- Editors, the clerk that takes their notes, and the rule of the mail between them.
-- Source: this project's rule.
pub mod Beside
pub mod Letters
pub mod Mail
pub mod Notes
pub mod Rule
pub mod Sending
pub mod Shown
