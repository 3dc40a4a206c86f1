-- What looks at frames count. This project's rule.
pub mod Looks
