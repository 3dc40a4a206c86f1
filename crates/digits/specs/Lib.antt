-- Numbers and coordinates in digits, and lines of text. The rules are this project's own.
pub mod Digits
pub mod Lines
