pub mod Drill
