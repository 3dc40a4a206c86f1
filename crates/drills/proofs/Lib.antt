pub mod DrillLemmas
