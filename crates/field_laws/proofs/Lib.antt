pub mod BrushLemmas
