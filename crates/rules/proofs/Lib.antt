pub mod LargestFirst
