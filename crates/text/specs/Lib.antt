pub mod Pieces
pub mod PieceLaws
pub mod Fields
pub mod Lines
pub mod Figures
pub mod Placing
