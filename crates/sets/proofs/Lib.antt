pub mod Each
pub mod FiguresProof
