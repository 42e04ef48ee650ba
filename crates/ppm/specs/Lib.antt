-- A snapshot as a PPM: the palette, the whole output, and how it is written piece by piece.
pub mod Palette
pub mod Picture
pub mod Walk
