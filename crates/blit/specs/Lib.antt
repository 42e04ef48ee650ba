-- A sprite's row of bits as wide as it is shown.
pub mod Wide
