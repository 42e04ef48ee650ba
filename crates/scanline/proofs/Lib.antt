pub mod Laws
pub mod Inside
pub mod SameColours
pub mod ColoursAlone
