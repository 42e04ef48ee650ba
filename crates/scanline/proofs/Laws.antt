-- Laws about the definitions of specs/.
pub mod Line
pub mod Ready
pub mod Tests
pub mod LineDraws
