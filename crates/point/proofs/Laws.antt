-- Laws about the definitions of specs/.
pub mod Point
pub mod Small
