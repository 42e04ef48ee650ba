-- Laws about the definitions of specs/.
pub mod Arguments
pub mod Names
pub mod Origins
pub mod Output
