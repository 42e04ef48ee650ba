-- What `pixel` writes: its arguments, the names of the colours, their origins, and the whole output for any arguments and any file.
pub mod Arguments
pub mod Names
pub mod Origins
pub mod Output
