pub mod Pairing
pub mod Comparing
pub mod Alike
pub mod Cones
pub mod Told
pub mod inner
