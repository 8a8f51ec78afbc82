pub mod AcceptedAs
pub mod Controllers
