pub mod NamedPins
