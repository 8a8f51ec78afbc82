pub mod BareRows
pub mod BareTwice
pub mod Items
