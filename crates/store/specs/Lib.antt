pub mod Reveal
pub mod Offices
pub mod Slots
pub mod Deps
pub mod Current
pub mod Tops
pub mod Bits
