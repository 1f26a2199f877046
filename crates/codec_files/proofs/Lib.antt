pub mod Invalid
