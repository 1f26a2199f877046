pub mod Chain
pub mod Forms
pub mod Mnemonics
pub mod Names
pub mod Numbers
pub mod Operands
pub mod Registers
pub mod Text
