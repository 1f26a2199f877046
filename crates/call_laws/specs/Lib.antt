pub mod ArgumentLaws
pub mod NumberLaws
pub mod DescriptorLaws
pub mod PairLaws
pub mod ProcessLaws
pub mod NameLaws
pub mod FileLaws
pub mod SizeLaws
