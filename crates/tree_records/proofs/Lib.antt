pub mod Tests
pub mod Unescaping
pub mod PathLaws
pub mod Numbers
pub mod PieceTexts
pub mod PathTexts
pub mod RecordTexts
