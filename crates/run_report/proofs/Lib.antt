mod ReportTexts
mod ReportLines
mod HistoryTexts
mod NumberLines
mod TreeTexts
mod RunEnds
mod Walks
