pub mod DecimalLaws
pub mod SentenceLaws
pub mod NumberRanges
pub mod LineParts
pub mod LineText
pub mod LineTells
pub mod RefusalsTold
pub mod LineReadings
