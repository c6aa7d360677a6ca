pub mod EntryLists
pub mod DenseTexts
pub mod TextReadings
pub mod EitherOrder
pub mod ProductPlaces
pub mod ProductByLetters
