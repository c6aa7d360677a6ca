pub mod ProgramTexts
pub mod ProgramReading
