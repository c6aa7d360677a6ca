pub mod Inside
pub mod Previews
pub mod Promises
