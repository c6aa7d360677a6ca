-- What the contracts of `vectors` cite. Assumes nothing.
pub mod Lines
pub mod Verdicts
pub mod Tallies
pub mod Replays
