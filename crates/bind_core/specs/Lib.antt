pub mod DoorOpening
pub mod Waiting
