mod Joined
mod Wording
mod Pushed
mod Dealt
mod Sized
