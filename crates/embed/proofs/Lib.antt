mod Putting
mod Telling
mod Loading
