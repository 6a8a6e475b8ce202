mod Answered
mod Exits
