mod Planning
mod Telling
mod Deciding
mod Tried
