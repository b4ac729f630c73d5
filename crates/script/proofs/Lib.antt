mod Cuts
mod Numerals
mod Openings
mod Bytes
