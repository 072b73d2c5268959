mod Checksums
mod Parts
mod Rows
mod Shares
mod Strings
