pub mod TestWords
