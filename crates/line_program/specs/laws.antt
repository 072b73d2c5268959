-- What the laws of the trait of replies are proved by.
pub mod LongLines
