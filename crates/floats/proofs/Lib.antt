mod NarrowPattern
mod Narrowing
mod Quotients
