pub mod Linalg
