pub mod HeldContent
