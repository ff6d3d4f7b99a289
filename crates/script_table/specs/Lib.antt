pub mod HeldIn
