-- What proofs and inner functions need, and no public contract cites.
pub mod Blank
pub mod Chain
pub mod Forget
pub mod Lost
pub mod Passed
