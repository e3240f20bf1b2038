-- The 256 objects: what a reader believes of them. Below has the bounded definitions that everything is built from, Objects the sets and the clash,
-- Laws what is proved of the clash.
pub mod Below
pub mod Objects
pub mod Laws
