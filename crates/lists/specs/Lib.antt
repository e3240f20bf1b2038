-- A set of objects as a list of its numbers, strictly rising, and as four groups of 64. Lists has the definitions, Laws what is proved of them.
pub mod Lists
pub mod Laws
