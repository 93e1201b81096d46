pub mod Adding
pub mod RootsCollected
pub mod ListedMore
pub mod RootsTold
pub mod TableListed
