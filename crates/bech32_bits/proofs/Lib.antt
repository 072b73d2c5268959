pub mod AdaptorWalks
pub mod BitLists
pub mod ByteCuts
pub mod ListSources
pub mod PlainCuts
pub mod RoundTrip
pub mod WholeGroups
