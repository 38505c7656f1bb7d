pub mod SmallInstances
