pub mod StoreLog
pub mod SettleLaws
pub mod StampLaws
pub mod StorePage
pub mod TableStore
pub mod Checkpoint
