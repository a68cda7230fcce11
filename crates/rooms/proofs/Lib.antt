pub mod RoomLaws
pub mod PlanLaws
pub mod LookLaws
pub mod PlayLaws
